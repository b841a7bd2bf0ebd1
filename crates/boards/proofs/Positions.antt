-- Where a digit stands in a legal full grid, by bands: in each row and box of a band once, and no two of its places share a row, a column or a box.
-- Assumes nothing.
use mathlib.Core.Path.{◌≡◌, ap, sym, ◌∙◌}
use mathlib.Core.List.{List, []}
use Prim.Native.Nat.{ℕ, ◌+◌, ◌*◌, ◌-◌, ◌/◌, ◌%◌, ◌<◌}
use native.Mathlib.Decide.{dec_lt}
use native.Mathlib.Omega.{arith}
use lib.Dec.{eqb}
use Rattle.grid.specs.Grid.{byte, is_digit}
use Rattle.grid.specs.House.{cell_of}
use Rattle.grid.specs.Completion.{times, Legal}
use Rattle.grid.proofs.Counting.{tally_find, tally_pair}
use Rattle.grid.proofs.Completion.{eq_iff, digit_iff}
use Rattle.grid.proofs.House.{row_cell, column_cell, box_cell}
use Rattle.boards.specs.Boards.{Has}

-- a legal completion is a legal full grid
pub without_givens : (g b : List ℕ) → Legal g b → Legal [] b
without_givens g b l = record { long = l.long; digits = l.digits; keeps = λ c h t. absurd (unfold is_digit in t); once = l.once }

module _ (b : List ℕ) (legal : Legal [] b) where
  -- a cell has some digit
  pub some_digit : (j i : ℕ) → j < 3 → i < 27 → (d : ℕ) × (d < 9) × Has b d j i
  some_digit j i h k =
      let t = (digit_iff (byte b (27 * j + i))).0 (legal.digits (27 * j + i) (omega arith)) in
      (byte b (27 * j + i) - 49, omega (arith, t.0, t.1), omega (arith, t.0))

  -- and no other
  pub one_digit : (d e j i : ℕ) → Has b d j i → Has b e j i → d ≡ e
  one_digit d e j i h k = omega (arith, h, k)

  module _ (d : ℕ) (few : d < 9) where
    -- the digit stands in each house,
    found : (h : ℕ) → h < 27 → (k : ℕ) × (k < 9) × (byte b (cell_of h k) ≡ 49 + d)
    unfolding times
    found h below =
        let w = tally_find (λ k. eqb (byte b (cell_of h k)) (49 + d)) 9 (omega (arith, legal.once h d below few)) in
        (w.0, w.1, (eq_iff (byte b (cell_of h w.0)) (49 + d)).0 w.2)

    -- once
    later : (h k l : ℕ) → h < 27 → l < 9 → k < l → byte b (cell_of h k) ≡ 49 + d → byte b (cell_of h l) ≡ 49 + d → ⊥
    unfolding times
    later h k l below few_l x e f =
        tally_pair (λ k. eqb (byte b (cell_of h k)) (49 + d)) 9 (omega (arith, legal.once h d below few)) k l x few_l
        ((eq_iff (byte b (cell_of h k)) (49 + d)).1 e) ((eq_iff (byte b (cell_of h l)) (49 + d)).1 f)

    once : (h k l : ℕ) → h < 27 → k < 9 → l < 9 → byte b (cell_of h k) ≡ 49 + d → byte b (cell_of h l) ≡ 49 + d → k ≡ l
    once h k l below x y e f = go (dec_lt k l) (dec_lt l k)
      where
        go : Dec (k < l) → Dec (l < k) → k ≡ l
        go (yes u) v = absurd (later h k l below y u e f)
        go (no u) (yes v) = absurd (later h l k below x v f e)
        go (no u) (no v) = omega arith

    abbrev at : ℕ → ℕ
    at c = byte b c

    pub in_row : (j r : ℕ) → j < 3 → r < 3 → (k : ℕ) × (k < 9) × Has b d j (9 * r + k)
    in_row j r h i =
        let w = found (3 * j + r) (omega arith) in
        let e : cell_of (3 * j + r) w.0 ≡ 27 * j + (9 * r + w.0) = omega (arith, row_cell w.0 (3 * j + r) (omega arith)) in
        (w.0, w.1, sym (ap at e) ∙ w.2)

    pub in_box : (j e : ℕ) → j < 3 → e < 3 → (k : ℕ) × (k < 9) × Has b d j (9 * (k / 3) + (3 * e + k % 3))
    in_box j e h i =
        let w = found (18 + (3 * j + e)) (omega arith) in
        let q : cell_of (18 + (3 * j + e)) w.0 ≡ 27 * j + (9 * (w.0 / 3) + (3 * e + w.0 % 3)) = omega (arith, box_cell w.0 j e h i) in
        (w.0, w.1, sym (ap at q) ∙ w.2)

    pub same_row : (j i k : ℕ) → j < 3 → i < 27 → k < 27 → i / 9 ≡ k / 9 → Has b d j i → Has b d j k → i ≡ k
    same_row j i k h x y e p q =
        let r : 3 * j + i / 9 < 9 = omega arith in
        let u : 27 * j + i ≡ cell_of (3 * j + i / 9) (i % 9) = omega (arith, row_cell (i % 9) (3 * j + i / 9) r) in
        let v : 27 * j + k ≡ cell_of (3 * j + i / 9) (k % 9) = omega (arith, row_cell (k % 9) (3 * j + i / 9) r) in
        let s = once (3 * j + i / 9) (i % 9) (k % 9) (omega arith) (omega arith) (omega arith) (sym (ap at u) ∙ p) (sym (ap at v) ∙ q) in
        omega arith

    pub same_column : (j m i k : ℕ) → j < 3 → m < 3 → i < 27 → k < 27 → i % 9 ≡ k % 9 → Has b d j i → Has b d m k → 27 * j + i ≡ 27 * m + k
    same_column j m i k h g x y e p q =
        let u : 27 * j + i ≡ cell_of (9 + i % 9) (3 * j + i / 9) = omega (arith, column_cell (3 * j + i / 9) (i % 9) (omega arith)) in
        let v : 27 * m + k ≡ cell_of (9 + i % 9) (3 * m + k / 9) = omega (arith, column_cell (3 * m + k / 9) (i % 9) (omega arith)) in
        let s = once (9 + i % 9) (3 * j + i / 9) (3 * m + k / 9) (omega arith) (omega arith) (omega arith) (sym (ap at u) ∙ p) (sym (ap at v) ∙ q) in
        omega arith

    pub same_box : (j i k : ℕ) → j < 3 → i < 27 → k < 27 → i % 9 / 3 ≡ k % 9 / 3 → Has b d j i → Has b d j k → i ≡ k
    same_box j i k h x y e p q =
        let f : i % 9 / 3 < 3 = omega arith in
        let u : 27 * j + i ≡ cell_of (18 + (3 * j + i % 9 / 3)) (3 * (i / 9) + i % 9 % 3) =
        omega (arith, box_cell (3 * (i / 9) + i % 9 % 3) j (i % 9 / 3) h f) in
        let v : 27 * j + k ≡ cell_of (18 + (3 * j + i % 9 / 3)) (3 * (k / 9) + k % 9 % 3) =
        omega (arith, box_cell (3 * (k / 9) + k % 9 % 3) j (i % 9 / 3) h f) in
        let s =
        once (18 + (3 * j + i % 9 / 3)) (3 * (i / 9) + i % 9 % 3) (3 * (k / 9) + k % 9 % 3) (omega arith) (omega arith) (omega arith)
        (sym (ap at u) ∙ p) (sym (ap at v) ∙ q) in
        omega arith
