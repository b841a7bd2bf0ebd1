-- What a digit's places in a band say. In each row of the band it stands in one cell, in thirds that are a way, and this way is left by the words that have
-- all its cells. So the cells of other ways go; a cell that is in each way that is left is in its way; and a column that is the only one of
-- its box is its column there.
-- Assumes nothing.
use mathlib.Core.Path.{◌≡◌, sym, subst, ◌∙◌}
use mathlib.Core.Bool.{not, ◌||◌}
use mathlib.Core.List.{List, []}
use Prim.Native.Nat.{ℕ, zero, suc, ◌+◌, ◌*◌, ◌/◌, ◌%◌, ◌<◌}
use native.Mathlib.Omega.{arith}
use lib.Dec.{T, eqb}
use Rattle.std.specs.Int.{bit_at}
use Rattle.grid.specs.Completion.{Legal}
use Rattle.grid.specs.Counting.{all}
use Rattle.grid.proofs.Counting.{all_iff}
use Rattle.grid.proofs.Completion.{eq_iff}
use Rattle.boards.specs.Tables.{on, third, takes, is_way, is_left, some_way_rule, every_way_rule, is_single, singles_rule}
use Rattle.boards.specs.Boards.{On, Has, Covers, Pointed, IsThirds, IsColumns}
use Rattle.boards.proofs.Tests.{then, both, differ}
use Rattle.boards.proofs.Positions.{in_row, in_box, same_row, same_column, same_box}

same : (x y : ℕ) → T (eqb x y) → x ≡ y
same x y = (eq_iff x y).0

module _ (b : List ℕ) (legal : Legal [] b) (d j : ℕ) (few : d < 9) (band : j < 3) where
  -- the column in each row
  row0 : (k : ℕ) × (k < 9) × Has b d j (9 * 0 + k)
  row0 = in_row b legal d few j 0 band (omega arith)

  row1 : (k : ℕ) × (k < 9) × Has b d j (9 * 1 + k)
  row1 = in_row b legal d few j 1 band (omega arith)

  row2 : (k : ℕ) × (k < 9) × Has b d j (9 * 2 + k)
  row2 = in_row b legal d few j 2 band (omega arith)

  -- the thirds
  pub way : ℕ
  way = row0.0 / 3 + 3 * (row1.0 / 3) + 9 * (row2.0 / 3)

  pub way_below : way < 27
  unfolding way
  way_below = omega (arith, row0.1, row1.1, row2.1)

  -- the digit stands in no other cell of the row
  same_cell : (r k : ℕ) (w : (m : ℕ) × (m < 9) × Has b d j (9 * r + m)) → r < 3 → k < 9 → Has b d j (9 * r + k) → k ≡ w.0
  same_cell r k w h l y =
      omega (arith, w.1, same_row b legal d few j (9 * r + k) (9 * r + w.0) band (omega arith) (omega (arith, w.1)) (omega (arith, w.1)) y w.2)

  third_is : (r k : ℕ) → r < 3 → k < 9 → Has b d j (9 * r + k) → third way r ≡ k / 3
  unfolding way
  third_is zero k h l y = omega (arith, row0.1, row1.1, row2.1, same_cell 0 k row0 h l y)
  third_is (suc zero) k h l y = omega (arith, row0.1, row1.1, row2.1, same_cell 1 k row1 h l y)
  third_is (suc (suc zero)) k h l y = omega (arith, row0.1, row1.1, row2.1, same_cell 2 k row2 h l y)
  third_is (suc (suc (suc r))) k h l y = absurd (omega arith)

  -- each cell of the digit is in the way,
  pub in_way : (i : ℕ) → i < 27 → Has b d j i → T (takes way i)
  in_way i h y =
      let e : i ≡ 9 * (i / 9) + i % 9 = omega arith in
      (eq_iff (i % 9 / 3) (third way (i / 9))).1 (sym (third_is (i / 9) (i % 9) (omega arith) (omega arith) (subst (Has b d j) e y)))

  -- and each third of the way has one
  pub of_way : (i : ℕ) → i < 27 → T (takes way i) → (k : ℕ) × (k < 9) × (k / 3 ≡ i % 9 / 3) × Has b d j (9 * (i / 9) + k)
  of_way i h t =
      let w = in_row b legal d few j (i / 9) band (omega arith) in
      (w.0, w.1, sym (third_is (i / 9) w.0 (omega arith) w.1 w.2) ∙ sym (same (i % 9 / 3) (third way (i / 9)) t), w.2)

  -- no two of its thirds are in one box
  apart : (r s k l : ℕ) → r < s → s < 3 → k < 9 → l < 9 → Has b d j (9 * r + k) → Has b d j (9 * s + l) → third way r ≡ third way s → ⊥
  apart r s k l h g x y p q e =
      let u = third_is r k (omega arith) x p in
      let v = third_is s l g y q in
      let z = same_box b legal d few j (9 * r + k) (9 * s + l) band (omega arith) (omega arith) (omega arith) p q in
      omega arith

  is_a_way : T (is_way way)
  is_a_way =
      both _ _ (differ (third way 0) (third way 1) (apart 0 1 row0.0 row1.0 (omega arith) (omega arith) row0.1 row1.1 row0.2 row1.2))
      (both _ _ (differ (third way 0) (third way 2) (apart 0 2 row0.0 row2.0 (omega arith) (omega arith) row0.1 row2.1 row0.2 row2.2))
      (differ (third way 1) (third way 2) (apart 1 2 row1.0 row2.0 (omega arith) (omega arith) row1.1 row2.1 row1.2 row2.2)))

  module _ (word s : ℕ) (covers : Covers b d j word) (thirds : IsThirds word s) where
    has_place : (r k : ℕ) → r < 3 → k < 9 → Has b d j (9 * r + k) → On s (3 * third way r + r)
    has_place r k h l y =
        let e : 3 * ((9 * r + k) % 9 / 3) + (9 * r + k) / 9 ≡ 3 * third way r + r = omega (arith, third_is r k h l y) in
        subst (On s) e (thirds.marked (9 * r + k) (omega arith) (covers (9 * r + k) (omega arith) y))

    way_left : T (is_left s way)
    way_left =
        both _ _ is_a_way
        (both _ _ ((eq_iff _ 1).1 (subst (On s) (omega arith) (has_place 0 row0.0 (omega arith) row0.1 row0.2)))
        (both _ _ ((eq_iff _ 1).1 (has_place 1 row1.0 (omega arith) row1.1 row1.2)) ((eq_iff _ 1).1 (has_place 2 row2.0 (omega arith) row2.1 row2.2))))

    -- so its cells are among those of the ways that are left
    pub some_way_has : (cells : ℕ) → T (some_way_rule s cells) → Covers b d j cells
    some_way_has cells t i h y =
        let u = (all_iff 27 (λ x. not (is_left s x) || all 27 (λ i. not (takes x i) || on cells i))).0 t way way_below in
        let v = (all_iff 27 (λ i. not (takes way i) || on cells i)).0 (then (is_left s way) _ u way_left) i h in
        (eq_iff (bit_at cells i) 1).0 (then (takes way i) _ v (in_way i h y))

    -- and what is in each of them is in its way
    pub every_way_takes : (cells : ℕ) → T (every_way_rule s cells) → (i : ℕ) → i < 27 → On cells i → T (takes way i)
    every_way_takes cells t i h y =
        let u = (all_iff 27 (λ x. not (is_left s x) || all 27 (λ i. not (on cells i) || takes x i))).0 t way way_below in
        let v = (all_iff 27 (λ i. not (on cells i) || takes way i)).0 (then (is_left s way) _ u way_left) i h in
        then (on cells i) _ v ((eq_iff (bit_at cells i) 1).1 y)

  module _ (word c cells : ℕ) (covers : Covers b d j word) (columns : IsColumns word c) (rule : T (singles_rule c cells)) where
    -- in the box of a single column the digit stands in that column
    single_is : (i k : ℕ) → i < 27 → On cells i → k < 27 → k % 9 / 3 ≡ i % 9 / 3 → Has b d j k → k % 9 ≡ i % 9
    single_is i k h y l e z =
        let u = then (on cells i) _ ((all_iff 27 (λ i. not (on cells i) || is_single c (i % 9))).0 rule i h) ((eq_iff (bit_at cells i) 1).1 y) in
        let v = (all_iff 3 (λ q. not (on c (3 * (i % 9 / 3) + q)) || eqb (3 * (i % 9 / 3) + q) (i % 9))).0 u (k % 9 % 3) (omega arith) in
        let p : 3 * (i % 9 / 3) + k % 9 % 3 ≡ k % 9 = omega arith in
        let w = then (on c (3 * (i % 9 / 3) + k % 9 % 3)) _ v ((eq_iff _ 1).1 (subst (On c) (sym p) (columns.marked k l (covers k l z)))) in
        sym p ∙ same (3 * (i % 9 / 3) + k % 9 % 3) (i % 9) w

    -- so that in the other bands it stands in no such column
    pub pointed : Pointed b d j cells
    pointed m i h l n z y =
        let w = in_box b legal d few j (i % 9 / 3) band (omega arith) in
        let k : ℕ = 9 * (w.0 / 3) + (3 * (i % 9 / 3) + w.0 % 3) in
        let x : k < 27 = omega (arith, w.1) in
        let e = single_is i k l y x (omega (arith, w.1)) w.2 in
        let q = same_column b legal d few j m k i band h x l e w.2 z in
        n (omega arith)

    -- and where a third of the way has a single column, it stands there
    pub alone : (i : ℕ) → i < 27 → On cells i → T (takes way i) → Has b d j i
    alone i h y t =
        let w = of_way i h t in
        let e = single_is i (9 * (i / 9) + w.0) h y (omega (arith, w.1)) (omega (arith, w.1, w.2)) w.3 in
        let q : 9 * (i / 9) + w.0 ≡ i = omega (arith, w.1) in
        subst (Has b d j) q w.3
