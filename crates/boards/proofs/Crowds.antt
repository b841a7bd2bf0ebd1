-- In a house a full grid has each chosen digit in a cell, and no two digits in one cell; so that so many cells have a chosen digit as are chosen.
-- Assumes nothing.
use mathlib.Core.Path.{◌≡◌, refl, sym, subst}
use mathlib.Core.Bool.{Bool, true, false, ◌&&◌}
use mathlib.Core.List.{List, []}
use Prim.Native.Nat.{ℕ, ◌+◌, ◌*◌, ◌-◌, ◌/◌, ◌%◌, ◌≤◌, ◌<◌}
use native.Mathlib.Decide.{dec_lt}
use native.Mathlib.Omega.{arith}
use lib.Dec.{T, eqb}
use lib.ListN.{get_or}
use Rattle.std.specs.Prelude.{bit_and}
use Rattle.grid.specs.Counting.{tick, tally}
use Rattle.grid.specs.Grid.{byte}
use Rattle.grid.specs.House.{cell_of}
use Rattle.grid.specs.Completion.{times, Legal}
use Rattle.grid.proofs.Counting.{tally_more, tally_find, tally_most, chosen_fit}
use Rattle.grid.proofs.Completion.{eq_iff}
use Rattle.grid.proofs.House.{cell_below}
use Rattle.grid.proofs.Table.{and_iff}
use Rattle.boards.specs.Tables.{on}
use Rattle.boards.specs.Boards.{On, Fits}
use Rattle.boards.proofs.Bits.{none_on, on_both}
use Rattle.boards.proofs.Positions.{some_digit}

-- b has one of the digits in the k-th cell of the house
abbrev pub has_chosen : ℕ → List ℕ → ℕ → ℕ → Bool
has_chosen digits b house k = on digits (byte b (cell_of house k) - 49)

tick_most : (x : Bool) → tick x ≤ 1
tick_most true = omega arith
tick_most false = omega arith

module _ (digits : ℕ) (b : List ℕ) (house : ℕ) (h : house < 27) where
  -- a cell is counted, or has none of the digits
  pub one_counted : (k cells : ℕ) → tally k (has_chosen digits b house) ≤ cells → tally (k + 1) (has_chosen digits b house) ≤ cells + 1
  one_counted k cells m = omega (arith, tally_more k (has_chosen digits b house), tick_most (has_chosen digits b house k))

  pub none_counted : (words : List ℕ) → Fits words b → (k cell found : ℕ) → k < 9 → cell ≡ cell_of house k
      → ((d : ℕ) → d < 9 → On (get_or words (4 * d + cell / 27) 0) (cell % 27) → On found d) → bit_and found digits ≡ 0
      → (cells : ℕ) → tally k (has_chosen digits b house) ≤ cells → tally (k + 1) (has_chosen digits b house) ≤ cells
  none_counted words f k cell found few e all none cells m = omega (arith, tally_more k (has_chosen digits b house), go (has_chosen digits b house k) refl)
    where
      clash : T (has_chosen digits b house k) → ⊥
      clash t =
          let below = cell_below house k h few in
          let w = some_digit b f.legal (cell / 27) (cell % 27) (omega arith) (omega arith) in
          let c : 27 * (cell / 27) + cell % 27 ≡ cell_of house k = omega arith in
          let d : w.0 ≡ byte b (cell_of house k) - 49 = let q = subst (λ x. byte b x ≡ 49 + w.0) c w.2 in omega arith in
          none_on w.0 (subst (λ x. On x w.0) none
          (on_both found digits w.0 (all w.0 w.1 (f.covered w.0 (cell / 27) w.1 (omega arith) (cell % 27) (omega arith) w.2))
          (subst (On digits) (sym d) ((eq_iff _ 1).0 t))))

      go : (x : Bool) → has_chosen digits b house k ≡ x → tick x ≡ 0
      go false q = refl
      go true q = absurd (clash (subst T (sym q) tt))

  module _ (legal : Legal [] b) where
    -- digit d + 1 is chosen, and in the k-th cell
    stands : ℕ → ℕ → Bool
    stands d k = on digits d && eqb (byte b (cell_of house k)) (49 + d)

    some : (d : ℕ) → d < 9 → tick (on digits d) ≤ tally 9 (stands d)
    unfolding stands times
    some d few = go (on digits d)
      where
        go : (x : Bool) → tick x ≤ tally 9 (λ k. x && eqb (byte b (cell_of house k)) (49 + d))
        go true = omega (arith, legal.once house d h few)
        go false = omega arith

    most : (k : ℕ) → k < 9 → tally 9 (λ d. stands d k) ≤ tick (has_chosen digits b house k)
    unfolding stands
    most k few = go (has_chosen digits b house k) refl
      where
        both : (d : ℕ) → T (stands d k) → T (on digits d) × (byte b (cell_of house k) ≡ 49 + d)
        both d t = let w = (and_iff (on digits d) (eqb (byte b (cell_of house k)) (49 + d))).0 t in (w.0, (eq_iff _ (49 + d)).0 w.1)

        go : (x : Bool) → has_chosen digits b house k ≡ x → tally 9 (λ d. stands d k) ≤ tick x
        go true q = tally_most (λ d. stands d k) 9 (λ d e l m t u. omega (arith, l, (both d t).1, (both e u).1))
        go false q = elim (dec_lt 0 (tally 9 (λ d. stands d k))) [
          | yes l ↦ (
              let w = tally_find (λ d. stands d k) 9 l in
              let v = both w.0 w.2 in
              let d : w.0 ≡ byte b (cell_of house k) - 49 = omega (arith, v.1) in
              absurd (subst T q (subst (λ x. T (on digits x)) d v.0))
              )
          | no n ↦ omega arith
        ]

    pub all_counted : tally 9 (on digits) ≤ tally 9 (has_chosen digits b house)
    all_counted = chosen_fit 9 stands (on digits) (has_chosen digits b house) some most
