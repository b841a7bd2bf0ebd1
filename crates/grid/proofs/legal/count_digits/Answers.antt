-- One pass over the house: after k cells, place d has the number of those where the digit d + 1 stands.
use mathlib.Core.Path.{◌≡◌, refl, ap}
use mathlib.Core.Bool.{true}
use mathlib.Core.List.{List}
use Prim.Native.Nat.{ℕ, ◌+◌, ◌-◌, ◌≤◌, ◌<◌}
use native.Mathlib.Decide.{ℕ_discrete}
use native.Mathlib.Omega.{arith}
use borrow.Author.Tests.{eq-eqb, ne_eqb}
use lib.Dec.{eqb}
use lib.ListN.{length, get_or, get_or-replicate, set, length-set}
use lib.Seq.{get_or-set_same, get_or-set_other}
use Rattle.grid.specs.Counting.{tick, tally, total}
use Rattle.grid.specs.Grid.{byte}
use Rattle.grid.specs.House.{cell_of}
use Rattle.grid.specs.Completion.{is_full, times}
use Rattle.grid.proofs.Counting.{tally_more, tally_bound}
use Rattle.grid.proofs.House.{cell_below}
use Rattle.grid.proofs.Completion.{full_digit}
use Rattle.grid.proofs.legal.count_digits.Invariants.{Counted}
use Rattle.grid.proofs.legal.count_digits.Goals as goal

module _ {f : ℕ → ℕ} {k : ℕ} {counts : List ℕ} (s : Counted f k counts) where
  count_bound : (d : ℕ) → d < 9 → get_or counts d 0 ≤ k
  count_bound d h = omega (arith, s.right d h, tally_bound k (λ j. eqb (f j) (49 + d)))

  count_one : (x : ℕ) → x ≡ f k → 49 ≤ x → x ≤ 57 → Counted f (k + 1) (set counts (x - 49) (get_or counts (x - 49) 0 + 1))
  count_one x e low high = record { nine = simp length-set s.nine; right = λ d h. rw tally_more (go d h (ℕ_discrete d (x - 49))) }
    where
      go : (d : ℕ) → d < 9 → Dec (d ≡ x - 49)
          → get_or (set counts (x - 49) (get_or counts (x - 49) 0 + 1)) d 0 ≡ tick (eqb (f k) (49 + d)) + tally k (λ j. eqb (f j) (49 + d))
      go d h (yes q) =
          rw (q, get_or-set_same counts (x - 49) _ 0 (omega arith), eq-eqb (f k) (49 + (x - 49)) (omega arith)) (omega (arith, s.right (x - 49) (omega arith)))
      go d h (no n) =
          rw (get_or-set_other counts (x - 49) d _ 0 n, ne_eqb (f k) (49 + d) (λ q. n (omega arith))) (omega (arith, s.right d h))

-- the cell that is counted lies in the candidate, and its byte is a digit
counted : (b : List ℕ) {house k cell : ℕ} → is_full b ≡ true → house < 27 → k < 9 → cell ≡ cell_of house k
    → (cell < length b) × (49 ≤ byte b cell) × (byte b cell ≤ 57)
counted b full h j e = full_digit b full _ (omega (arith, e, cell_below _ _ h j))

pub loop-k-init : goal.loop-k-init
unfolding total
loop-k-init c = (omega arith, record { nine = refl; right = λ d h. get_or-replicate 9 d 0 0 h })

pub overflow_add-counts : goal.overflow_add-counts
overflow_add-counts c =
    let b = c.args.candidate.now in
    let r = counted b c.requires.0 c.requires.1 c.loop-k-test.true c.house_cell-cell.ensures in
    omega (arith, count_bound c.loop-k.invariant.1 (byte b c.house_cell-cell.result - 49) (omega (arith, r)))

pub loop-k-preserved : goal.loop-k-preserved
loop-k-preserved c =
    let b = c.args.candidate.now in
    let e = c.house_cell-cell.ensures in
    let r = counted b c.requires.0 c.requires.1 c.loop-k-test.true e in
    (omega arith, count_one c.loop-k.invariant.1 (byte b c.house_cell-cell.result) (ap (byte b) e) r.1 r.2)

pub returns : goal.returns
unfolding times
returns c = let e : c.loop-k.k ≡ 9 = omega arith in (rw e at c.loop-k.invariant.1).right

pub bounds-candidate-cell : goal.bounds-candidate-cell
bounds-candidate-cell c = (counted c.args.candidate.now c.requires.0 c.requires.1 c.loop-k-test.true c.house_cell-cell.ensures).0

pub overflow_sub-d : goal.overflow_sub-d
overflow_sub-d c = (counted c.args.candidate.now c.requires.0 c.requires.1 c.loop-k-test.true c.house_cell-cell.ensures).1

pub bounds-counts-d : goal.bounds-counts-d
bounds-counts-d c = omega (arith, counted c.args.candidate.now c.requires.0 c.requires.1 c.loop-k-test.true c.house_cell-cell.ensures)

pub bounds-counts-d-in-loop-k : goal.bounds-counts-d-in-loop-k
bounds-counts-d-in-loop-k c = omega (arith, counted c.args.candidate.now c.requires.0 c.requires.1 c.loop-k-test.true c.house_cell-cell.ensures)
