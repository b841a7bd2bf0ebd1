-- At first every digit may stand in every cell. A given is in each completion, and alone in its cell.
use mathlib.Core.Path.{◌≡◌, sym, subst, ◌∙◌}
use mathlib.Core.Bool.{Bool, ◌||◌}
use Prim.Native.Nat.{ℕ, ◌+◌, ◌*◌, ◌-◌, ◌%◌, ◌≤◌, ◌<◌}
use native.Mathlib.Omega.{arith}
use lib.Dec.{T, eqb}
use lib.ListN.{get_or}
use Rattle.std.proofs.lemmas.Nat.Bits.{bit_at_ones}
use Rattle.grid.specs.Grid.{byte, is_digit}
use Rattle.grid.proofs.Table.{every, at}
use Rattle.grid.proofs.Completion.{digit_iff, eq_iff}
use Rattle.boards.specs.Boards.{On, Has, HasAll, Fits}
use Rattle.boards.specs.declared.start.TheConstants.{EVERYWHERE}
use Rattle.boards.proofs.Tests.{by_test, holds}
use Rattle.boards.proofs.Bits.{lone}
use Rattle.boards.proofs.Positions.{without_givens}
use Rattle.boards.proofs.start.start.Goals.{then-is_digit, else-is_digit}
use Rattle.boards.proofs.start.start.Goals as goal

-- each word that is used has all cells
is_whole : ℕ → ℕ → Bool
is_whole k word = eqb (k % 4) 3 || eqb word 134217727

all_whole : T (every is_whole 0 EVERYWHERE)
unfolding is_whole
all_whole = tt

whole : (d j : ℕ) → d < 9 → j < 3 → get_or EVERYWHERE (4 * d + j) 0 ≡ 134217727
unfolding is_whole
whole d j few band =
    by_test (eqb ((4 * d + j) % 4) 3) (eqb (get_or EVERYWHERE (4 * d + j) 0) 134217727)
    (at is_whole 0 EVERYWHERE all_whole (4 * d + j) (omega arith))
    (λ u. absurd (omega (arith, (eq_iff ((4 * d + j) % 4) 3).0 u)))
    (λ u. (eq_iff _ 134217727).0 u)

bounds : (b : ℕ) → T (is_digit b) → (49 ≤ b) × (b ≤ 57)
bounds b t = (digit_iff b).0 t

pub loop-j-init : goal.loop-j-init
loop-j-init c b l = record {
  legal = without_givens c.args.grid.now b l;
  covered = λ d j few band i h y. subst (λ x. On x i) (sym (whole d j few band)) (bit_at_ones 27 i h);
}

pub overflow_sub-d : goal.overflow_sub-d
overflow_sub-d c = (bounds _ (holds (sym c.is_digit.ensures ∙ c.if-is_digit.true))).0

pub invariant_of-place : goal.invariant_of-place
invariant_of-place c = record {
  digit_below = omega (arith, bounds _ (holds (sym c.is_digit.ensures ∙ c.if-is_digit.true)));
  band_below = omega arith;
  cell_below = omega arith;
}

pub loop-i-preserved : goal.loop-i-preserved
loop-i-preserved c b l =
    let cell : ℕ = 27 * c.loop-j.j + c.loop-i.i in
    let d : ℕ = byte c.args.grid.now cell - 49 in
    let f = c.loop-i.invariant b l in
    elim c.if-is_digit.branch [
      | then-is_digit w ↦ (
          let t = holds (sym c.is_digit.ensures ∙ w.if-is_digit.true) in
          let low = (bounds _ t).0 in
          let k = l.keeps cell (omega (arith, c.loop-j-test.true, c.loop-i-test.true)) t in
          let here : Has b d c.loop-j.j c.loop-i.i = omega (arith, k, low) in
          let all : HasAll b d c.loop-j.j _ = λ i h y. subst (Has b d c.loop-j.j) (sym (lone c.loop-i.i i (omega (arith, c.loop-i-test.true)) y)) here in
          subst (λ x. Fits x.words b) (sym w.boards-is) (w.fix.ensures b (w.place.ensures b f here) all)
          )
      | else-is_digit w ↦ subst (λ x. Fits x.words b) (sym w.boards-is) f
    ]
