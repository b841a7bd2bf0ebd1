-- At each cell the marks are the unit closure of the givens before it.
use mathlib.Core.Path.{◌≡◌, refl, sym, subst, ◌∙◌}
use mathlib.Core.Bool.{Bool, true}
use mathlib.Core.List.{List, Memᴰ}
use Prim.Native.Nat.{ℕ, ◌+◌, ◌*◌, ◌-◌, ◌≤◌, ◌<◌}
use native.Mathlib.Omega.{arith}
use lib.Dec.{T}
use lib.IntN.{pos}
use Prim.Native.Nat.{suc}
use Rattle.std.specs.Prelude.{Ok, Err}
use Rattle.grid.specs.Grid.{byte, is_digit}
use Rattle.grid.proofs.Completion.{digit_iff}
use Rattle.clauses.specs.Clauses.{clauses_of}
use Rattle.clauses.specs.Models.{givens}
use Rattle.closure.specs.Closure.{With, UnitClosed}
use Rattle.closure.specs.Marks.{has}
use Rattle.closure.specs.Propagation.{closed}
use Rattle.closure.proofs.Sets.{least_mono}
use Rattle.closure.proofs.Closure.{contradiction_mono}
use Rattle.closure.proofs.Propagation.{closes_same}
use Rattle.propagation.specs.Steps.{ComesTo}
use Rattle.propagation.proofs.Closing.{comes_err}
use Rattle.propagation.proofs.Givens.{Before, none_decided, blank_state, before_none, before_skip, before_given, before_all, before_some}
use Rattle.propagation.proofs.close.close_givens.Goals as goal
use Rattle.propagation.proofs.close.close_givens.Goals.{then-is_digit+in_ok-close_true, else-is_digit}

-- a cell whose byte the test finds to be a digit has a given, and its place is below 729
module _ (g : List ℕ) (i : ℕ) {b : Bool} (e : b ≡ is_digit (byte g i)) (t : b ≡ true) where
  digit : T (is_digit (byte g i))
  digit = subst T (sym t ∙ e) tt

  place_below : i < 81 → (49 ≤ byte g i) × (9 * i + (byte g i - 49) < 729)
  place_below h = let w = (digit_iff (byte g i)).0 digit in (w.0, omega (arith, w.1))

pub invariant_of-state : goal.invariant_of-state
invariant_of-state c = record { counted = none_decided }

pub loop-i-init : goal.loop-i-init
loop-i-init c =
    let a = c.args in
    record { answer = before_none a.set a.grid.now; state = blank_state a.set _ refl c.blank_sums.ensures }

pub overflow_sub-byte : goal.overflow_sub-byte
overflow_sub-byte c = omega (arith, (place_below c.args.grid.now c.loop-i.i c.is_digit.ensures c.if-is_digit.true c.loop-i-test.true).0)

pub close_true-requires : goal.close_true-requires
close_true-requires c =
    let w = (place_below c.args.grid.now c.loop-i.i c.is_digit.ensures c.if-is_digit.true c.loop-i-test.true).1 in
    (c.loop-i.invariant.state, omega (arith, w, c.from.ensures))

pub returns-in_err-close_true : goal.returns-in_err-close_true
returns-in_err-close_true c =
    let a = c.args in
    let l = c.loop-i in
    let d = digit a.grid.now l.i c.is_digit.ensures c.if-is_digit.true in
    let n = before_given a.set a.grid.now l.i l.state.marks d l.invariant.answer
    (subst (λ x. ComesTo a.set (With (has l.state.marks) (pos (suc (9 * l.i + x)))) (Err c.in_err-close_true.field-0.0)) c.from.ensures c.in_err-close_true.ensures) in
    comes_err c.from_residual.result c.from_residual.ensures.0
    (contradiction_mono (least_mono (λ S u. u) (before_some a.set a.grid.now (l.i + 1) (omega (arith, c.loop-i-test.true)))) n.answer)

pub loop-i-preserved : goal.loop-i-preserved
loop-i-preserved c =
    let a = c.args in
    let l = c.loop-i in
    elim c.if-is_digit.branch [
      | then-is_digit+in_ok-close_true w ↦
          rw w.state-is
          (before_given a.set a.grid.now l.i l.state.marks (digit a.grid.now l.i c.is_digit.ensures w.if-is_digit.true) l.invariant.answer
          (subst (λ x. ComesTo a.set (With (has l.state.marks) (pos (suc (9 * l.i + x)))) (Ok w.close_true.new.state)) w.from.ensures w.in_ok-close_true.ensures))
      | else-is_digit w ↦
          rw w.state-is
          (record { answer = before_skip a.set a.grid.now l.i l.state.marks (λ t. subst T (sym c.is_digit.ensures ∙ w.if-is_digit.false) t) l.invariant.answer; state = l.invariant.state })
    ]

pub returns : goal.returns
returns c =
    let a = c.args in
    let e : c.loop-i.i ≡ 81 = omega (arith, c.loop-i.auto.i-end, c.loop-i-test.false) in
    record {
      answer = closes_same (UnitClosed (clauses_of a.set)) (Before a.set a.grid.now c.loop-i.i) (λ k. Memᴰ k (givens a.grid.now)) (before_all a.set a.grid.now c.loop-i.i e) (closed c.loop-i.state.marks) c.loop-i.invariant.answer;
      state = c.loop-i.invariant.state;
    }
