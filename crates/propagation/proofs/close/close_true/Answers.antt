-- A place that is true adds nothing, one that is false is a contradiction, and one that is undecided joins.
use mathlib.Core.Path.{◌≡◌, refl, sym, subst, ◌∙◌}
use mathlib.Core.Logic.{inl, inr, ⊎_elim}
use Prim.Native.Nat.{suc}
use native.Mathlib.Omega.{arith}
use lib.Dec.{T}
use lib.IntN.{pos, negsuc}
use mir.Syntax.{w16}
use mir.Val.{to_z, of_z}
use Rattle.clauses.specs.Literal.{Literal}
use Rattle.clauses.specs.Clauses.{clauses_of}
use Rattle.clauses.proofs.Signed.{returned}
use Rattle.closure.specs.Closure.{With, UnitClosed}
use Rattle.closure.specs.Marks.{has, is_decided}
use Rattle.closure.proofs.Sets.{least_given}
use Rattle.worklist.proofs.Literals.{byte_open}
use Rattle.worklist.proofs.Sums.{true_byte, false_byte}
use Rattle.propagation.specs.Steps.{ClosesTo}
use Rattle.propagation.proofs.close.close_true.Goals as goal

pub close_with-requires : goal.close_with-requires
close_with-requires c =
    let a = c.args in
    let literal : to_z w16 (of_z w16 c.positive.result) ≡ pos (suc a.place) = returned _ c.positive.type_inv ∙ c.positive.ensures in (
      c.requires.0,
      subst Literal (sym literal) c.requires.1,
      subst (λ l. T (is_decided a.state.now.marks l) → ⊥) (sym literal) (byte_open a.state.now.marks (pos (suc a.place)) c.requires.1 c.in-0.is),
    )

pub returns-in-0 : goal.returns-in-0
returns-in-0 c =
    let a = c.args in
    let literal : to_z w16 (of_z w16 c.positive.result) ≡ pos (suc a.place) = returned _ c.positive.type_inv ∙ c.positive.ensures in
    subst (λ l. ClosesTo a.set (With (has a.state.now.marks) l) c.close_with.new.state c.close_with.result) literal c.close_with.ensures

pub returns-in-1 : goal.returns-in-1
returns-in-1 c =
    let a = c.args in
    let m = a.state.now.marks in
    let t = true_byte m a.place c.in-1.is in
    record {
      answer = record {
        holds = λ l x. ⊎_elim (λ y. y) (λ e. subst (λ y. T (has m y)) (sym e) t) x;
        closed = c.requires.0.marks.closed;
        within = λ l x. least_given (UnitClosed (clauses_of a.set)) l (inl x);
      };
      state = c.requires.0;
    }

pub returns-in_default : goal.returns-in_default
returns-in_default c =
    let a = c.args in
    let m = a.state.now.marks in
    let t = false_byte m a.place (omega (arith, c.requires.0.marks.marks.small a.place)) in
    record {
      answer = (a.place, least_given (UnitClosed (clauses_of a.set)) (pos (suc a.place)) (inr refl), least_given (UnitClosed (clauses_of a.set)) (negsuc a.place) (inl t));
      state = tt;
    }
