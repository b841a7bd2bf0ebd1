-- What the call gives back is the definition's, and the definition is refused by the first broken rule, or says what a grading says.
use mathlib.Core.Path.{◌≡◌}
use Rattle.std.proofs.Common.{rules}
use Rattle.std.specs.Prelude.{Err}
use Rattle.grading.specs.Grade.{grade_call}
use Rattle.grading.proofs.Calls.{refused_so, stays_so, answers_so}
use Rattle.grading.proofs.grade.Goals as goal

pub returns-in_default-clause-refused : goal.returns-in_default-clause-refused
unfolding grade_call
returns-in_default-clause-refused c =
    let a = c.args in
    let e : (Err _, a.completion.now) ≡ grade_call a.grid.now a.order.now a.ceiling a.completion.now = search rules in
    refused_so a.grid.now a.order.now a.ceiling a.completion.now _ _ e

pub returns : goal.returns
returns c =
    let a = c.args in
    let e : (c.checked_grade.result, c.checked_grade.new.completion) ≡ grade_call a.grid.now a.order.now a.ceiling a.completion.now = search rules in
    record {
      exact = e;
      refused = refused_so a.grid.now a.order.now a.ceiling a.completion.now _ _ e;
      err = stays_so a.grid.now a.order.now a.ceiling a.completion.now _ _ e;
      ok = answers_so a.grid.now a.order.now a.ceiling a.completion.now _ _ e;
    }
