-- What the call gives back is the definition's, and the definition is refused by the first broken rule, or says what a batch says.
use mathlib.Core.Path.{◌≡◌}
use Rattle.std.proofs.Common.{rules}
use Rattle.batch.specs.Call.{batch_call}
use Rattle.batch.proofs.Calls.{refused_so, stays_so, answers_so}
use Rattle.batch.proofs.batch.Goals as goal

pub returns-in_err-check_lent-clause-refused : goal.returns-in_err-check_lent-clause-refused
unfolding batch_call
returns-in_err-check_lent-clause-refused c =
    let a = c.args in
    let e : (c.from_residual.result, a.marks.now, a.answers.now) ≡ batch_call a.grids.now a.technique a.order.now a.ceiling a.marks.now a.answers.now = search rules in
    refused_so a.grids.now a.technique a.order.now a.ceiling a.marks.now a.answers.now _ _ _ e

pub returns : goal.returns
returns c =
    let a = c.args in
    let e : (c.checked_batch.result, c.checked_batch.new.marks, c.checked_batch.new.answers)
    ≡ batch_call a.grids.now a.technique a.order.now a.ceiling a.marks.now a.answers.now = search rules in
    record {
      exact = e;
      refused = refused_so a.grids.now a.technique a.order.now a.ceiling a.marks.now a.answers.now _ _ _ e;
      err = stays_so a.grids.now a.technique a.order.now a.ceiling a.marks.now a.answers.now _ _ _ e;
      ok = answers_so a.grids.now a.technique a.order.now a.ceiling a.marks.now a.answers.now _ _ _ e;
    }
