-- What the call gives back is the definition's, and the definition is refused by the first broken rule, or says what a job says.
use mathlib.Core.Path.{◌≡◌}
use Rattle.std.proofs.Common.{rules}
use Rattle.std.specs.Prelude.{Err}
use Rattle.inference.specs.Call.{job_call}
use Rattle.inference.proofs.Calls.{refused_so, stays_so, answers_so}
use Rattle.inference.proofs.job.job.Goals as goal

pub returns-in_default-clause-refused : goal.returns-in_default-clause-refused
unfolding job_call
returns-in_default-clause-refused c =
    let a = c.args in
    let e : (Err _, a.marks.now) ≡ job_call a.grid.now a.technique a.order.now a.ceiling a.marks.now = search rules in
    refused_so a.grid.now a.technique a.order.now a.ceiling a.marks.now _ _ e

pub returns : goal.returns
returns c =
    let a = c.args in
    let e : (c.checked_job.result, c.checked_job.new.marks) ≡ job_call a.grid.now a.technique a.order.now a.ceiling a.marks.now = search rules in
    record {
      exact = e;
      refused = refused_so a.grid.now a.technique a.order.now a.ceiling a.marks.now _ _ e;
      err = stays_so a.grid.now a.technique a.order.now a.ceiling a.marks.now _ _ e;
      ok = answers_so a.grid.now a.technique a.order.now a.ceiling a.marks.now _ _ e;
    }
