-- The answer is that of the call's definition, whose refusals are a law.
use mathlib.Core.Path.{◌≡◌, ap, ◌∙◌}
use Rattle.std.proofs.Common.{rules}
use Rattle.std.specs.Prelude.{Ok, Err}
use Rattle.std.specs.Result.{result_err}
use Rattle.grid.specs.declared.Refusal.TheVariants.{BufferLength}
use Rattle.search.specs.Call.{Given, search_call}
use Rattle.search.proofs.Calls.{search_broken}
use Rattle.search.proofs.search.Goals as goal

pub returns-then-first-ne81-clause-refused : goal.returns-then-first-ne81-clause-refused
unfolding search_call
returns-then-first-ne81-clause-refused c =
    let a = c.args in
    let e : (Err BufferLength, a.first.now, a.second.now) ≡ search_call a.grid.now a.first.now a.second.now = search rules in
    ap (λ (g : Given). result_err g.0) e ∙ search_broken a.grid.now a.first.now a.second.now

pub returns-in_err-grid-clause-refused : goal.returns-in_err-grid-clause-refused
unfolding search_call
returns-in_err-grid-clause-refused c =
    let a = c.args in
    let e : (c.from_residual.result, a.first.now, a.second.now) ≡ search_call a.grid.now a.first.now a.second.now = search rules in
    ap (λ (g : Given). result_err g.0) e ∙ search_broken a.grid.now a.first.now a.second.now

pub returns-clause-refused : goal.returns-clause-refused
unfolding search_call
returns-clause-refused c =
    let a = c.args in
    let e : (Ok c.tell.result, c.tell.new.first, c.tell.new.second) ≡ search_call a.grid.now a.first.now a.second.now = search rules in
    ap (λ (g : Given). result_err g.0) e ∙ search_broken a.grid.now a.first.now a.second.now
