-- The answer is that of the call's definition, whose meaning and refusals are laws.
use mathlib.Core.Path.{◌≡◌, ap, sym, ◌∙◌}
use Rattle.std.proofs.Common.{rules}
use Rattle.std.specs.Result.{result_err}
use Rattle.grid.specs.Completion.{is_legal, completion_call}
use Rattle.grid.proofs.Completion.{legal_true}
use Rattle.grid.proofs.Checks.{grid_broken, completion_broken}
use Rattle.grid.proofs.legal.is_completion.Goals as goal

pub returns-in_err-grid-clause-refused : goal.returns-in_err-grid-clause-refused
unfolding completion_call
returns-in_err-grid-clause-refused c =
    let e : c.from_residual.result ≡ completion_call c.args.grid.now c.args.candidate.now = search rules in
    ap (λ r. result_err r) e ∙ completion_broken c.args.grid.now c.args.candidate.now

pub returns-clause-refused : goal.returns-clause-refused
returns-clause-refused c = ap (λ r. result_err r) (sym c.in_ok-grid.ensures.1) ∙ grid_broken c.args.grid.now

pub returns-clause-legal : goal.returns-clause-legal
returns-clause-legal c = legal_true c.args.grid.now c.args.candidate.now c.is_legal.result (c.is_legal.ensures ∙ ap (λ g. is_legal g c.args.candidate.now) c.in_ok-grid.ensures.0)
