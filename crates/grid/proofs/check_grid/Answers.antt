-- The keyer's check accepts exactly the grids.
use mathlib.Core.Path.{refl, ap, sym, ◌∙◌}
use Rattle.std.specs.Result.{result_err}
use Rattle.grid.proofs.Completion.{grid_iff, not_accepted}
use Rattle.grid.proofs.Checks.{not_both, grid_broken}
use Rattle.grid.proofs.check_grid.Goals as goal

pub returns-in_err-keyed-clause-accepted : goal.returns-in_err-keyed-clause-accepted
returns-in_err-keyed-clause-accepted c = ((λ q. absurd (not_both c.from_residual.result c.from_residual.ensures.0 q)), λ w. absurd (not_accepted _ (sym c.in_err-keyed.ensures ∙ (grid_iff c.args.grid.now).1 w)))

pub returns-clause-refused : goal.returns-clause-refused
returns-clause-refused c = ap (λ r. result_err r) (sym c.in_ok-keyed.ensures.1) ∙ grid_broken c.args.grid.now

pub returns-clause-accepted : goal.returns-clause-accepted
returns-clause-accepted c = ((λ q. (grid_iff c.args.grid.now).0 c.in_ok-keyed.ensures.1), λ w. refl)
