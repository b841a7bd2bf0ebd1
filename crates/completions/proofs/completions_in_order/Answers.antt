-- The law of every grid.
use Rattle.completions.proofs.Completions.{completions_in_order}
use Rattle.completions.proofs.completions_in_order.Goals as goal

pub returns : goal.returns
returns c grid = completions_in_order grid
