-- Grids alone, and those of a batch.
use Rattle.demands.proofs.SameGrid.{same_calls, same_batches}
use Rattle.demands.proofs.same_grid.Goals as goal

pub returns : goal.returns
returns c = record { grids = same_calls; batches = same_batches }
