-- The sweeps come to the unit closure.
use Rattle.closure.proofs.Laws.{closes}
use Rattle.closure.proofs.unit_closures.Goals as goal

pub returns : goal.returns
returns c = closes
