-- A job is cut off by its ceiling.
use Rattle.closure.proofs.Laws.{cut}
use Rattle.closure.proofs.ceilings.Goals as goal

pub returns : goal.returns
returns c = cut
