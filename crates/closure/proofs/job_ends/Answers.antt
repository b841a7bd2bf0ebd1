-- A job ends with its closure, or within it.
use Rattle.closure.proofs.Laws.{ends}
use Rattle.closure.proofs.job_ends.Goals as goal

pub returns : goal.returns
returns c = ends
