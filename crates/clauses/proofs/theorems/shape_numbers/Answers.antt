-- Numbers and shapes belong together.
use Rattle.clauses.proofs.Members.{shape_numbers}
use Rattle.clauses.proofs.theorems.shape_numbers.Goals as goal

pub returns : goal.returns
returns c s = shape_numbers s
