-- The families are put together in the order of their numbers.
use Rattle.clauses.proofs.Numbers.{family_numbers}
use Rattle.clauses.proofs.theorems.family_numbers.Goals as goal

pub returns : goal.returns
returns c = family_numbers
