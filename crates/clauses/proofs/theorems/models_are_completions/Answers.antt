-- The law of either set and of every grid.
use Rattle.clauses.proofs.ModelsAreCompletions.{models_are_completions}
use Rattle.clauses.proofs.theorems.models_are_completions.Goals as goal

pub returns : goal.returns
returns c s g = models_are_completions s g
