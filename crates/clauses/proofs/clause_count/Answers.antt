-- The lengths of the two lists.
use mathlib.Core.Path.{ap, sym, ◌∙◌}
use lib.ListN.{length}
use Rattle.clauses.specs.Clauses.{clauses_of}
use Rattle.clauses.specs.declared.ClauseSet.TheVariants.{Minimal, Extended}
use Rattle.clauses.proofs.Numbers.{set_long}
use Rattle.clauses.proofs.clause_count.Goals as goal

pub returns-in-Minimal : goal.returns-in-Minimal
returns-in-Minimal c = sym (ap (λ s. length (clauses_of s)) c.in-Minimal.is ∙ set_long Minimal)

pub returns-in-Extended : goal.returns-in-Extended
returns-in-Extended c = sym (ap (λ s. length (clauses_of s)) c.in-Extended.is ∙ set_long Extended)
