-- A clause of a whole group has nine literals, one of a pair two.
use mathlib.Core.Path.{ap, sym}
use lib.ListN.{length}
use Rattle.clauses.specs.Shape.{clause_of}
use Rattle.clauses.proofs.decode.length_of.Goals as goal

pub returns-in-OneOf : goal.returns-in-OneOf
unfolding clause_of
returns-in-OneOf c = ap (λ s. length (clause_of s)) (sym c.in-OneOf.is)

pub returns-in-NotBoth : goal.returns-in-NotBoth
unfolding clause_of
returns-in-NotBoth c = ap (λ s. length (clause_of s)) (sym c.in-NotBoth.is)
