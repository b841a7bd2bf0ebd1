-- The literals of a group are made place by place; those of a pair are written out.
use mathlib.Core.Path.{ap, sym, ◌∙◌}
use Prim.Native.Nat.{suc}
use lib.IntN.{pos, negsuc}
use Rattle.std.proofs.Common.{rules, tests}
use Rattle.grid.proofs.Made.{made}
use Rattle.clauses.specs.Call.{padded}
use Rattle.clauses.specs.Shape.{place_of, clause_of}
use Rattle.clauses.proofs.Signed.{returned}
use Rattle.clauses.proofs.decode.literals_of.Goals as goal

pub returns-in-OneOf : goal.returns-in-OneOf
unfolding clause_of
returns-in-OneOf c =
    made _ (λ k. pos (suc (place_of c.in-OneOf.g k))) (pos 0) _ (λ x y q k. search (rules, tests)) c.from_fn.result 9 c.from_fn.ensures.items
    ∙ ap (λ s. padded (clause_of s)) (sym c.in-OneOf.is)

pub returns-in-NotBoth : goal.returns-in-NotBoth
unfolding clause_of
returns-in-NotBoth c =
    rw (
      returned _ c.negative-first.type_inv ∙ c.negative-first.ensures ∙ ap negsuc c.place.ensures.0,
      returned _ c.negative-second.type_inv ∙ c.negative-second.ensures ∙ ap negsuc c.place-in-NotBoth.ensures.0,
    )
    (ap (λ s. padded (clause_of s)) (sym c.in-NotBoth.is))
