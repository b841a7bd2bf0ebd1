-- The place is read back as it is, so that the sum is the literal, and fits.
use mathlib.Core.Path.{ap, ◌∙◌}
use native.Mathlib.Omega.{arith}
use lib.IntN.{pos}
use Rattle.clauses.proofs.Signed.{read, place_is}
use Rattle.clauses.proofs.literal.positive.Goals as goal

pub overflow_add-result : goal.overflow_add-result
overflow_add-result c = rw (place_is c.args.place c.requires) (record { sfits = omega (arith, c.requires) })

pub returns : goal.returns
returns c = read _ (overflow_add-result c) ∙ rw (place_is c.args.place c.requires) (ap pos (omega arith))
