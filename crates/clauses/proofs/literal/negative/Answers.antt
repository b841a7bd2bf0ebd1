-- The difference is the literal, and fits.
use lib.IntN.{negsuc}
use Rattle.clauses.proofs.Signed.{read, negative_is, negative_fits}
use Rattle.clauses.proofs.literal.negative.Goals as goal

pub returns : goal.returns
returns c = let k = c.args.place in rw (negative_is k c.requires) (read (negsuc k) (negative_fits k c.requires))
