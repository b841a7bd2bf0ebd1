-- The first row's pairs, then the second's.
use borrow.Author.Tests.{lt-ltb, le-ltb}
use Rattle.clauses.proofs.decode.rows_pair.Goals as goal

pub returns-then-t-lt18 : goal.returns-then-t-lt18
returns-then-t-lt18 c = rw (lt-ltb c.args.t 18 c.if-t-lt18.true)

pub returns-else-t-lt18 : goal.returns-else-t-lt18
returns-else-t-lt18 c = rw (le-ltb c.args.t 18 c.if-t-lt18.false)
