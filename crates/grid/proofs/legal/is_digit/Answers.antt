-- The two tests are those of `is_digit`, in its order.
use borrow.Author.Tests.{le-leb, lt-leb}
use Rattle.grid.specs.Grid.{is_digit}
use Rattle.grid.proofs.legal.is_digit.Goals as goal

pub returns-then-b-ge49 : goal.returns-then-b-ge49
unfolding is_digit
returns-then-b-ge49 c = rw (le-leb 49 c.args.b c.if-b-ge49.true)

pub returns-else-b-ge49 : goal.returns-else-b-ge49
unfolding is_digit
returns-else-b-ge49 c = rw (lt-leb 49 c.args.b c.if-b-ge49.false)
