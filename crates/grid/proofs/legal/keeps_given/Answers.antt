-- The byte is compared only where the grid has a given.

use Rattle.grid.proofs.legal.keeps_given.Goals as goal

pub returns-then-not-is_digit : goal.returns-then-not-is_digit
returns-then-not-is_digit c = rw (← c.is_digit.ensures, c.if-not-is_digit.true)

pub returns-else-not-is_digit : goal.returns-else-not-is_digit
returns-else-not-is_digit c = rw (← c.is_digit.ensures, c.if-not-is_digit.false)
