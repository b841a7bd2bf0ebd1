-- At each cell the marks are the unit closure of the givens before it.
use Rattle.std.specs.Prelude.{Ok}
use Rattle.propagation.specs.Steps.{ComesTo}
use Rattle.propagation.proofs.Givens.{Before}
use Rattle.propagation.proofs.close.close_givens.Given as goal

abbrev pub invariant-loop-i : goal.invariant-loop-i
invariant-loop-i l = ComesTo l.set (Before l.set l.grid l.i) (Ok l.state)
