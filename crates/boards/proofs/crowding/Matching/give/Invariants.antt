-- Cells have numbers below 9.
use Prim.Native.Nat.{◌<◌}
use Rattle.boards.proofs.crowding.Matching.give.Given as goal

abbrev pub invariant-loop : goal.invariant-loop
invariant-loop l = l.cell < 9
