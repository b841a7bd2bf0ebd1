-- The bits before d are counted.
use mathlib.Core.Path.{◌≡◌}
use Prim.Native.Nat.{◌≤◌}
use Rattle.grid.specs.Counting.{tally}
use Rattle.boards.specs.Tables.{on}
use Rattle.boards.proofs.crowding.count.Given as goal

abbrev pub invariant-loop-d : goal.invariant-loop-d
invariant-loop-d l = (l.d ≤ 9) × (l.count ≡ tally l.d (on l.digits))
