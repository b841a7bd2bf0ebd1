-- Of the cells that were looked at each digit has its bit.
use Prim.Native.Nat.{◌≤◌}
use Rattle.grid.specs.Grid.{byte}
use Rattle.grid.specs.House.{cell_of}
use Rattle.exploration.proofs.AllDigits.{HasBits}
use Rattle.exploration.proofs.solved.has_each.Given as goal

abbrev pub invariant-loop-k : goal.invariant-loop-k
invariant-loop-k l = (l.k ≤ 9) × HasBits (λ k. byte l.grid (cell_of l.house k)) l.k l.digits
