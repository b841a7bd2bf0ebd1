-- Those that were looked at are settled.
use Prim.Native.Nat.{◌≤◌}
use Rattle.worklist.proofs.Settling.{Settling}
use Rattle.worklist.proofs.acting.Worklist.settle.Given as goal

abbrev pub invariant-loop-i : goal.invariant-loop-i
invariant-loop-i l = (l.n ≤ 324) × Settling l.sums l.fn.self l.i l.self.numbers l.n l.clash
