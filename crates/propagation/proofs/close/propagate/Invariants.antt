-- Each look leaves less to do; with nothing left the marks are the unit closure.
use Prim.Native.Nat.{◌-◌}
use Rattle.worklist.specs.Acting.{Stepped}
use Rattle.propagation.proofs.close.propagate.Given as goal

abbrev pub invariant-loop-clause : goal.invariant-loop-clause
invariant-loop-clause l = Stepped l.set l.fn.state.marks l.state l.list

abbrev pub decreases-loop-clause : goal.decreases-loop-clause
decreases-loop-clause l = 729 - l.state.decided
