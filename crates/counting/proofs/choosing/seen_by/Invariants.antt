-- At most 32 candidates of a band are counted, five times.
use Prim.Native.Nat.{◌*◌, ◌≤◌}
use Rattle.counting.proofs.choosing.seen_by.Given as goal

abbrev pub invariant-loop-k : goal.invariant-loop-k
invariant-loop-k l = (l.k ≤ 3) × (l.sum ≤ 160 * l.k)
