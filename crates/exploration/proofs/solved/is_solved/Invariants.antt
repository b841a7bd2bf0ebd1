-- The houses that were looked at have all digits.
use Prim.Native.Nat.{ℕ, ◌≤◌, ◌<◌}
use Rattle.grid.specs.Completion.{times}
use Rattle.exploration.proofs.solved.is_solved.Given as goal

abbrev pub invariant-loop-house : goal.invariant-loop-house
invariant-loop-house l = (h d : ℕ) → h < l.house → d < 9 → 1 ≤ times l.grid h d
