-- The digits that were looked at have their bits.
use Prim.Native.Nat.{ℕ, ◌+◌, ◌*◌, ◌≤◌, ◌<◌}
use lib.ListN.{get_or}
use Rattle.boards.specs.Boards.{On}
use Rattle.boards.proofs.state.Boards.digits_at.Given as goal

abbrev pub invariant-loop-d : goal.invariant-loop-d
invariant-loop-d l = (l.d ≤ 9) × ((e : ℕ) → e < l.d → On (get_or l.self.words (4 * e + l.band) 0) l.cell → On l.digits e)
