-- A grid that fits has chosen digits in no more cells than are counted.
use mathlib.Core.List.{List}
use Prim.Native.Nat.{ℕ, ◌≤◌}
use Rattle.grid.specs.Counting.{tally}
use Rattle.boards.specs.Boards.{Fits}
use Rattle.boards.proofs.Crowds.{has_chosen}
use Rattle.boards.proofs.state.Boards.is_confined.Given as goal

abbrev pub invariant-loop-k : goal.invariant-loop-k
invariant-loop-k l = (l.k ≤ 9) × (l.cells ≤ l.k) × ((b : List ℕ) → Fits l.self.words b → tally l.k (has_chosen l.digits b l.house) ≤ l.cells)
