-- What fits at first is what was found, or fits still. The nodes fall.
use mathlib.Core.Path.{◌≡◌}
use mathlib.Core.Logic.{◌⊎◌}
use mathlib.Core.List.{List}
use Prim.Native.Nat.{ℕ, ◌≤◌}
use Rattle.std.specs.Prelude.{Some}
use Rattle.boards.specs.Boards.{Fits}
use Rattle.counting.proofs.attempts.Count.+count.Given as goal

abbrev pub decreases-count : goal.decreases-count
decreases-count l = l.self.now.nodes

abbrev pub invariant-loop-self : goal.invariant-loop-self
invariant-loop-self l = (l.self.nodes ≤ l.fn.self.nodes) × ((b : List ℕ) → Fits l.fn.boards.words b → (l.found ≡ Some b) ⊎ Fits l.boards.words b)

abbrev pub decreases-loop-self : goal.decreases-loop-self
decreases-loop-self l = l.self.nodes
