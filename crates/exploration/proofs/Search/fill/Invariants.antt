-- No completion is lost, and the cells before this one have their digits.
use mathlib.Core.Path.{◌≡◌}
use mathlib.Core.Logic.{◌↔◌}
use mathlib.Core.List.{List}
use Prim.Native.Nat.{ℕ, ◌≤◌}
use lib.ListN.{length}
use Rattle.grid.specs.Completion.{Legal}
use Rattle.exploration.specs.Search.{ClosedBefore, open_cells}
use Rattle.exploration.proofs.Search.fill.Given as goal

abbrev pub invariant-loop-cell : goal.invariant-loop-cell
invariant-loop-cell l =
    (l.cell ≤ 81) × (length l.grid ≡ 81) × ((b : List ℕ) → Legal l.fn.grid b ↔ Legal l.grid b) ×
    (open_cells l.grid ≤ open_cells l.fn.grid) × ClosedBefore l.grid l.cell
