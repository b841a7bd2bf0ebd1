-- After what was found before are the completions with one of the digits before this one in the first open cell. Each branch has fewer cells open.
use mathlib.Core.Path.{◌≡◌}
use Prim.Native.Nat.{◌-◌, ◌≤◌}
use Rattle.exploration.specs.Search.{Adds, open_cells}
use Rattle.exploration.proofs.Branches.{below}
use Rattle.exploration.proofs.Search.+explore.Given as goal

-- the number of open cells falls
abbrev pub decreases-explore : goal.decreases-explore
decreases-explore l = open_cells l.grid.now

abbrev pub invariant-loop-digit : goal.invariant-loop-digit
invariant-loop-digit l =
    (l.digit ≤ 9) × (l.self.only ≡ l.fn.self.only) × (l.self.test.tested ≡ l.fn.self.test.tested) × Adds l.fn.self.found l.self.found
    (below l.filled l.cell l.digit)

abbrev pub decreases-loop-digit : goal.decreases-loop-digit
decreases-loop-digit l = 9 - l.digit
