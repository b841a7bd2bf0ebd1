-- The sums follow kind by kind.
use mathlib.Core.Path.{◌≡◌}
use lib.ListN.{set}
use Rattle.groups.specs.Groups.{nine_kinds}
use Rattle.worklist.proofs.Weighing.{Weighing}
use Rattle.worklist.proofs.acting.State.raise.Given as goal

abbrev pub invariant-loop-kind : goal.invariant-loop-kind
invariant-loop-kind l = let m = l.fn.self.marks in (l.self.marks ≡ m) × Weighing (nine_kinds l.fn.set) l.kind-index m (set m l.p 1) l.self.sums
