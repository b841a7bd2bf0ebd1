-- The parts before the i-th are filled; the i-th job fills its own.
use mathlib.Core.Path.{◌≡◌}
use Prim.Native.Nat.{◌*◌}
use lib.ListN.{length}
use Rattle.batch.specs.Call.{grids_in}
use Rattle.batch.proofs.Rows.{Underway}
use Rattle.batch.proofs.run_each.Given as goal

abbrev pub invariant-loop-i : goal.invariant-loop-i
invariant-loop-i l = (length l.marks ≡ 729 * (grids_in (length l.grids))) × (length l.numbers ≡ 2 * (grids_in (length l.grids))) × Underway l.technique l.order.entries.now l.grids l.ceiling l.initial.marks l.initial.numbers l.i l.marks l.numbers l.made
