-- The bytes before the place are joined, and the others as they were.
use mathlib.Core.Path.{◌≡◌}
use Prim.Native.Nat.{ℕ, ◌≤◌, ◌<◌}
use lib.Bits.{bit_or}
use lib.ListN.{get_or}
use Rattle.trials.proofs.trial.note.Given as goal

abbrev pub invariant-loop-p : goal.invariant-loop-p
invariant-loop-p l = ((p : ℕ) → p < l.p → get_or l.known p 0 ≡ bit_or (get_or l.initial.known p 0) (get_or l.marks p 0)) × ((p : ℕ) → l.p ≤ p → get_or l.known p 0 ≡ get_or l.initial.known p 0)
