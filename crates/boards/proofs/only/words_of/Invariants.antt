-- The words have no cells but those of the digits.
use mathlib.Core.Path.{◌≡◌}
use Prim.Native.Nat.{ℕ, ◌+◌, ◌*◌, ◌<◌}
use lib.ListN.{length, get_or}
use Rattle.boards.specs.Boards.{On, Has}
use Rattle.boards.proofs.only.words_of.Given as goal

abbrev pub invariant-loop-cell : goal.invariant-loop-cell
invariant-loop-cell l = (length l.words ≡ 36) × ((d j i : ℕ) → d < 9 → j < 3 → i < 27 → On (get_or l.words (4 * d + j) 0) i → Has l.grid d j i)
