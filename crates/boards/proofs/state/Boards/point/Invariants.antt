-- What fits, and has the digit in the other bands in no cell of these columns, fits the words, but for the digit's own in its band.
use mathlib.Core.List.{List}
use Prim.Native.Nat.{ℕ}
use Rattle.boards.specs.Boards.{Pointed, Fits}
use Rattle.boards.proofs.Writes.{FitsAt, But}
use Rattle.boards.proofs.state.Boards.point.Given as goal

abbrev pub invariant-loop-k : goal.invariant-loop-k
invariant-loop-k l = (b : List ℕ) → Fits l.fn.self.words b → Pointed b l.digit l.band l.columns → FitsAt (But l.digit l.band) l.self.words b
