-- What fits and has the digit in these cells fits the words, but for the digit's own.
use mathlib.Core.List.{List}
use Prim.Native.Nat.{ℕ}
use Rattle.boards.specs.Boards.{HasAll, Fits}
use Rattle.boards.proofs.Writes.{FitsAt, But}
use Rattle.boards.proofs.state.Boards.fix.Given as goal

abbrev pub invariant-loop-e : goal.invariant-loop-e
invariant-loop-e l = (b : List ℕ) → Fits l.fn.self.words b → HasAll b l.digit l.band l.cells → FitsAt (But l.digit l.band) l.self.words b
