-- The completions fit.
use mathlib.Core.List.{List}
use Prim.Native.Nat.{ℕ}
use Rattle.grid.specs.Completion.{Legal}
use Rattle.boards.specs.Boards.{Fits}
use Rattle.boards.proofs.start.start.Given as goal

abbrev pub invariant-loop-j : goal.invariant-loop-j
invariant-loop-j l = (b : List ℕ) → Legal l.grid b → Fits l.boards.words b

abbrev pub invariant-loop-i : goal.invariant-loop-i
invariant-loop-i l = (b : List ℕ) → Legal l.grid b → Fits l.boards.words b
