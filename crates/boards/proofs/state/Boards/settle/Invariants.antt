-- Each look keeps what fits.
use Rattle.boards.specs.Boards.{Keeps}
use Rattle.boards.proofs.state.Boards.settle.Given as goal

abbrev pub invariant-loop : goal.invariant-loop
invariant-loop l = Keeps l.fn.self.words l.self.words

abbrev pub invariant-loop-band : goal.invariant-loop-band
invariant-loop-band l = Keeps l.fn.self.words l.self.words
