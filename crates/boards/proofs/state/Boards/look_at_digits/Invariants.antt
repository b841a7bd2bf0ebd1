-- Each look keeps what fits. There are fewer digits then.
use Rattle.boards.specs.Boards.{Keeps}
use Rattle.boards.proofs.state.Boards.look_at_digits.Given as goal

abbrev pub invariant-loop-digits : goal.invariant-loop-digits
invariant-loop-digits l = Keeps l.fn.self.words l.self.words

abbrev pub decreases-loop-digits : goal.decreases-loop-digits
decreases-loop-digits l = l.digits
