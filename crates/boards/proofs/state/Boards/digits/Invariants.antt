-- The word has fewer cells then.
use Rattle.boards.proofs.state.Boards.digits.Given as goal

abbrev pub decreases-loop-word : goal.decreases-loop-word
decreases-loop-word l = l.word
