-- There are fewer cells then.
use Rattle.boards.proofs.crowding.Matching.reach.Given as goal

abbrev pub decreases-loop-more : goal.decreases-loop-more
decreases-loop-more l = l.more
