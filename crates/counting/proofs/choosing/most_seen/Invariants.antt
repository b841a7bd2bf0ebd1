-- There are fewer cells then.
use Rattle.counting.proofs.choosing.most_seen.Given as goal

abbrev pub decreases-loop-cells : goal.decreases-loop-cells
decreases-loop-cells l = l.cells
