-- Each look keeps what fits. There are fewer cells then.
use Rattle.boards.specs.Boards.{Keeps}
use Rattle.boards.proofs.state.Boards.look_at_cells.Given as goal

abbrev pub invariant-loop-cells : goal.invariant-loop-cells
invariant-loop-cells l = Keeps l.fn.self.words l.self.words

abbrev pub decreases-loop-cells : goal.decreases-loop-cells
decreases-loop-cells l = l.cells
