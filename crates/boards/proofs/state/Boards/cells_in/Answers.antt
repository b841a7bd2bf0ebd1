-- The cells of a house lie in the grid.
use native.Mathlib.Omega.{arith}
use Rattle.grid.proofs.House.{cell_below}
use Rattle.boards.proofs.state.Boards.cells_in.Goals as goal

pub digits_at-digits-requires : goal.digits_at-digits-requires
digits_at-digits-requires c =
    let h = cell_below c.args.house c.loop-k.k c.requires c.loop-k-test.true in
    (omega (arith, h, c.house_cell-cell.ensures), omega arith)
