-- A place of a cell or of a house is below 729, since the cell is below 81.
use mathlib.Core.Path.{ap, sym, subst, ◌∙◌}
use Prim.Native.Nat.{◌+◌, ◌*◌, ◌<◌}
use native.Mathlib.Omega.{arith}
use Rattle.grid.proofs.House.{cell_below}
use Rattle.clauses.specs.Shape.{place_of, IsGroup}
use Rattle.clauses.proofs.decode.place.Goals as goal

pub overflow_mul-result-in-House : goal.overflow_mul-result-in-House
overflow_mul-result-in-House c =
    let small : (c.house_cell.result < 81) × (c.in-House.d < 9) = let g = subst IsGroup c.in-House.is c.requires.0 in
    (omega (arith, c.house_cell.ensures, cell_below _ _ g.0 c.requires.1), g.1) in
    omega (arith, small)

pub overflow_add-result-in-House : goal.overflow_add-result-in-House
overflow_add-result-in-House c =
    let small : (c.house_cell.result < 81) × (c.in-House.d < 9) = let g = subst IsGroup c.in-House.is c.requires.0 in
    (omega (arith, c.house_cell.ensures, cell_below _ _ g.0 c.requires.1), g.1) in
    omega (arith, small)

pub returns-in-Cell : goal.returns-in-Cell
unfolding place_of
returns-in-Cell c = (ap (λ g. place_of g c.args.k) (sym c.in-Cell.is), omega (arith, subst IsGroup c.in-Cell.is c.requires.0, c.requires.1))

pub returns-in-House : goal.returns-in-House
unfolding place_of
returns-in-House c =
    let small : (c.house_cell.result < 81) × (c.in-House.d < 9) = let g = subst IsGroup c.in-House.is c.requires.0 in
    (omega (arith, c.house_cell.ensures, cell_below _ _ g.0 c.requires.1), g.1) in
    (ap (λ x. 9 * x + c.in-House.d) c.house_cell.ensures ∙ ap (λ x. place_of x c.args.k) (sym c.in-House.is), omega (arith, small))
