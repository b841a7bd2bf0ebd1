-- The definition of a legal completion on the full grid G: cases that are computed.
-- Assumes nothing.
use mathlib.Core.Path.{◌≡◌, refl}
use mathlib.Core.Bool.{true, false}
use lib.ListN.{set, replicate}
use Rattle.grid.specs.Counting.{total, all}
use Rattle.grid.specs.Grid.{is_digit}
use Rattle.grid.specs.House.{cell_of}
use Rattle.grid.specs.Completion.{times, is_legal}
use Rattle.grid.specs.Examples.{G}

-- G completes the blank grid, itself, and itself with a dot in its first cell,
completes : (is_legal (replicate 81 46) G ≡ true) × (is_legal G G ≡ true) × (is_legal (set G 0 46) G ≡ true)
unfolding G is_legal all is_digit times total cell_of
completes = (refl, refl, refl)

-- but no grid whose first cell has another given; and G with a digit changed, or with a blank, is no completion.
does_not : (is_legal (set G 0 50) G ≡ false) × (is_legal (replicate 81 46) (set G 0 50) ≡ false) × (is_legal (replicate 81 46) (set G 80 48) ≡ false)
unfolding G is_legal all is_digit times total cell_of
does_not = (refl, refl, refl)
