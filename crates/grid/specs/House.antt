-- The 27 houses and the nine cells of each.
use Rattle.std.specs.Prelude.{cond, ℕ, ◌+◌, ◌*◌, ◌-◌, ◌/◌, ◌%◌, ltb}

-- the k-th cell of house h, both counted from 0: houses 0 to 8 are the rows, 9 to 17 the columns, 18 to 26 the boxes, row by row
unfoldable pub cell_of : ℕ → ℕ → ℕ
cell_of h k =
    cond (ltb h 9) (9 * h + k)
    (cond (ltb h 18) (9 * k + (h - 9)) (9 * (3 * ((h - 18) / 3) + k / 3) + (3 * ((h - 18) % 3) + k % 3)))
