-- Clauses by the arithmetic of their numbers, as the code finds them. A group is nine variables of which a full grid makes one true: the
-- digits of a cell, or the cells of a house for one digit. A clause says that one of a group is true, or that not both of two are.
-- A place is a variable less 1.
use Rattle.std.specs.Prelude.{cond, List, [], ◌∷◌, map, ℕ, suc, ◌+◌, ◌*◌, ◌-◌, ◌/◌, ◌%◌, ◌<◌, ltb, eqb, pos, negsuc, get_or}
use Rattle.grid.specs.House.{cell_of}
use Rattle.clauses.specs.Clauses.{Clause, range, up_to, over}
use Rattle.clauses.specs.declared.ClauseSet.{ClauseSet}
use Rattle.clauses.specs.declared.ClauseSet.TheVariants.{Minimal, Extended}
use Rattle.clauses.specs.declared.Group.{Group}
use Rattle.clauses.specs.declared.Group.TheVariants.{Cell, House}
use Rattle.clauses.specs.declared.Shape.{Shape}
use Rattle.clauses.specs.declared.Shape.TheVariants.{OneOf, NotBoth}

-- the k-th place of a group: digit k + 1 of a cell, digit d + 1 at the k-th cell of a house
unfoldable pub place_of : Group → ℕ → ℕ
place_of (Cell c) k = 9 * c + k
place_of (House h d) k = 9 * cell_of h k + d

-- a cell below 81; a house below 27 and a digit below 9
abbrev pub IsGroup : Group → Type 0
IsGroup (Cell c) = c < 81
IsGroup (House h d) = (h < 27) × (d < 9)

-- two different places of one group
abbrev pub IsShape : Shape → Type 0
IsShape (OneOf g) = IsGroup g
IsShape (NotBoth g i j) = IsGroup g × (i < j) × (j < 9)

-- set 1 has the cells' clauses and the houses' pairs, set 2 has all
abbrev pub InSet : ClauseSet → Shape → Type 0
InSet Extended s = Unit {0}
InSet Minimal (OneOf (Cell c)) = Unit {0}
InSet Minimal (OneOf (House h d)) = ⊥
InSet Minimal (NotBoth (Cell c) i j) = ⊥
InSet Minimal (NotBoth (House h d) i j) = Unit {0}

-- the clause of a shape
unfoldable pub clause_of : Shape → Clause
clause_of (OneOf g) = map (λ k. pos (suc (place_of g k))) (range 0 9)
clause_of (NotBoth g i j) = negsuc (place_of g i) ∷ negsuc (place_of g j) ∷ []

-- the pairs i < j of nine places, in index order, as numbers of two digits
abbrev pub pairs : List ℕ
pairs = over (up_to 0 8) λ i. map (λ j. 10 * i + j) (up_to (suc i) 8)

-- the q-th group in the index order (y,z)
abbrev pub column_of : ℕ → Group
column_of q = House (9 + q / 9) (q % 9)

-- the q-th group in the index order (x,z)
abbrev pub row_of : ℕ → Group
row_of q = House (q / 9) (q % 9)

-- the q-th group in the index order (z,a,b)
abbrev pub box_of : ℕ → Group
box_of q = House (18 + q % 9) (q / 9)

-- pair u of a group
abbrev pub pair_of : Group → ℕ → Shape
pair_of g u = NotBoth g (get_or pairs u 0 / 10) (get_or pairs u 0 % 10)

-- pair t of F4 in a box: in row t / 3 of it, columns 0 and 1, 0 and 2, or 1 and 2
abbrev pub row_pair : Group → ℕ → Shape
row_pair g t = NotBoth g (3 * (t / 3) + t % 3 / 2) (3 * (t / 3) + (t % 3 + 3) / 2)

-- pair t of F5 in a box: a place of its first row with the six of the other two, then one of its second row with the three of the third
abbrev pub rows_pair : Group → ℕ → Shape
rows_pair g t = cond (ltb t 18) (NotBoth g (t / 6) (3 + t % 6)) (NotBoth g (3 + (t - 18) / 3) (6 + t % 3))

-- the shape of clause n
unfoldable pub shape_of : ℕ → Shape
shape_of n =
    cond (ltb n 81) (OneOf (Cell n))
    (cond (ltb n 2997) (pair_of (column_of ((n - 81) / 36)) ((n - 81) % 36))
    (cond (ltb n 5913) (pair_of (row_of ((n - 2997) / 36)) ((n - 2997) % 36))
    (cond (ltb n 6642) (row_pair (box_of ((n - 5913) / 9)) ((n - 5913) % 9))
    (cond (ltb n 8829) (rows_pair (box_of ((n - 6642) / 27)) ((n - 6642) % 27))
    (cond (ltb n 11745) (pair_of (Cell ((n - 8829) / 36)) ((n - 8829) % 36))
    (cond (ltb n 11826) (OneOf (column_of (n - 11745)))
    (cond (ltb n 11907) (OneOf (row_of (n - 11826))) (OneOf (box_of (n - 11907))))))))))

-- the index of the pair i < j among the 36 of nine places
abbrev pub pair_index : ℕ → ℕ → ℕ
pair_index i j = i * (17 - i) / 2 + (j - i - 1)

-- its index among the nine of a box in one row of it, as F4 lists them
abbrev pub row_index : ℕ → ℕ → ℕ
row_index i j = 3 * (i / 3) + (i % 3 + j % 3 - 1)

-- its index among the 27 of a box in two rows, as F5 lists them
abbrev pub rows_index : ℕ → ℕ → ℕ
rows_index i j = 18 * (i / 3) + (6 - 3 * (i / 3)) * (i % 3) + 3 * (j / 3 - i / 3 - 1) + j % 3

-- the number of the clause of a shape
unfoldable pub number_of : Shape → ℕ
number_of (OneOf (Cell c)) = c
number_of (OneOf (House h d)) = cond (ltb h 9) (11826 + 9 * h + d) (cond (ltb h 18) (11745 + 9 * (h - 9) + d) (11907 + 9 * d + (h - 18)))
number_of (NotBoth (Cell c) i j) = 8829 + 36 * c + pair_index i j
number_of (NotBoth (House h d) i j) =
    cond (ltb h 9) (2997 + 36 * (9 * h + d) + pair_index i j)
    (cond (ltb h 18) (81 + 36 * (9 * (h - 9) + d) + pair_index i j)
    (cond (eqb (i / 3) (j / 3)) (5913 + 9 * (9 * d + (h - 18)) + row_index i j) (6642 + 27 * (9 * d + (h - 18)) + rows_index i j)))
