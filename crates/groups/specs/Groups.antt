-- The four groups of a place, the slots of the nine-literal clauses, which are the groups in the order of the clauses' numbers, and the
-- numbers of the two-literal clauses, which are pairs of places of a group.
use Rattle.std.specs.Prelude.{◌≡◌, cond, ◌⊎◌, List, [], ◌∷◌, ◌++◌, map, ℕ, zero, suc, ◌+◌, ◌*◌, ◌-◌, ◌/◌, ◌%◌, ◌≤◌, ◌<◌, ltb, eqb, negsuc, length, get_or}
use Rattle.clauses.specs.Clauses.{range, over, clauses_of}
use Rattle.clauses.specs.Shape.{place_of, column_of, row_of, box_of, pair_index, row_index, rows_index}
use Rattle.clauses.specs.declared.ClauseSet.{ClauseSet}
use Rattle.clauses.specs.declared.ClauseSet.TheVariants.{Minimal, Extended}
use Rattle.clauses.specs.declared.Group.{Group}
use Rattle.clauses.specs.declared.Group.TheVariants as group
use Rattle.groups.specs.declared.Line.{Line}
use Rattle.groups.specs.declared.Kind.{Kind}
use Rattle.groups.specs.declared.Kind.TheVariants.{Cell, Column, Row, Box}

-- the group of that kind that has place p
unfoldable pub group_at : Kind → ℕ → Group
group_at Cell p = group.Cell (p / 9)
group_at Column p = group.House (9 + p / 9 % 9) (p % 9)
group_at Row p = group.House (p / 81) (p % 9)
group_at Box p = group.House (18 + (3 * (p / 243) + p / 27 % 3)) (p % 9)

-- the k-th place of a line
abbrev pub place_along : Line → ℕ → ℕ
place_along a k = a.first + a.far * (k / 3) + a.near * (k % 3)

-- a line has the nine places of a group
abbrev pub LineOf : Group → Line → Type 0
LineOf g a = (k : ℕ) → k < 9 → place_along a k ≡ place_of g k

-- where place p stands in its group
unfoldable pub index_at : Kind → ℕ → ℕ
index_at Cell p = p % 9
index_at Column p = p / 81
index_at Row p = p / 9 % 9
index_at Box p = 3 * (p / 81 % 3) + p / 9 % 3

-- the kinds by number: the cell, then the houses
abbrev pub kind_at : ℕ → Kind
kind_at zero = Cell
kind_at (suc zero) = Column
kind_at (suc (suc zero)) = Row
kind_at (suc (suc (suc i))) = Box

-- the number of a kind
abbrev pub number_of : Kind → ℕ
number_of Cell = 0
number_of Column = 1
number_of Row = 2
number_of Box = 3

-- from which kind on a set has the pairs: set 1 of the houses, set 2 of all
abbrev pub first_pair : ClauseSet → ℕ
first_pair Minimal = 1
first_pair Extended = 0

-- a set has the pairs of a kind
abbrev pub PairKind : ClauseSet → Kind → Type 0
PairKind s f = first_pair s ≤ number_of f

-- of how many kinds, the first of them, a set has the nine: set 1 of the cell, set 2 of all
abbrev pub nine_kinds : ClauseSet → ℕ
nine_kinds Minimal = 1
nine_kinds Extended = 4

-- these kinds
abbrev pub nines_of : ClauseSet → List Kind
nines_of Minimal = Cell ∷ []
nines_of Extended = Cell ∷ Column ∷ Row ∷ Box ∷ []

-- a set has the nine of a kind
abbrev pub NineKind : ClauseSet → Kind → Type 0
NineKind s f = number_of f < nine_kinds s

-- the group of slot x: F1's cells, then the columns of F7, the rows of F8 and the boxes of F9
unfoldable pub group_in : ℕ → Group
group_in x =
    cond (ltb x 81) (group.Cell x)
    (cond (ltb x 162) (column_of (x - 81)) (cond (ltb x 243) (row_of (x - 162)) (box_of (x - 243))))

-- the number of its clause: F1 begins at 0, and F7 at 11,745
unfoldable pub clause_in : ℕ → ℕ
clause_in x = cond (ltb x 81) x (x + 11664)

-- the slot of the group of that kind that has place p
unfoldable pub slot_at : Kind → ℕ → ℕ
slot_at Cell p = p / 9
slot_at Column p = 81 + p % 81
slot_at Row p = 162 + (9 * (p / 81) + p % 9)
slot_at Box p = 243 + (9 * (p % 9) + (3 * (p / 243) + p / 27 % 3))

-- the lower of two
abbrev pub lower : ℕ → ℕ → ℕ
lower i k = cond (ltb i k) i k

-- the higher of two
abbrev pub higher : ℕ → ℕ → ℕ
higher i k = cond (ltb i k) k i

-- the index of a pair in a box: those in one row of it are counted apart from those in two
abbrev pub box_index : ℕ → ℕ → ℕ
box_index i j = cond (eqb (i / 3) (j / 3)) (row_index i j) (rows_index i j)

-- nine rows of nine, by row and column
abbrev pub square : (ℕ → ℕ → ℕ) → List ℕ
square f = over (range 0 9) λ i. map (λ k. f (lower i k) (higher i k)) (range 0 9)

-- the table of pairs: the index of each pair of nine places, and then of each in a box
unfoldable pub pair_table : List ℕ
pair_table = square pair_index ++ square box_index

-- where the row of place p in its group of that kind begins
unfoldable pub row_at : Kind → ℕ → ℕ
row_at Cell p = 9 * index_at Cell p
row_at Column p = 9 * index_at Column p
row_at Row p = 9 * index_at Row p
row_at Box p = 81 + 9 * index_at Box p

-- the number from which on the pairs of p with the t-th third of that group are counted: F6, F2 and F3, and F4 or F5
unfoldable pub first_number : Kind → ℕ → ℕ → ℕ
first_number Cell p t = 8829 + 36 * (p / 9)
first_number Column p t = 81 + 36 * (p % 81)
first_number Row p t = 2997 + 36 * (9 * (p / 81) + p % 9)
first_number Box p t =
    let q = 9 * (p % 9) + (3 * (p / 243) + p / 27 % 3) in
    cond (eqb t (p / 81 % 3)) (5913 + 9 * q) (6642 + 27 * q)

-- the number of the pair of p with the k-th place of that group
abbrev pub pair_number : Kind → ℕ → ℕ → ℕ
pair_number f p k = first_number f p (k / 3) + get_or pair_table (row_at f p + k) 0

-- places of a group whose pairs are counted from one number: in a box, within a third
abbrev pub IsRun : ℕ → ℕ → ℕ → Type 0
IsRun i from to = (i < 4) × (from ≤ to) × (to ≤ 9) × ((i < 3) ⊎ (to ≤ 3 * (from / 3) + 3))

-- clause c of the set says that not both of places p and q are true
abbrev pub Pair : ClauseSet → ℕ → ℕ → ℕ → Type 0
Pair s c p q =
    (c < length (clauses_of s))
    × ((get_or (clauses_of s) c [] ≡ negsuc p ∷ negsuc q ∷ []) ⊎ (get_or (clauses_of s) c [] ≡ negsuc q ∷ negsuc p ∷ []))
