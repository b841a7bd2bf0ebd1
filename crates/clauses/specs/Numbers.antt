-- The numbers of the clauses: each family's in the sets that are made of it, and the shape that a number tells.
use Rattle.std.specs.Prelude.{◌≡◌, [], ℕ, suc, ◌-◌, ◌<◌, ◌≤◌, List, length, get_or}
use Rattle.clauses.specs.Clauses.{Clause, F1, F2, F3, F4, F5, F6, F7, F8, F9, clauses_of}
use Rattle.clauses.specs.Shape.{IsShape, InSet, clause_of, shape_of, number_of}
use Rattle.clauses.specs.declared.ClauseSet.{ClauseSet}
use Rattle.clauses.specs.declared.ClauseSet.TheVariants.{Minimal, Extended}
use Rattle.clauses.specs.declared.Shape.{Shape}

-- the clauses of a family have these numbers in a set, the first one first
pub record HasNumbers (s : ClauseSet) (family : List Clause) (first last : ℕ) : Type 0 where
  pub many : length family ≡ suc last - first
  pub entries : (n : ℕ) → first ≤ n → n ≤ last → get_or (clauses_of s) n [] ≡ get_or family (n - first) []

-- The numbers of the families in both sets, and in set 2 where it alone has them; and how many clauses each set has.
pub record FamilyNumbers : Type 0 where
  pub cells : (s : ClauseSet) → HasNumbers s F1 0 80
  pub column_pairs : (s : ClauseSet) → HasNumbers s F2 81 2996
  pub row_pairs : (s : ClauseSet) → HasNumbers s F3 2997 5912
  pub pairs_in_one_row_of_a_box : (s : ClauseSet) → HasNumbers s F4 5913 6641
  pub pairs_in_two_rows_of_a_box : (s : ClauseSet) → HasNumbers s F5 6642 8828
  pub cell_pairs : HasNumbers Extended F6 8829 11744
  pub columns : HasNumbers Extended F7 11745 11825
  pub rows : HasNumbers Extended F8 11826 11906
  pub boxes : HasNumbers Extended F9 11907 11987
  pub size_of_minimal : length (clauses_of Minimal) ≡ 8829
  pub size_of_extended : length (clauses_of Extended) ≡ 11988

-- A number of a set tells a shape that the set has, and the clause of the number is the clause of the shape. Each shape that a set has is told by a
-- number of the set.
pub record ShapeNumbers (s : ClauseSet) : Type 0 where
  pub shape : (n : ℕ) → n < length (clauses_of s) → IsShape (shape_of n) × InSet s (shape_of n)
  pub clause : (n : ℕ) → n < length (clauses_of s) → get_or (clauses_of s) n [] ≡ clause_of (shape_of n)
  pub number : (x : Shape) → IsShape x → InSet s x → (number_of x < length (clauses_of s)) × (shape_of (number_of x) ≡ x)
