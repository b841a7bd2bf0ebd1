-- The number of the clause of a shape: that the number has this shape is a test that is computed, over every group and pair.
-- Assumes nothing.
use mathlib.Core.Path.{◌≡◌, ap}
use mathlib.Core.Bool.{Bool, false, ◌&&◌}
use Prim.Native.Nat.{ℕ, ◌<◌}
use native.Mathlib.Omega.{arith}
use lib.Dec.{T, ltb, eqb, ltb→lt, eqb→eq}
use Rattle.grid.specs.Counting.{all}
use Rattle.grid.proofs.Table.{and_iff}
use Rattle.grid.proofs.Counting.{all_iff}
use Rattle.clauses.specs.Shape.{IsGroup, IsShape, InSet, shape_of, number_of}
use Rattle.clauses.specs.declared.ClauseSet.{ClauseSet}
use Rattle.clauses.specs.declared.ClauseSet.TheVariants.{Minimal, Extended}
use Rattle.clauses.specs.declared.Group.{Group}
use Rattle.clauses.specs.declared.Group.TheVariants.{Cell, House}
use Rattle.clauses.specs.declared.Shape.{Shape}
use Rattle.clauses.specs.declared.Shape.TheVariants.{OneOf, NotBoth}
use Rattle.clauses.proofs.Numbers.{size_of}

-- tests of equality
abbrev pub same_group : Group → Group → Bool
same_group (Cell c) (Cell b) = eqb c b
same_group (House h d) (House k e) = eqb h k && eqb d e
same_group (Cell c) (House h d) = false
same_group (House h d) (Cell c) = false

abbrev same_shape : Shape → Shape → Bool
same_shape (OneOf g) (OneOf f) = same_group g f
same_shape (NotBoth g i j) (NotBoth f x y) = same_group g f && (eqb i x && eqb j y)
same_shape (OneOf g) (NotBoth f x y) = false
same_shape (NotBoth g i j) (OneOf f) = false

pub group_eq : (g f : Group) → T (same_group g f) → g ≡ f
group_eq (Cell c) (Cell b) t = ap Cell (eqb→eq c b t)
group_eq (House h d) (House k e) t = let w = (and_iff (eqb h k) (eqb d e)).0 t in cc (eqb→eq h k w.0, eqb→eq d e w.1)
group_eq (Cell c) (House h d) t = absurd t
group_eq (House h d) (Cell c) t = absurd t

shape_eq : (s r : Shape) → T (same_shape s r) → s ≡ r
shape_eq (OneOf g) (OneOf f) t = ap OneOf (group_eq g f t)
shape_eq (NotBoth g i j) (NotBoth f x y) t =
    let w = (and_iff (same_group g f) (eqb i x && eqb j y)).0 t in
    let v = (and_iff (eqb i x) (eqb j y)).0 w.1 in
    cc (group_eq g f w.0, eqb→eq i x v.0, eqb→eq j y v.1)
shape_eq (OneOf g) (NotBoth f x y) t = absurd t
shape_eq (NotBoth g i j) (OneOf f) t = absurd t

-- the number is below the bound, and has the shape
abbrev right : ℕ → Shape → Bool
right bound s = ltb (number_of s) bound && same_shape (shape_of (number_of s)) s

-- a group's clause and its pairs
abbrev right_group : ℕ → ℕ → Group → Bool
right_group one two g = right one (OneOf g) && all 9 λ j. all j λ i. right two (NotBoth g i j)

cells_right : T (all 81 λ c. right_group 8829 11988 (Cell c))
unfolding all number_of shape_of
cells_right = tt

houses_right : T (all 27 λ h. all 9 λ d. right_group 11988 8829 (House h d))
unfolding all number_of shape_of
houses_right = tt

-- a group's clause lies below one bound and its pairs below another
abbrev bounds : Group → ℕ × ℕ
bounds (Cell c) = (8829, 11988)
bounds (House h d) = (11988, 8829)

group_right : (g : Group) → IsGroup g → T (right_group (bounds g).0 (bounds g).1 g)
group_right (Cell c) h = (all_iff 81 (λ c. right_group 8829 11988 (Cell c))).0 cells_right c h
group_right (House h d) i =
    (all_iff 9 (λ d. right_group 11988 8829 (House h d))).0 ((all_iff 27 (λ h. all 9 λ d. right_group 11988 8829 (House h d))).0 houses_right h i.0) d i.1

-- the bound of a shape's number
abbrev bound_of : Shape → ℕ
bound_of (OneOf g) = (bounds g).0
bound_of (NotBoth g i j) = (bounds g).1

shape_right : (s : Shape) → IsShape s → T (right (bound_of s) s)
shape_right (OneOf g) h = ((and_iff (right (bounds g).0 (OneOf g)) (all 9 λ j. all j λ i. right (bounds g).1 (NotBoth g i j))).0 (group_right g h)).0
shape_right (NotBoth g i j) h =
    let w = ((and_iff (right (bounds g).0 (OneOf g)) (all 9 λ j. all j λ i. right (bounds g).1 (NotBoth g i j))).0 (group_right g h.0)).1 in
    (all_iff j (λ i. right (bounds g).1 (NotBoth g i j))).0 ((all_iff 9 (λ j. all j λ i. right (bounds g).1 (NotBoth g i j))).0 w j h.2) i h.1

bound_fits : (t : ClauseSet) (s : Shape) → InSet t s → (n : ℕ) → n < bound_of s → n < size_of t
bound_fits Minimal (OneOf (Cell c)) h n b = b
bound_fits Minimal (OneOf (House x d)) h n b = absurd h
bound_fits Minimal (NotBoth (Cell c) i j) h n b = absurd h
bound_fits Minimal (NotBoth (House x d) i j) h n b = b
bound_fits Extended (OneOf (Cell c)) h n b = omega arith
bound_fits Extended (OneOf (House x d)) h n b = b
bound_fits Extended (NotBoth (Cell c) i j) h n b = b
bound_fits Extended (NotBoth (House x d) i j) h n b = omega arith

-- the number of a shape that a set has is one of the set, and has the shape
pub shape_number : (t : ClauseSet) (s : Shape) → IsShape s → InSet t s → (number_of s < size_of t) × (shape_of (number_of s) ≡ s)
shape_number t s h i =
    let w = (and_iff (ltb (number_of s) (bound_of s)) (same_shape (shape_of (number_of s)) s)).0 (shape_right s h) in
    (bound_fits t s i (number_of s) (ltb→lt (number_of s) (bound_of s) w.0), shape_eq (shape_of (number_of s)) s w.1)
