-- The numbers of the families, which are put together in the sets; and the shape of every clause: a test that is computed, over all 11,988 clauses.
-- Assumes nothing.
use mathlib.Core.Path.{◌≡◌, refl, ap, sym, ◌∙◌}
use mathlib.Core.Bool.{Bool, true, false, ◌&&◌}
use mathlib.Core.List.{List, [], ◌∷◌, ◌++◌}
use Prim.Native.Nat.{ℕ, suc, ◌+◌, ◌-◌, ◌<◌, ◌≤◌}
use native.Mathlib.Omega.{arith}
use lib.Dec.{T, ltb, eqb, ltb→lt, eqb→eq}
use lib.IntN.{ℤ, pos, negsuc}
use lib.ListN.{length, get_or, get_or-append, take, drop}
use lib.Seq.{get_or-append_right}
use Rattle.std.proofs.lemmas.List.{append_assoc}
use Rattle.grid.specs.House.{cell_of}
use Rattle.grid.proofs.Table.{every, at, and_iff}
use Rattle.clauses.specs.Clauses.{Clause, over, F1, F2, F3, F4, F5, F6, F7, F8, F9, families, minimal, extended, clauses_of}
use Rattle.clauses.specs.Numbers.{HasNumbers, FamilyNumbers}
use Rattle.clauses.specs.Shape.{place_of, IsGroup, IsShape, clause_of, shape_of}
use Rattle.clauses.specs.declared.ClauseSet.{ClauseSet}
use Rattle.clauses.specs.declared.ClauseSet.TheVariants.{Minimal, Extended}
use Rattle.clauses.specs.declared.Group.{Group}
use Rattle.clauses.specs.declared.Group.TheVariants.{Cell, House}
use Rattle.clauses.specs.declared.Shape.{Shape}
use Rattle.clauses.specs.declared.Shape.TheVariants.{OneOf, NotBoth}

-- what is put together of two lists of families begins with what is put together of the first
over_append : {A B : Type 0} (xs ys : List A) (f : A → List B) → over (xs ++ ys) f ≡ over xs f ++ over ys f
over_append [] ys f = refl
over_append (x ∷ xs) ys f = ap (λ l. f x ++ l) (over_append xs ys f) ∙ sym (append_assoc (f x) (over xs f) (over ys f))

-- families, one after the other
abbrev joined : List (List Clause) → List Clause
joined fs = over fs λ family. family

-- the clauses of a family among others have the numbers from where those before it end
family_at : (before : List (List Clause)) (family : List Clause) (after : List (List Clause)) (n : ℕ)
    → length (joined before) ≤ n → n < length (joined before) + length family
    → get_or (joined (before ++ (family ∷ after))) n [] ≡ get_or family (n - length (joined before)) []
family_at before family after n a b =
    ap (λ l. get_or l n []) (over_append before (family ∷ after) (λ f. f))
    ∙ get_or-append_right (joined before) (family ++ joined after) n [] a
    ∙ get_or-append family (joined after) [] (n - length (joined before)) (omega arith)

-- tests of equality and of a shape
abbrev same_literal : ℤ → ℤ → Bool
same_literal (pos a) (pos b) = eqb a b
same_literal (negsuc a) (negsuc b) = eqb a b
same_literal (pos a) (negsuc b) = false
same_literal (negsuc a) (pos b) = false

abbrev same_clause : Clause → Clause → Bool
same_clause [] [] = true
same_clause [] (m ∷ d) = false
same_clause (l ∷ c) [] = false
same_clause (l ∷ c) (m ∷ d) = same_literal l m && same_clause c d

abbrev is_group : Group → Bool
is_group (Cell c) = ltb c 81
is_group (House h d) = ltb h 27 && ltb d 9

abbrev is_shape : Shape → Bool
is_shape (OneOf g) = is_group g
is_shape (NotBoth g i j) = is_group g && (ltb i j && ltb j 9)

literal_eq : (l m : ℤ) → T (same_literal l m) → l ≡ m
literal_eq (pos a) (pos b) t = ap pos (eqb→eq a b t)
literal_eq (pos a) (negsuc b) t = absurd t
literal_eq (negsuc a) (pos b) t = absurd t
literal_eq (negsuc a) (negsuc b) t = ap negsuc (eqb→eq a b t)

clause_eq : (c d : Clause) → T (same_clause c d) → c ≡ d
clause_eq [] [] t = refl
clause_eq [] (m ∷ d) t = absurd t
clause_eq (l ∷ c) [] t = absurd t
clause_eq (l ∷ c) (m ∷ d) t =
    let i = (and_iff (same_literal l m) (same_clause c d)).0 t in
    let e = literal_eq l m i.0 in
    let f = clause_eq c d i.1 in
    cc

is_group_lem : (g : Group) → T (is_group g) → IsGroup g
is_group_lem (Cell c) t = ltb→lt c 81 t
is_group_lem (House h d) t = let i = (and_iff (ltb h 27) (ltb d 9)).0 t in (ltb→lt h 27 i.0, ltb→lt d 9 i.1)

is_shape_lem : (s : Shape) → T (is_shape s) → IsShape s
is_shape_lem (OneOf g) t = is_group_lem g t
is_shape_lem (NotBoth g i j) t =
    let x = (and_iff (is_group g) (ltb i j && ltb j 9)).0 t in
    let y = (and_iff (ltb i j) (ltb j 9)).0 x.1 in
    (is_group_lem g x.0, ltb→lt i j y.0, ltb→lt j 9 y.1)

-- clause n has its shape, and the shape is one
abbrev right : ℕ → Clause → Bool
right n c = same_clause c (clause_of (shape_of n)) && is_shape (shape_of n)

all_right : T (every right 0 extended)
unfolding extended families F1 F2 F3 F4 F5 F6 F7 F8 F9 clause_of shape_of place_of cell_of
all_right = tt

extended_long : length extended ≡ 11988
unfolding extended families F1 F2 F3 F4 F5 F6 F7 F8 F9
extended_long = refl

minimal_long : length minimal ≡ 8829
unfolding minimal families F1 F2 F3 F4 F5
minimal_long = refl

right_at : (n : ℕ) → n < 11988 → T (same_clause (get_or extended n []) (clause_of (shape_of n))) × T (is_shape (shape_of n))
right_at n h =
    (and_iff (same_clause (get_or extended n []) (clause_of (shape_of n))) (is_shape (shape_of n))).0
    (at right [] extended all_right n (omega (arith, extended_long)))

pub shape_is : (n : ℕ) → n < 11988 → IsShape (shape_of n)
shape_is n h = is_shape_lem (shape_of n) (right_at n h).1

-- how many clauses a set has
abbrev pub size_of : ClauseSet → ℕ
size_of Minimal = 8829
size_of Extended = 11988

pub set_long : (s : ClauseSet) → length (clauses_of s) ≡ size_of s
unfolding clauses_of
set_long Minimal = minimal_long
set_long Extended = extended_long

pub sizes : (s : ClauseSet) → (8829 ≤ size_of s) × (size_of s ≤ 11988)
sizes Minimal = omega arith
sizes Extended = omega arith

-- set 1 is where set 2 begins
in_extended : (n : ℕ) → n < 8829 → get_or minimal n [] ≡ get_or extended n []
unfolding minimal extended families
in_extended n h =
    sym (get_or-append (joined (take 5 families)) (joined (drop 5 families)) [] n (omega (arith, h, minimal_long)))
    ∙ ap (λ l. get_or l n []) (sym (over_append (take 5 families) (drop 5 families) (λ f. f)))

extended_at : (n : ℕ) → n < 11988 → get_or extended n [] ≡ clause_of (shape_of n)
extended_at n h = clause_eq (get_or extended n []) (clause_of (shape_of n)) (right_at n h).0

-- clause n of either set is the one of its shape
pub clause_at : (s : ClauseSet) (n : ℕ) → n < size_of s → get_or (clauses_of s) n [] ≡ clause_of (shape_of n)
unfolding clauses_of
clause_at Extended n h = extended_at n h
clause_at Minimal n h = in_extended n h ∙ extended_at n (omega arith)

-- a family among those that a set is made of
in_set : (s : ClauseSet) (before : List (List Clause)) (family : List Clause) (after : List (List Clause)) (first last : ℕ)
    → clauses_of s ≡ joined (before ++ (family ∷ after)) → length (joined before) ≡ first → length family ≡ suc last - first → first ≤ last
    → HasNumbers s family first last
in_set s before family after first last made start many some = record {
  many = many;
  entries = λ n a b.
      ap (λ l. get_or l n []) made
      ∙ family_at before family after n (omega arith) (omega arith)
      ∙ ap (λ k. get_or family (n - k) []) start;
}

-- the families of a set from F6 on
abbrev late : ClauseSet → List (List Clause)
late Minimal = []
late Extended = F6 ∷ F7 ∷ F8 ∷ F9 ∷ []

made_of : (s : ClauseSet) → clauses_of s ≡ joined (F1 ∷ F2 ∷ F3 ∷ F4 ∷ F5 ∷ late s)
unfolding clauses_of minimal extended families
made_of Minimal = refl
made_of Extended = refl

pub family_numbers : FamilyNumbers
unfolding F1 F2 F3 F4 F5 F6 F7 F8 F9
family_numbers = record {
  cells = λ s. in_set s [] F1 (F2 ∷ F3 ∷ F4 ∷ F5 ∷ late s) 0 80 (made_of s) refl refl (omega arith);
  column_pairs = λ s. in_set s (F1 ∷ []) F2 (F3 ∷ F4 ∷ F5 ∷ late s) 81 2996 (made_of s) refl refl (omega arith);
  row_pairs = λ s. in_set s (F1 ∷ F2 ∷ []) F3 (F4 ∷ F5 ∷ late s) 2997 5912 (made_of s) refl refl (omega arith);
  pairs_in_one_row_of_a_box = λ s. in_set s (F1 ∷ F2 ∷ F3 ∷ []) F4 (F5 ∷ late s) 5913 6641 (made_of s) refl refl (omega arith);
  pairs_in_two_rows_of_a_box = λ s. in_set s (F1 ∷ F2 ∷ F3 ∷ F4 ∷ []) F5 (late s) 6642 8828 (made_of s) refl refl (omega arith);
  cell_pairs = in_set Extended (F1 ∷ F2 ∷ F3 ∷ F4 ∷ F5 ∷ []) F6 (F7 ∷ F8 ∷ F9 ∷ []) 8829 11744 (made_of Extended) refl refl (omega arith);
  columns = in_set Extended (F1 ∷ F2 ∷ F3 ∷ F4 ∷ F5 ∷ F6 ∷ []) F7 (F8 ∷ F9 ∷ []) 11745 11825 (made_of Extended) refl refl (omega arith);
  rows = in_set Extended (F1 ∷ F2 ∷ F3 ∷ F4 ∷ F5 ∷ F6 ∷ F7 ∷ []) F8 (F9 ∷ []) 11826 11906 (made_of Extended) refl refl (omega arith);
  boxes = in_set Extended (F1 ∷ F2 ∷ F3 ∷ F4 ∷ F5 ∷ F6 ∷ F7 ∷ F8 ∷ []) F9 [] 11907 11987 (made_of Extended) refl refl (omega arith);
  size_of_minimal = set_long Minimal;
  size_of_extended = set_long Extended;
}
