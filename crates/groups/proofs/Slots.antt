-- The groups of a place, and their slots. Each place is in one group of each kind, and a slot's group is the one of its kind at each of its nine
-- places: two tests that are computed, one over every kind and place, and one over every slot and index.
-- Assumes nothing.
use mathlib.Core.Path.{◌≡◌, refl, ap, sym, subst, ◌∙◌}
use mathlib.Core.Logic.{◌⊎◌, inl, inr, ⊎_elim}
use mathlib.Core.Bool.{Bool, ◌&&◌}
use Prim.Native.Nat.{ℕ, zero, suc, ◌+◌, ◌*◌, ◌-◌, ◌/◌, ◌%◌, ◌≤◌, ◌<◌}
use native.Mathlib.Decide.{dec_lt}
use native.Mathlib.Omega.{arith}
use borrow.Author.Tests.{lt-ltb, le-ltb}
use lib.Dec.{T, eqb, ltb, eqb→eq, ltb→lt}
use mathlib.Core.List.{List}
use lib.ListN.{length, get_or}
use Rattle.grid.specs.Counting.{all}
use Rattle.grid.specs.House.{cell_of}
use Rattle.grid.proofs.Table.{and_iff}
use Rattle.grid.proofs.Counting.{all_iff}
use Rattle.grid.proofs.House.{row_cell, column_cell, box_cell, by_house}
use Rattle.clauses.specs.Shape.{place_of, IsGroup, InSet, shape_of, number_of as number_of_shape}
use Rattle.clauses.specs.declared.ClauseSet.{ClauseSet}
use Rattle.clauses.specs.declared.ClauseSet.TheVariants.{Minimal, Extended}
use Rattle.clauses.specs.declared.Group.{Group}
use Rattle.clauses.specs.declared.Group.TheVariants as group
use Rattle.clauses.specs.declared.Shape.TheVariants.{OneOf, NotBoth}
use Rattle.clauses.proofs.ShapeNumber.{same_group, group_eq, shape_number}
use Rattle.groups.specs.Groups.{group_at, index_at, kind_at, number_of, first_pair, PairKind, nine_kinds, nines_of, NineKind, group_in, clause_in, slot_at}
use Rattle.groups.specs.declared.Kind.{Kind}
use Rattle.groups.specs.declared.Kind.TheVariants.{Cell, Column, Row, Box}

-- what holds of the group of every kind at every place holds of every group
pub by_kind : (P : Group → Type 0) → ((f : Kind) (p : ℕ) → p < 729 → P (group_at f p)) → (g : Group) → IsGroup g → P g
unfolding group_at
by_kind P h (group.Cell c) i = let e : 9 * c / 9 ≡ c = omega arith in rw e at (h Cell (9 * c) (omega arith))
by_kind P h (group.House x d) i = by_house {P = λ x. P (group.House x d)}
    (λ r u.
    let e : (81 * r + d) / 81 ≡ r = omega arith in
    let f : (81 * r + d) % 9 ≡ d = omega arith in
    rw (e, f) at (h Row (81 * r + d) (omega arith)))
    (λ y u.
    let e : (9 * y + d) / 9 % 9 ≡ y = omega arith in
    let f : (9 * y + d) % 9 ≡ d = omega arith in
    rw (e, f) at (h Column (9 * y + d) (omega arith)))
    (λ a b u v.
    let e : (243 * a + 27 * b + d) / 243 ≡ a = omega arith in
    let k : (243 * a + 27 * b + d) / 27 % 3 ≡ b = omega arith in
    let f : (243 * a + 27 * b + d) % 9 ≡ d = omega arith in
    rw (e, k, f) at (h Box (243 * a + 27 * b + d) (omega arith)))
    x i.0

-- the k-th place of a group, by its kind
pub cell_place : (p k : ℕ) → place_of (group_at Cell p) k ≡ 9 * (p / 9) + k
unfolding group_at place_of
cell_place p k = refl

pub row_place : (p k : ℕ) → p < 729 → place_of (group_at Row p) k ≡ 81 * (p / 81) + 9 * k + p % 9
unfolding group_at place_of
row_place p k h = omega (arith, row_cell k (p / 81) (omega arith))

pub column_place : (p k : ℕ) → place_of (group_at Column p) k ≡ 81 * k + p % 81
unfolding group_at place_of
column_place p k = omega (arith, column_cell k (p / 9 % 9) (omega arith))

-- the row and the column of boxes that a place is in
pub box_row : (p : ℕ) → p / 81 / 3 ≡ p / 243
box_row p = omega arith

pub box_column : (p : ℕ) → p / 9 % 9 / 3 ≡ p / 27 % 3
box_column p = omega arith

-- the first place of a box, by how far p is beyond it: a test that is computed
abbrev beyond : ℕ → ℕ
beyond p = 81 * (p / 81 % 3) + 9 * (p / 9 % 3)

abbrev box_first : ℕ → Bool
box_first p = eqb (243 * (p / 243) + 27 * (p / 27 % 3) + p % 9 + beyond p) p

box_first_lem : T (all 729 box_first)
unfolding all
box_first_lem = tt

pub box_place : (p k : ℕ) → p < 729 → place_of (group_at Box p) k ≡ p - 81 * (p / 81 % 3) - 9 * (p / 9 % 3) + 81 * (k / 3) + 9 * (k % 3)
unfolding group_at place_of
box_place p k h =
    let e = eqb→eq (243 * (p / 243) + 27 * (p / 27 % 3) + p % 9 + beyond p) p ((all_iff 729 box_first).0 box_first_lem p h) in
    omega (arith, box_cell k (p / 243) (p / 27 % 3) (omega arith) (omega arith), e)

-- the kinds and their numbers
pub number_at : (i : ℕ) → i < 4 → number_of (kind_at i) ≡ i
number_at zero h = refl
number_at (suc zero) h = refl
number_at (suc (suc zero)) h = refl
number_at (suc (suc (suc i))) h = omega arith

pub at_number : (f : Kind) → kind_at (number_of f) ≡ f
at_number Cell = refl
at_number Column = refl
at_number Row = refl
at_number Box = refl

pub number_below : (f : Kind) → number_of f < 4
number_below Cell = omega arith
number_below Column = omega arith
number_below Row = omega arith
number_below Box = omega arith

pub first_below : (s : ClauseSet) → first_pair s ≤ 1
first_below Minimal = omega arith
first_below Extended = omega arith

pub nines_below : (s : ClauseSet) → nine_kinds s ≤ 4
nines_below Minimal = omega arith
nines_below Extended = omega arith

-- the kinds of a set, one by one
nine_of : (s : ClauseSet) (d : Kind) (i : ℕ) → i < nine_kinds s → get_or (nines_of s) i d ≡ kind_at i
nine_of Minimal d zero h = refl
nine_of Minimal d (suc i) h = absurd (omega arith)
nine_of Extended d zero h = refl
nine_of Extended d (suc zero) h = refl
nine_of Extended d (suc (suc zero)) h = refl
nine_of Extended d (suc (suc (suc zero))) h = refl
nine_of Extended d (suc (suc (suc (suc i)))) h = absurd (omega arith)

pub nines_long : (s : ClauseSet) {ks : List Kind} → ks ≡ nines_of s → length ks ≡ nine_kinds s
nines_long Minimal e = ap length e
nines_long Extended e = ap length e

pub nine_at : (s : ClauseSet) {ks : List Kind} (d : Kind) (i : ℕ) → ks ≡ nines_of s → i < length ks → get_or ks i d ≡ kind_at i
nine_at s d i e h = ap (λ ks. get_or ks i d) e ∙ nine_of s d i (omega (arith, h, nines_long s e))

-- the kinds are those of the shapes
pub pair_in : (s : ClauseSet) (f : Kind) → PairKind s f → (p i j : ℕ) → InSet s (NotBoth (group_at f p) i j)
unfolding group_at
pair_in Extended f h p i j = tt
pair_in Minimal Cell h p i j = omega (arith, h)
pair_in Minimal Row h p i j = tt
pair_in Minimal Column h p i j = tt
pair_in Minimal Box h p i j = tt

pub in_pair : (s : ClauseSet) (f : Kind) (p i j : ℕ) → InSet s (NotBoth (group_at f p) i j) → PairKind s f
unfolding group_at
in_pair Extended f p i j h = omega arith
in_pair Minimal Cell p i j h = absurd h
in_pair Minimal Row p i j h = omega arith
in_pair Minimal Column p i j h = omega arith
in_pair Minimal Box p i j h = omega arith

pub in_nine : (s : ClauseSet) (f : Kind) (p : ℕ) → InSet s (OneOf (group_at f p)) → NineKind s f
unfolding group_at
in_nine Extended f p h = number_below f
in_nine Minimal Cell p h = omega arith
in_nine Minimal Row p h = absurd h
in_nine Minimal Column p h = absurd h
in_nine Minimal Box p h = absurd h

pub nine_in : (s : ClauseSet) (f : Kind) → NineKind s f → (p : ℕ) → InSet s (OneOf (group_at f p))
unfolding group_at
nine_in Extended f h p = tt
nine_in Minimal Cell h p = tt
nine_in Minimal Row h p = omega (arith, h)
nine_in Minimal Column h p = omega (arith, h)
nine_in Minimal Box h p = omega (arith, h)

-- place p stands at its index in its group, which is that of its slot
abbrev here : Kind → ℕ → Bool
here f p = (ltb (index_at f p) 9 && eqb (place_of (group_at f p) (index_at f p)) p) && same_group (group_in (slot_at f p)) (group_at f p)

all_here : (f : Kind) → T (all 729 (here f))
unfolding all group_at index_at place_of cell_of group_in slot_at
all_here Cell = tt
all_here Column = tt
all_here Row = tt
all_here Box = tt

-- the k-th place of slot x: the slot of that kind at it is x, and its index is k
abbrev there : ℕ → ℕ → ℕ → Bool
there x k q = ltb q 729 && (eqb (slot_at (kind_at (x / 81)) q) x && eqb (index_at (kind_at (x / 81)) q) k)

all_there : T (all 324 λ x. all 9 λ k. there x k (place_of (group_in x) k))
unfolding all index_at place_of cell_of group_in slot_at
all_there = tt

module _ (x : ℕ) (h : x < 324) where
  -- the k-th place of a slot's group
  pub slot_place : (k : ℕ) → k < 9
      → (place_of (group_in x) k < 729) × (slot_at (kind_at (x / 81)) (place_of (group_in x) k) ≡ x) × (index_at (kind_at (x / 81)) (place_of (group_in x) k) ≡ k)
  slot_place k b =
      let q = place_of (group_in x) k in
      let f = kind_at (x / 81) in
      let t = (all_iff 9 (λ k. there x k (place_of (group_in x) k))).0 ((all_iff 324 (λ x. all 9 λ k. there x k (place_of (group_in x) k))).0 all_there x h) k b in
      let w = (and_iff (ltb q 729) (eqb (slot_at f q) x && eqb (index_at f q) k)).0 t in
      let v = (and_iff (eqb (slot_at f q) x) (eqb (index_at f q) k)).0 w.1 in
      (ltb→lt q 729 w.0, eqb→eq (slot_at f q) x v.0, eqb→eq (index_at f q) k v.1)

  -- they are nine
  pub slot_once : (i j : ℕ) → i < 9 → j < 9 → place_of (group_in x) i ≡ place_of (group_in x) j → i ≡ j
  slot_once i j a b e = sym (slot_place i a).2 ∙ ap (index_at (kind_at (x / 81))) e ∙ (slot_place j b).2

module _ (p : ℕ) (h : p < 729) where
  pub group_is : (f : Kind) → IsGroup (group_at f p)
  unfolding group_at
  group_is Cell = omega arith
  group_is Column = (omega arith, omega arith)
  group_is Row = (omega arith, omega arith)
  group_is Box = (omega arith, omega arith)

  -- the slots of a kind
  pub slot_kind : (f : Kind) → (81 * number_of f ≤ slot_at f p) × (slot_at f p < 81 * number_of f + 81)
  unfolding slot_at
  slot_kind Cell = (omega arith, omega arith)
  slot_kind Column = (omega arith, omega arith)
  slot_kind Row = (omega arith, omega arith)
  slot_kind Box = (omega arith, omega arith)

  pub slot_below : (f : Kind) → slot_at f p < 324
  slot_below f = omega (arith, (slot_kind f).1, number_below f)

  pub slot_in : (s : ClauseSet) (f : Kind) → NineKind s f → slot_at f p < 81 * nine_kinds s
  slot_in s f b = omega (arith, (slot_kind f).1, b)

  kind_of_slot : (f : Kind) → kind_at (slot_at f p / 81) ≡ f
  kind_of_slot f = let w = slot_kind f in let e : slot_at f p / 81 ≡ number_of f = omega (arith, w.0, w.1) in ap kind_at e ∙ at_number f

  here_at : (f : Kind) → (T (ltb (index_at f p) 9) × T (eqb (place_of (group_at f p) (index_at f p)) p)) × T (same_group (group_in (slot_at f p)) (group_at f p))
  here_at f =
      let w = (and_iff (ltb (index_at f p) 9 && eqb (place_of (group_at f p) (index_at f p)) p) (same_group (group_in (slot_at f p)) (group_at f p))).0 ((all_iff 729 (here f)).0 (all_here f) p h) in
      ((and_iff (ltb (index_at f p) 9) (eqb (place_of (group_at f p) (index_at f p)) p)).0 w.0, w.1)

  -- where p stands in its group
  pub index_at_lem : (f : Kind) → (index_at f p < 9) × (place_of (group_at f p) (index_at f p) ≡ p)
  index_at_lem f = let w = (here_at f).0 in (ltb→lt (index_at f p) 9 w.0, eqb→eq (place_of (group_at f p) (index_at f p)) p w.1)

  -- its slot has that group
  pub slot_group : (f : Kind) → group_in (slot_at f p) ≡ group_at f p
  slot_group f = group_eq (group_in (slot_at f p)) (group_at f p) (here_at f).1

  -- the k-th place of a group of p, and its slot
  pub place_at_lem : (f : Kind) (k : ℕ) → k < 9 → (place_of (group_at f p) k < 729) × (slot_at f (place_of (group_at f p) k) ≡ slot_at f p) × (index_at f (place_of (group_at f p) k) ≡ k)
  place_at_lem f k b =
      subst (λ g. (place_of g k < 729) × (slot_at f (place_of g k) ≡ slot_at f p) × (index_at f (place_of g k) ≡ k)) (slot_group f)
      (subst (λ y. (place_of (group_in (slot_at f p)) k < 729) × (slot_at y (place_of (group_in (slot_at f p)) k) ≡ slot_at f p) × (index_at y (place_of (group_in (slot_at f p)) k) ≡ k)) (kind_of_slot f)
      (slot_place (slot_at f p) (slot_below f) k b))

  pub place_small : (f : Kind) (k : ℕ) → k < 9 → place_of (group_at f p) k < 729
  place_small f k b = (place_at_lem f k b).0

  pub place_once : (f : Kind) (i j : ℕ) → i < 9 → j < 9 → place_of (group_at f p) i ≡ place_of (group_at f p) j → i ≡ j
  place_once f i j a b e = sym (place_at_lem f i a).2 ∙ ap (index_at f) e ∙ (place_at_lem f j b).2

-- the group is the same at each of its places
pub group_same : (f : Kind) (p : ℕ) → p < 729 → (k : ℕ) → k < 9 → group_at f (place_of (group_at f p) k) ≡ group_at f p
group_same f p h k b =
    let w = place_at_lem p h f k b in
    sym (slot_group (place_of (group_at f p) k) w.0 f) ∙ ap group_in w.1 ∙ slot_group p h f

-- what holds of the groups of the kinds that a set has the nine of holds of the set's slots
pub by_slot : (s : ClauseSet) (P : Group → Type 0) → ((f : Kind) → NineKind s f → (p : ℕ) → p < 729 → P (group_at f p)) → (x : ℕ) → x < 81 * nine_kinds s → P (group_in x)
by_slot s P h x b =
    let f = kind_at (x / 81) in
    let c : x < 324 = omega (arith, nines_below s) in
    let w = slot_place x c 0 (omega arith) in
    let n : NineKind s f = omega (arith, number_at (x / 81) (omega arith)) in
    subst P (sym (slot_group (place_of (group_in x) 0) w.0 f) ∙ ap group_in w.1) (h f n (place_of (group_in x) 0) w.0)

-- the number of a slot's clause: F1 keeps its numbers, and the others begin at 11,745
pub clause_number : (x : ℕ) → ((x < 81) × (clause_in x ≡ x)) ⊎ ((81 ≤ x) × (clause_in x ≡ x + 11664))
unfolding clause_in
clause_number x = elim (dec_lt x 81) [
  | yes b ↦ inl (b, rw (lt-ltb x 81 b))
  | no b ↦ (let c : 81 ≤ x = omega arith in inr (c, rw (le-ltb x 81 c)))
]

pub clause_once : (x y : ℕ) → x < 324 → y < 324 → clause_in x ≡ clause_in y → x ≡ y
clause_once x y a b e = ⊎_elim
    (λ u. ⊎_elim (λ v. omega (arith, u.1, v.1, e)) (λ v. omega (arith, u.1, v.1, e)) (clause_number y))
    (λ u. ⊎_elim (λ v. omega (arith, u.1, v.1, e)) (λ v. omega (arith, u.1, v.1, e)) (clause_number y)) (clause_number x)

-- it is the number of the slot's clause in the sets: a test that is computed
abbrev number_right : ℕ → Bool
number_right x = eqb (number_of_shape (OneOf (group_in x))) (clause_in x)

numbers_right : T (all 324 number_right)
unfolding all number_of_shape group_in clause_in
numbers_right = tt

pub slot_clause : (x : ℕ) → x < 324 → shape_of (clause_in x) ≡ OneOf (group_in x)
slot_clause x h =
    let w = slot_place x h 0 (omega arith) in
    let f = kind_at (x / 81) in
    let g : IsGroup (group_in x) = subst IsGroup (sym (slot_group (place_of (group_in x) 0) w.0 f) ∙ ap group_in w.1) (group_is (place_of (group_in x) 0) w.0 f) in
    ap shape_of (sym (eqb→eq (number_of_shape (OneOf (group_in x))) (clause_in x) ((all_iff 324 number_right).0 numbers_right x h))) ∙ (shape_number Extended (OneOf (group_in x)) g tt).1
