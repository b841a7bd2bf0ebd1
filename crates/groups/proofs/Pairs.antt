-- The numbers of pairs. The code adds an entry of a table to the first number of a run, which gives the number of the pair's shape, since the
-- entries are right: a test that is computed. By another such test a clause's number is that of its shape, so that the pairs of a place are
-- exactly the two-literal clauses that it is in.
-- Assumes nothing.
use mathlib.Core.Path.{◌≡◌, refl, ap, sym, subst, ◌∙◌}
use mathlib.Core.Logic.{inl, inr, ⊎_elim}
use mathlib.Core.Bool.{Bool, true, false, cond, ◌&&◌}
use mathlib.Core.List.{List, [], ◌∷◌}
use Prim.Native.Nat.{ℕ, zero, suc, ◌+◌, ◌*◌, ◌-◌, ◌/◌, ◌%◌, ◌≤◌, ◌<◌}
use native.Mathlib.Decide.{dec_lt, ℕ_discrete}
use native.Mathlib.Omega.{arith}
use borrow.Author.Tests.{lt-ltb, le-ltb, eq-eqb, ne_eqb}
use lib.Dec.{T, eqb, ltb, eqb→eq, ltb→lt}
use lib.IntN.{ℤ, pos, negsuc}
use lib.ListN.{length, get_or}
use Rattle.grid.specs.Counting.{all}
use Rattle.grid.proofs.Table.{and_iff}
use Rattle.grid.proofs.Counting.{all_iff}
use Rattle.clauses.specs.Clauses.{clauses_of}
use Rattle.clauses.specs.Shape.{place_of, IsShape, InSet, clause_of, shape_of, pair_index, row_index, rows_index, number_of as number_of_shape}
use Rattle.clauses.specs.declared.ClauseSet.{ClauseSet}
use Rattle.clauses.specs.declared.Group.{Group}
use Rattle.clauses.specs.declared.Shape.{Shape}
use Rattle.clauses.specs.declared.Shape.TheVariants.{OneOf, NotBoth}
use Rattle.clauses.proofs.Numbers.{size_of, sizes, set_long, clause_at, shape_is}
use Rattle.clauses.proofs.ShapeNumber.{shape_number}
use Rattle.clauses.proofs.Members.{shape_in}
use Rattle.groups.specs.Groups.{group_at, index_at, kind_at, PairKind, lower, higher, box_index, pair_table, row_at, first_number, pair_number, IsRun, Pair}
use Rattle.groups.specs.declared.Kind.{Kind}
use Rattle.groups.specs.declared.Kind.TheVariants.{Cell, Column, Row, Box}
use Rattle.groups.proofs.Slots.{pair_in, in_pair, group_is, by_kind, index_at_lem, place_at_lem, group_same}

-- the entries of the table, and how far they go: tests that are computed
abbrev pair_entry : ℕ → ℕ → Bool
pair_entry i k = eqb (get_or pair_table (9 * i + k) 0) (pair_index (lower i k) (higher i k))

abbrev box_entry : ℕ → ℕ → Bool
box_entry i k = eqb (get_or pair_table (81 + 9 * i + k) 0) (box_index (lower i k) (higher i k))

entries : T ((all 9 λ i. all 9 λ k. pair_entry i k) && (all 9 λ i. all 9 λ k. box_entry i k))
unfolding all pair_table
entries = tt

module _ (i k : ℕ) (h : i < 9) (b : k < 9) where
  pub pair_entry_lem : get_or pair_table (9 * i + k) 0 ≡ pair_index (lower i k) (higher i k)
  pair_entry_lem =
      let t = ((and_iff (all 9 λ i. all 9 λ k. pair_entry i k) (all 9 λ i. all 9 λ k. box_entry i k)).0 entries).0 in
      eqb→eq _ _ ((all_iff 9 (λ k. pair_entry i k)).0 ((all_iff 9 (λ i. all 9 λ k. pair_entry i k)).0 t i h) k b)

  pub box_entry_lem : get_or pair_table (81 + 9 * i + k) 0 ≡ box_index (lower i k) (higher i k)
  box_entry_lem =
      let t = ((and_iff (all 9 λ i. all 9 λ k. pair_entry i k) (all 9 λ i. all 9 λ k. box_entry i k)).0 entries).1 in
      eqb→eq _ _ ((all_iff 9 (λ k. box_entry i k)).0 ((all_iff 9 (λ i. all 9 λ k. box_entry i k)).0 t i h) k b)

all_small : T (all 162 λ n. ltb (get_or pair_table n 0) 37)
unfolding all pair_table
all_small = tt

pub entry_small : (n : ℕ) → n < 162 → get_or pair_table n 0 < 37
entry_small n h = ltb→lt (get_or pair_table n 0) 37 ((all_iff 162 (λ n. ltb (get_or pair_table n 0) 37)).0 all_small n h)

-- the pairs of a run are counted from one number
pub first_same : (i p from to : ℕ) → IsRun i from to → (k : ℕ) → from ≤ k → k < to → first_number (kind_at i) p (from / 3) ≡ first_number (kind_at i) p (k / 3)
unfolding first_number
first_same i p from to r k a b = ⊎_elim (λ h. whole i h) (λ h. ap (first_number (kind_at i) p) (third h)) r.3
  where
    third : to ≤ 3 * (from / 3) + 3 → from / 3 ≡ k / 3
    third h = omega arith

    whole : (i : ℕ) → i < 3 → first_number (kind_at i) p (from / 3) ≡ first_number (kind_at i) p (k / 3)
    whole zero h = refl
    whole (suc zero) h = refl
    whole (suc (suc zero)) h = refl
    whole (suc (suc (suc i))) h = absurd (omega arith)

-- two places are in one third or not, whichever comes first
same_third : (i k : ℕ) → eqb (lower i k / 3) (higher i k / 3) ≡ eqb (k / 3) (i / 3)
same_third i k = elim (dec_lt i k) [
  | yes h ↦ rw (lt-ltb i k h) (turned (i / 3) (k / 3))
  | no h ↦ rw (le-ltb i k (omega arith)) refl
]
  where
    turned : (x y : ℕ) → eqb x y ≡ eqb y x
    turned x y = elim (ℕ_discrete x y) [
      | yes e ↦ eq-eqb x y e ∙ sym (eq-eqb y x (sym e))
      | no e ↦ ne_eqb x y e ∙ sym (ne_eqb y x (λ f. e (sym f)))
    ]

module _ (p : ℕ) (h : p < 729) where
  -- the rows of the table
  pub row_most : (f : Kind) → row_at f p ≤ 153
  unfolding row_at
  row_most Cell = omega (arith, (index_at_lem p h Cell).0)
  row_most Column = omega (arith, (index_at_lem p h Column).0)
  row_most Row = omega (arith, (index_at_lem p h Row).0)
  row_most Box = omega (arith, (index_at_lem p h Box).0)

  -- the numbers fit
  abbrev box_at : ℕ
  box_at = 9 * (p % 9) + (3 * (p / 243) + p / 27 % 3)

  first_small : (f : Kind) (t : ℕ) → first_number f p t < 11745
  unfolding first_number
  first_small Cell t = omega arith
  first_small Column t = omega arith
  first_small Row t = omega arith
  first_small Box t = go (eqb t (p / 81 % 3))
    where
      go : (b : Bool) → cond b (5913 + 9 * box_at) (6642 + 27 * box_at) < 11745
      go true = omega arith
      go false = omega arith

  pub number_small : (f : Kind) (t k : ℕ) → k < 9 → first_number f p t + get_or pair_table (row_at f p + k) 0 < 65536
  number_small f t k b = omega (arith, first_small f t, entry_small (row_at f p + k) (omega (arith, row_most f)))

  box_third : index_at Box p / 3 ≡ p / 81 % 3
  unfolding index_at
  box_third = omega arith

  -- in a box the pairs of two families are counted from two numbers
  box_number : (x y t : ℕ) → eqb (x / 3) (y / 3) ≡ eqb t (p / 81 % 3)
      → first_number Box p t + box_index x y ≡ cond (eqb (x / 3) (y / 3)) (5913 + 9 * box_at + row_index x y) (6642 + 27 * box_at + rows_index x y)
  unfolding first_number
  box_number x y t e = rw e (go (eqb t (p / 81 % 3)) (row_index x y) (rows_index x y))
    where
      go : (b : Bool) (r w : ℕ) → cond b (5913 + 9 * box_at) (6642 + 27 * box_at) + cond b r w ≡ cond b (5913 + 9 * box_at + r) (6642 + 27 * box_at + w)
      go true r w = refl
      go false r w = refl

  -- the number is that of the shape
  abbrev shape : Kind → ℕ → Shape
  shape f k = NotBoth (group_at f p) (lower (index_at f p) k) (higher (index_at f p) k)

  pub pair_number_lem : (f : Kind) (k : ℕ) → k < 9 → pair_number f p k ≡ number_of_shape (shape f k)
  unfolding row_at first_number group_at number_of_shape
  pair_number_lem Cell k b = ap (λ x. 8829 + 36 * (p / 9) + x) (pair_entry_lem (index_at Cell p) k (index_at_lem p h Cell).0 b)
  pair_number_lem Column k b =
      let e = pair_entry_lem (index_at Column p) k (index_at_lem p h Column).0 b in
      let u : 9 ≤ 9 + p / 9 % 9 = omega arith in
      let v : 9 + p / 9 % 9 < 18 = omega arith in
      let d : 81 + 36 * (p % 81) ≡ 81 + 36 * (9 * (9 + p / 9 % 9 - 9) + p % 9) = omega arith in
      rw (le-ltb (9 + p / 9 % 9) 9 u, lt-ltb (9 + p / 9 % 9) 18 v) (ap (λ x. 81 + 36 * (p % 81) + x) e ∙ ap (λ x. x + pair_index (lower (index_at Column p) k) (higher (index_at Column p) k)) d)
  pair_number_lem Row k b =
      let e = pair_entry_lem (index_at Row p) k (index_at_lem p h Row).0 b in
      let u : p / 81 < 9 = omega arith in
      rw (lt-ltb (p / 81) 9 u) (ap (λ x. 2997 + 36 * (9 * (p / 81) + p % 9) + x) e)
  pair_number_lem Box k b =
      let i = index_at Box p in
      let e = box_entry_lem i k (index_at_lem p h Box).0 b in
      let q = 3 * (p / 243) + p / 27 % 3 in
      let u : 9 ≤ 18 + q = omega arith in
      let v : 18 ≤ 18 + q = omega arith in
      let d : 18 + q - 18 ≡ q = omega arith in
      rw (le-ltb (18 + q) 9 u, le-ltb (18 + q) 18 v, d) (ap (λ x. first_number Box p (k / 3) + x) e ∙ box_number (lower i k) (higher i k) (k / 3) (same_third i k ∙ ap (eqb (k / 3)) box_third))

-- a place's pairs are clauses of the set that it is in,
pub pair_clause : (s : ClauseSet) (f : Kind) → PairKind s f → (p : ℕ) → p < 729 → (k : ℕ) → k < 9 → (k ≡ index_at f p → ⊥) → Pair s (pair_number f p k) p (place_of (group_at f p) k)
unfolding clause_of
pair_clause s f u p h k b d = subst (λ c. Pair s c p (place_of (group_at f p) k)) (sym (pair_number_lem p h f k b)) (elim (dec_lt i k) [
  | yes a ↦ (let v = said i k a b in rw (lt-ltb i k a) (v.0, inl (v.1 ∙ ap (λ x. negsuc x ∷ negsuc (place_of g k) ∷ []) (index_at_lem p h f).1)))
  | no a ↦ (let v = said k i (omega arith) (index_at_lem p h f).0 in rw (le-ltb i k (omega arith)) (v.0, inr (v.1 ∙ ap (λ x. negsuc (place_of g k) ∷ negsuc x ∷ []) (index_at_lem p h f).1)))
])
  where
    i : ℕ
    i = index_at f p

    g : Group
    g = group_at f p

    said : (x y : ℕ) → x < y → y < 9
        → (number_of_shape (NotBoth g x y) < length (clauses_of s)) × (get_or (clauses_of s) (number_of_shape (NotBoth g x y)) [] ≡ negsuc (place_of g x) ∷ negsuc (place_of g y) ∷ [])
    said x y a c =
        let w = shape_number s (NotBoth g x y) (group_is p h f, a, c) (pair_in s f u p x y) in
        (omega (arith, w.0, set_long s), clause_at s (number_of_shape (NotBoth g x y)) w.0 ∙ ap clause_of w.1)

-- a clause's number is that of its shape: a test that is computed, over all 11,988 numbers
abbrev again : ℕ → Bool
again n = eqb (number_of_shape (shape_of n)) n

all_again : T (all 111 λ a. all 108 λ b. again (108 * a + b))
unfolding all number_of_shape shape_of
all_again = tt

number_again : (n : ℕ) → n < 11988 → number_of_shape (shape_of n) ≡ n
number_again n h =
    let e : 108 * (n / 108) + n % 108 ≡ n = omega arith in
    let t = (all_iff 108 (λ b. again (108 * (n / 108) + b))).0 ((all_iff 111 (λ a. all 108 λ b. again (108 * a + b))).0 all_again (n / 108) (omega arith)) (n % 108) (omega arith) in
    eqb→eq (number_of_shape (shape_of n)) n (subst (λ x. T (again x)) e t)

-- and they are all that it is in
pub record Paired (s : ClauseSet) (c p q : ℕ) : Type 0 where
  pub kind : Kind
  pub has : PairKind s kind
  pub here : p < 729
  pub at : ℕ
  pub below : at < 9
  pub other : at ≡ index_at kind p → ⊥
  pub place : q ≡ place_of (group_at kind p) at
  pub number : c ≡ pair_number kind p at

module _ (s : ClauseSet) (c : ℕ) where
  -- two places of a group, in either order
  paired : (f : Kind) (x : ℕ) → x < 729 → PairKind s f → (i j : ℕ) → i < 9 → j < 9 → (i ≡ j → ⊥) → c ≡ number_of_shape (NotBoth (group_at f x) (lower i j) (higher i j))
      → Paired s c (place_of (group_at f x) i) (place_of (group_at f x) j)
  paired f x h u i j a b d e =
      let w = place_at_lem x h f i a in
      let g = group_same f x h i a in
      record {
        kind = f;
        has = u;
        here = w.0;
        at = j;
        below = b;
        other = λ k. d (sym w.2 ∙ sym k);
        place = ap (λ g. place_of g j) (sym g);
        number = e ∙ ap (λ g. number_of_shape (NotBoth g (lower i j) (higher i j))) (sym g)
            ∙ ap (λ y. number_of_shape (NotBoth (group_at f (place_of (group_at f x) i)) (lower y j) (higher y j))) (sym w.2) ∙ sym (pair_number_lem (place_of (group_at f x) i) w.0 f j b);
      }

  -- the clause of a shape of two places
  abbrev Says : Shape → Type 0
  Says h = (a b : ℕ) → InSet s h → c ≡ number_of_shape h → clause_of h ≡ negsuc a ∷ negsuc b ∷ [] → Paired s c a b × Paired s c b a

  pair_says : (i j : ℕ) → i < j → j < 9 → (f : Kind) (x : ℕ) → x < 729 → Says (NotBoth (group_at f x) i j)
  unfolding clause_of
  pair_says i j h l f x b p q w e t =
      let g = group_at f x in
      let u = in_pair s f x i j w in
      let y : place_of g i ≡ p = cc in
      let z : place_of g j ≡ q = cc in
      let m : c ≡ number_of_shape (NotBoth g (lower i j) (higher i j)) = rw (lt-ltb i j h) e in
      let n : c ≡ number_of_shape (NotBoth g (lower j i) (higher j i)) = rw (le-ltb j i (omega arith)) e in
      rw (← y, ← z) (paired f x b u i j (omega arith) l (λ d. omega arith) m, paired f x b u j i l (omega arith) (λ d. omega arith) n)

  shape_says : (h : Shape) → IsShape h → Says h
  unfolding clause_of
  shape_says (OneOf g) i = λ a b w e t. absurd (no_list t)
    where
      no_list : {x a : ℕ} {ls ms : List ℤ} → pos (suc x) ∷ ls ≡ negsuc a ∷ ms → ⊥
      no_list e = let z : ◌≡◌ {A = ℕ} 0 1 = cc in omega arith
  shape_says (NotBoth g i j) w = by_kind (λ g. Says (NotBoth g i j)) (pair_says i j w.1 w.2) g w.0

  pub clause_pair : (p q : ℕ) → Pair s c p q → Paired s c p q
  clause_pair p q w =
      let b : c < size_of s = omega (arith, w.0, set_long s) in
      let n : c < 11988 = omega (arith, sizes s) in
      let says = shape_says (shape_of c) (shape_is c n) in
      let i = shape_in s c b in
      let e = sym (number_again c n) in
      let k = sym (clause_at s c b) in
      ⊎_elim (λ t. (says p q i e (k ∙ t)).0) (λ t. (says q p i e (k ∙ t)).1) w.1
