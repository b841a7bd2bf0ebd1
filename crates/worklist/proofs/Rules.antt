-- The unit rule by groups. Each clause speaks of two places of a group or of all nine, so that a set of literals is closed under the rule exactly if
-- in each group that the clause set has pairs of, a true place strikes the others, and in each that it has the nine of, the last place left is true.
-- Assumes nothing.
use mathlib.Core.Path.{◌≡◌, refl, ap, sym, subst, ◌∙◌}
use mathlib.Core.Logic.{⊎_elim}
use mathlib.Core.List.Memᴰ
use mathlib.Core.List.{List, [], ◌∷◌, Memᴰ}
use Prim.Native.Nat.{ℕ, suc, ◌<◌}
use native.Mathlib.Decide.{dec_lt}
use native.Mathlib.Omega.{arith}
use lib.Dec.{T}
use lib.IntN.{ℤ, pos, negsuc, neg_ℤ}
use Rattle.clauses.specs.Clauses.{clauses_of}
use Rattle.clauses.specs.Shape.{place_of, IsShape, InSet, clause_of}
use Rattle.clauses.specs.declared.ClauseSet.{ClauseSet}
use Rattle.clauses.specs.declared.Group.{Group}
use Rattle.clauses.specs.declared.Shape.{Shape}
use Rattle.clauses.specs.declared.Shape.TheVariants.{OneOf, NotBoth}
use Rattle.clauses.proofs.Members.{over_iff, member_iff}
use Rattle.closure.specs.Sets.{LiteralSet}
use Rattle.closure.specs.Closure.{UnitClosed}
use Rattle.closure.specs.Marks.{IsMarks}
use Rattle.closure.proofs.Sets.{least_given}
use Rattle.groups.specs.Groups.{group_at, group_in, PairKind, NineKind}
use Rattle.groups.specs.declared.Kind.{Kind}
use Rattle.groups.proofs.Slots.{group_is, by_kind, by_slot, place_once, pair_in, in_pair, nine_in, in_nine}
use Rattle.worklist.specs.Sums.{InSlots, sum_of}
use Rattle.worklist.specs.Acting.{Clashes}
use Rattle.worklist.proofs.Sums.{sum_small}

module _ (s : ClauseSet) (S : LiteralSet) where
  -- in a group a true place strikes the others; the last place left is true
  abbrev pub Strikes : Group → Type 0
  Strikes g = (i j : ℕ) → i < 9 → j < 9 → (i ≡ j → ⊥) → T (S (pos (suc (place_of g i)))) → T (S (negsuc (place_of g j)))

  abbrev pub Lasts : Group → Type 0
  Lasts g = (k : ℕ) → k < 9 → ((j : ℕ) → j < 9 → (j ≡ k → ⊥) → T (S (negsuc (place_of g j)))) → T (S (pos (suc (place_of g k))))

  module _ (u : UnitClosed (clauses_of s) S) where
    shape_rule : (h : Shape) → IsShape h → InSet s h → (l : ℤ) → Memᴰ l (clause_of h)
        → ((m : ℤ) → Memᴰ m (clause_of h) → (m ≡ l → ⊥) → T (S (neg_ℤ m))) → T (S l)
    shape_rule h w i = u (clause_of h) ((member_iff s (clause_of h)).1 (h, w, i, refl))

    pub closed_strikes : (f : Kind) → PairKind s f → (p : ℕ) → p < 729 → Strikes (group_at f p)
    unfolding clause_of
    closed_strikes f h p b i j x y n t = elim (dec_lt i j) [
      | yes a ↦ shape_rule (NotBoth (group_at f p) i j) (group_is p b f, a, y) (pair_in s f h p i j) _ (Memᴰ.tail (Memᴰ.head refl))
          (λ m w d. ⊎_elim (λ e. struck m i e t) (λ z. absurd (d (Memᴰ.eq_of_singleton z))) (Memᴰ.cases_cons w))
      | no a ↦ shape_rule (NotBoth (group_at f p) j i) (group_is p b f, omega arith, x) (pair_in s f h p j i) _ (Memᴰ.head refl)
          (λ m w d. ⊎_elim (λ e. absurd (d e)) (λ z. struck m i (Memᴰ.eq_of_singleton z) t) (Memᴰ.cases_cons w))
    ]
      where
        struck : (m : ℤ) (x : ℕ) → m ≡ negsuc (place_of (group_at f p) x) → T (S (pos (suc (place_of (group_at f p) x)))) → T (S (neg_ℤ m))
        struck m x e t = subst (λ z. T (S (neg_ℤ z))) (sym e) t

    pub closed_lasts : (f : Kind) → NineKind s f → (p : ℕ) → p < 729 → Lasts (group_at f p)
    unfolding clause_of
    closed_lasts f h p b k x a =
        let g = group_at f p in
        let o : (l : ℤ) → _ = over_iff 0 9 (λ k. pos (suc (place_of g k)) ∷ []) in
        shape_rule (OneOf g) (group_is p b f) (nine_in s f h p) _ ((o _).1 (k, omega arith, x, Memᴰ.head refl))
        (λ m w d.
        let v = (o m).0 w in
        let e = Memᴰ.eq_of_singleton v.3 in
        rw e (a v.0 v.2 (λ q. d (e ∙ ap (λ z. pos (suc (place_of g z))) q))))

  module _ (pairs : (f : Kind) → PairKind s f → (p : ℕ) → p < 729 → Strikes (group_at f p)) (nines : (f : Kind) → NineKind s f → (p : ℕ) → p < 729 → Lasts (group_at f p)) where
    -- the unit rule at the clause of a shape
    abbrev Closes : Shape → Type 0
    Closes h = InSet s h → (l : ℤ) → Memᴰ l (clause_of h) → ((m : ℤ) → Memᴰ m (clause_of h) → (m ≡ l → ⊥) → T (S (neg_ℤ m))) → T (S l)

    pair_closes : (i j : ℕ) → i < j → j < 9 → (f : Kind) (p : ℕ) → p < 729 → Closes (NotBoth (group_at f p) i j)
    unfolding clause_of
    pair_closes i j a b f p h w l m others =
        let g = group_at f p in
        let differ : negsuc (place_of g i) ≡ negsuc (place_of g j) → ⊥ = λ e. (let q = place_once p h f i j (omega arith) b (cc) in omega arith) in
        ⊎_elim
        (λ e. subst (λ x. T (S x)) (sym e)
        (pairs f (in_pair s f p i j w) p h j i b (omega arith) (λ q. omega arith) (others (negsuc (place_of g j)) (Memᴰ.tail (Memᴰ.head refl)) (λ q. differ (sym (q ∙ e))))))
        (λ z. let e = Memᴰ.eq_of_singleton z in
        subst (λ x. T (S x)) (sym e) (pairs f (in_pair s f p i j w) p h i j (omega arith) b (λ q. omega arith) (others (negsuc (place_of g i)) (Memᴰ.head refl) (λ q. differ (q ∙ e)))))
        (Memᴰ.cases_cons m)

    nine_closes : (f : Kind) (p : ℕ) → p < 729 → Closes (OneOf (group_at f p))
    unfolding clause_of
    nine_closes f p h w l m others =
        let g = group_at f p in
        let o : (l : ℤ) → _ = over_iff 0 9 (λ k. pos (suc (place_of g k)) ∷ []) in
        let v = (o l).0 m in
        let e = Memᴰ.eq_of_singleton v.3 in
        subst (λ x. T (S x)) (sym e) (nines f (in_nine s f p w) p h v.0 v.2 (λ j b n.
        others (pos (suc (place_of g j))) ((o _).1 (j, omega arith, b, Memᴰ.head refl)) (λ q. n (place_once p h f j v.0 b v.2 (same (place_of g j) (place_of g v.0) (q ∙ e))))))
      where
        same : (a b : ℕ) → pos (suc a) ≡ pos (suc b) → a ≡ b
        same a b q = cc

    shape_closes : (h : Shape) → IsShape h → Closes h
    shape_closes (OneOf g) i = by_kind (λ g. Closes (OneOf g)) nine_closes g i
    shape_closes (NotBoth g i j) w = by_kind (λ g. Closes (NotBoth g i j)) (pair_closes i j w.1 w.2) g w.0

    pub groups_closed : UnitClosed (clauses_of s) S
    groups_closed c m l at others =
        let w = (member_iff s c).0 m in
        shape_closes w.0 w.1 w.2 l (subst (Memᴰ l) (sym w.3) at) (λ x i n. others x (subst (Memᴰ x) w.3 i) n)

-- in a closed set the last place left of a slot's group is true
pub slot_lasts : (s : ClauseSet) (S : LiteralSet) → UnitClosed (clauses_of s) S → (x : ℕ) → InSlots s x → Lasts s S (group_in x)
slot_lasts s S u x h = by_slot s (Lasts s S) (λ f n p b. closed_lasts s S u f n p b) x h

-- so a clause with no place left is a contradiction
pub none_left : (s : ClauseSet) (m : List ℕ) (x : ℕ) → IsMarks m → InSlots s x → sum_of m (group_in x) ≡ 0 → Clashes s m
none_left s m x i h z = ⊎_elim
    (λ j. let p = place_of (group_in x) 0 in
    (p, (λ S u g. slot_lasts s S u x h 0 (omega arith) (λ i b n. g _ (j.1 i b))), least_given (UnitClosed (clauses_of s)) _ (j.1 0 (omega arith))))
    (λ j. absurd (omega (arith, z, j.2)))
    (sum_small m (group_in x) i (omega (arith, z)))
