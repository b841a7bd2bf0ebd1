-- The unit closure that is computed is the unit closure. Each clause of a sweep adds only what follows, or meets a contradiction; where a
-- sweep decides nothing, its clauses have all given what they give, so that the state is closed; and at most 729 sweeps decide something.
-- Assumes nothing.
use mathlib.Core.Path.{◌≡◌, refl, sym, ap}
use mathlib.Core.Logic.{◌⊎◌, inl, inr, ⊎_elim, ◌↔◌}
use mathlib.Core.Bool.{Bool, true, false}
use mathlib.Core.List.Memᴰ
use mathlib.Core.List.{List, [], ◌∷◌, Memᴰ}
use Prim.Native.Nat.{ℕ, zero, suc, ◌+◌, ◌≤◌, ◌<◌}
use native.Mathlib.Omega.{arith}
use borrow.Author.Tests.{eq-eqb, ne_eqb}
use native.Mathlib.Decide.{ℕ_discrete}
use lib.Dec.{T, eqb}
use lib.IntN.{ℤ, pos, negsuc, neg_ℤ, ℤ_discrete}
use Rattle.clauses.specs.Literal.{Literal}
use Rattle.clauses.specs.Clauses.{Clause}
use Rattle.clauses.proofs.Signed.{negation_literal}
use Rattle.closure.specs.Sets.{LiteralSet, Holds, Within, Least, IsLeast}
use Rattle.closure.specs.Closure.{Contradiction, UnitClosed}
use Rattle.closure.specs.Marks.{has, put, mark, decided_in, decided, blank, IsMarks}
use Rattle.closure.specs.Propagation.{Answer, clash, closed, bind, remaining, unit, sweep, again, sweeps, unit_closure, joined, join, Closes}
use Rattle.closure.proofs.Sets.{least_given, least_mono, least_iff}
use Rattle.closure.proofs.Closure.{contradiction_mono, contradiction_in, both_signs}
use Rattle.closure.proofs.Marks.{has_single, has_consistent, has_mark, has_blank, decided_rises, decided_same, decided_bounded}
use Rattle.closure.proofs.Marks.{is_marks_blank, is_marks_mark, marks_ext}
use Rattle.closure.specs.Laws.{NoneTwice}
use Rattle.closure.proofs.Clauses.{WellFormed, once_head, once_tail}

-- Cases that are computed, −v written `negsuc (v - 1)`: from +1 follow +2 and +3, although the clauses stand the other way round; a clause
-- whose literals are all false is a contradiction,
closures : (unit_closure ((negsuc 1 ∷ pos 3 ∷ []) ∷ (negsuc 0 ∷ pos 2 ∷ []) ∷ []) (1 ∷ []) ≡ closed (1 ∷ 1 ∷ 1 ∷ []))
    × (unit_closure ((pos 1 ∷ pos 2 ∷ []) ∷ []) (2 ∷ 2 ∷ []) ≡ clash)
unfolding unit_closure sweeps sweep remaining has mark put decided_in
closures = (refl, refl)

-- and so are both signs of a variable.
both_given : join [] (pos 1 ∷ negsuc 0 ∷ []) ≡ clash
unfolding join has mark put
both_given = refl

-- every other literal of the clause has its negation in the set
abbrev Struck : LiteralSet → Clause → ℤ → Type 0
Struck S c l = (k : ℤ) → Memᴰ k c → (k ≡ l → ⊥) → T (S (neg_ℤ k))

-- the unit rule of one clause
abbrev UnitAt : LiteralSet → Clause → Type 0
UnitAt S c = (l : ℤ) → Memᴰ l c → Struck S c l → T (S l)

-- what is known of a clause by the literals that remain of it: none, the one that the unit rule gives, or too many for the rule
abbrev Left : List ℕ → Clause → List ℤ → Type 0
Left m c [] = (l : ℤ) → Memᴰ l c → T (has m (neg_ℤ l))
Left m c (l ∷ []) = Memᴰ l c × Struck (has m) c l × (T (has m (neg_ℤ l)) → ⊥)
Left m c (l ∷ k ∷ ls) = (x : ℤ) → Struck (has m) c x → ⊥

module _ (m : List ℕ) where
  -- a literal that is struck changes nothing
  left_struck : (l : ℤ) (c : Clause) → T (has m (neg_ℤ l)) → (ls : List ℤ) → Left m c ls → Left m (l ∷ c) ls
  left_struck l c t [] f = λ k i. ⊎_elim (λ e. rw e t) (f k) (Memᴰ.cases_cons i)
  left_struck l c t (x ∷ []) f = (Memᴰ.tail f.0, (λ k i n. ⊎_elim (λ e. rw e t) (λ j. f.1 k j n) (Memᴰ.cases_cons i)), f.2)
  left_struck l c t (x ∷ y ∷ ls) f = λ k s. f k (λ z i. s z (Memᴰ.tail i))

  -- one that is not is one more that remains
  left_more : (l : ℤ) (c : Clause) → NoneTwice (l ∷ c) → (T (has m (neg_ℤ l)) → ⊥) → (ls : List ℤ) → Left m c ls → Left m (l ∷ c) (l ∷ ls)
  left_more l c d u [] f = (Memᴰ.head refl, (λ k i n. ⊎_elim (λ e. absurd (n e)) (f k) (Memᴰ.cases_cons i)), u)
  left_more l c d u (x ∷ []) f = λ k s. elim (ℤ_discrete l k) [
    | yes e ↦ f.2 (s x (Memᴰ.tail f.0) (λ q. once_head l c d (rw (e, ← q) f.0)))
    | no n ↦ u (s l (Memᴰ.head refl) n)
  ]
  left_more l c d u (x ∷ y ∷ ls) f = λ k s. f k (λ z i. s z (Memᴰ.tail i))

  left_ok : (c : Clause) → NoneTwice c → Left m c (remaining m c)
  unfolding remaining
  left_ok [] d = λ l i. absurd (Memᴰ.not-nil i)
  left_ok (l ∷ c) d = go (has m (neg_ℤ l)) refl (left_ok c (once_tail l c d))
    where
      go : (b : Bool) → has m (neg_ℤ l) ≡ b → Left m c (remaining m c) → Left m (l ∷ c) (remaining m (l ∷ c))
      go true e r = rw (e, remaining) (left_struck l c (rw e tt) (remaining m c) r)
      go false e r = rw (e, remaining) (left_more l c d (λ t. rw e at t) (remaining m c) r)

-- a state t reached from m: it has the literals of m, and no others but of the unit closure of m
record Reached (cs : List Clause) (m t : List ℕ) : Type 0 where
  holds : Holds (λ l. T (has m l)) (has t)
  within : Within (has t) (Least (UnitClosed cs) (λ l. T (has m l)))
  marks : IsMarks m → IsMarks t

-- the unit closure of m is a contradiction, or a state is reached of which Q is known
abbrev Reaches : List Clause → List ℕ → (List ℕ → Type 0) → Answer → Type 0
Reaches cs m Q clash = Contradiction (Least (UnitClosed cs) (λ l. T (has m l)))
Reaches cs m Q (closed t) = Reached cs m t × Q t

-- the state is unit closed
abbrev IsClosed : List Clause → List ℕ → Type 0
IsClosed cs m = UnitClosed cs (has m)

-- the clause has given what it gives
abbrev Gave : List ℕ → Clause → List ℕ → Type 0
Gave t c u = Holds (λ l. T (has t l)) (has u) × UnitAt (has u) c

-- so have some clauses, where no more is decided
abbrev Swept : List ℕ → List Clause → List ℕ → Type 0
Swept t ds u = Holds (λ l. T (has t l)) (has u) × (decided u ≤ decided t → (c : Clause) → Memᴰ c ds → UnitAt (has u) c)

-- the answer's state, if any, is one of marks
abbrev pub InMarks : Answer → Type 0
InMarks clash = Unit {0}
InMarks (closed m) = IsMarks m

module _ (cs : List Clause) (wf : WellFormed cs) (m : List ℕ) where
  unit_ok : (t : List ℕ) → Reached cs m t → (c : Clause) → Memᴰ c cs → (ls : List ℤ) → Left t c ls → Reaches cs m (Gave t c) (unit t ls)
  unit_ok t g c i [] f =
      let w = (wf c i).some in
      both_signs (Least (UnitClosed cs) (λ l. T (has m l))) w.0 ((wf c i).literals w.0 w.1)
      (λ S u h. u c i w.0 w.1 (λ k j n. g.within (neg_ℤ k) (f k j) S u h)) (g.within (neg_ℤ w.0) (f w.0 w.1))
  unit_ok t g c i (l ∷ []) f =
      let v = (wf c i).literals l f.0 in
      let e = has_mark t l v f.2 in
      let one : Least (UnitClosed cs) (λ l. T (has m l)) l = λ S u h. u c i l f.0 (λ x j n. g.within (neg_ℤ x) (f.1 x j n) S u h) in
      let next : Reached cs m (mark t l) = record {
        holds = λ k p. (e k).1 (inl (g.holds k p));
        within = λ k p. ⊎_elim (g.within k) (λ q. rw q one) ((e k).0 p);
        marks = λ j. is_marks_mark t l (g.marks j) v;
      } in
      let other : (k : ℤ) → (l ≡ k → ⊥) → Struck (has (mark t l)) c k → ⊥ = λ k n s. has_single (mark t l) l ((e l).1 (inr refl)) (s l f.0 n) in
      (next, ((λ k p. (e k).1 (inl p)), λ k j s. elim (ℤ_discrete l k) [ yes q ↦ (e k).1 (inr (sym q)) | no n ↦ absurd (other k n s) ]))
  unit_ok t g c i (l ∷ k ∷ ls) f = (g, ((λ x p. p), λ x j s. absurd (f x s)))

  sweep_ok : (ds : List Clause) → ((c : Clause) → Memᴰ c ds → Memᴰ c cs) → (t : List ℕ) → Reached cs m t → Reaches cs m (Swept t ds) (sweep t ds)
  unfolding sweep
  sweep_ok [] sub t g = (g, ((λ l p. p), λ e c i. absurd (Memᴰ.not-nil i)))
  sweep_ok (c ∷ ds) sub t g =
      let i = sub c (Memᴰ.head refl) in
      go (unit t (remaining t c)) (unit_ok t g c i (remaining t c) (left_ok t c (wf c i).once)) (sweep_ok ds (λ d j. sub d (Memᴰ.tail j)))
    where
      literal : (l : ℤ) → Memᴰ l c → Literal (neg_ℤ l)
      literal l i = (negation_literal l ((wf c (sub c (Memᴰ.head refl))).literals l i)).0

      -- where the rest of the sweep decides nothing, the first clause has still given what it gives
      both : (u : List ℕ) → Gave t c u → (a : Answer) → Reaches cs m (Swept u ds) a → Reaches cs m (Swept t (c ∷ ds)) a
      both u k clash r = r
      both u k (closed x) r =
          let keeps = r.1.0 in
          let same : decided x ≤ decided t → decided x ≤ decided u = λ e. omega (arith, decided_rises t u k.0) in
          let first : decided x ≤ decided u → UnitAt (has x) c = λ e l i s.
          keeps l (k.1 l i (λ y b n. decided_same u x keeps e (neg_ℤ y) (literal y b) (s y b n))) in
          let all : Swept t (c ∷ ds) x = (
            (λ l p. keeps l (k.0 l p)),
            λ e d j.
                ⊎_elim (λ o. rw o (first (same e))) (r.1.1 (same e) d) (Memᴰ.cases_cons j),
          ) in
          (r.0, all)

      go : (a : Answer) → Reaches cs m (Gave t c) a → ((u : List ℕ) → Reached cs m u → Reaches cs m (Swept u ds) (sweep u ds))
          → Reaches cs m (Swept t (c ∷ ds)) (bind a (λ u. sweep u ds))
      go clash k r = k
      go (closed u) k r = both u k.1 (sweep u ds) (r u k.0)

  sweeps_ok : (n : ℕ) (t : List ℕ) → Reached cs m t → 729 < decided t + n → Reaches cs m (IsClosed cs) (sweeps n cs t)
  unfolding sweeps
  sweeps_ok zero t g h = absurd (omega (arith, decided_bounded t))
  sweeps_ok (suc n) t g h = go (sweep t cs) (sweep_ok cs (λ c i. i) t g) (sweeps_ok n)
    where
      go : (a : Answer) → Reaches cs m (Swept t cs) a → ((u : List ℕ) → Reached cs m u → 729 < decided u + n → Reaches cs m (IsClosed cs) (sweeps n cs u))
          → Reaches cs m (IsClosed cs) (bind a (λ u. again (eqb (decided u) (decided t)) u (λ x. sweeps n cs x)))
      go clash k r = k
      go (closed u) k r = elim (ℕ_discrete (decided u) (decided t)) [
        | yes e ↦ rw (eq-eqb (decided u) (decided t) e) (k.0, k.1.1 (omega arith))
        | no d ↦ rw (ne_eqb (decided u) (decided t) d) (r u k.0 (omega (arith, decided_rises t u k.1.0)))
      ]

  closing : Reaches cs m (IsClosed cs) (unit_closure cs m)
  unfolding unit_closure
  closing = sweeps_ok _ m (record { holds = λ l p. p; within = λ l p. least_given (UnitClosed cs) l p; marks = λ i. i }) (omega arith)

  -- the unit closure of a state,
  pub unit_closure_ok : Closes (UnitClosed cs) (λ l. T (has m l)) (unit_closure cs m)
  unit_closure_ok = go (unit_closure cs m) closing
    where
      go : (a : Answer) → Reaches cs m (IsClosed cs) a → Closes (UnitClosed cs) (λ l. T (has m l)) a
      go clash k = k
      go (closed t) k = record { holds = k.0.holds; closed = k.1; within = k.0.within }

  -- which is one of marks where that is
  pub unit_closure_marks : IsMarks m → InMarks (unit_closure cs m)
  unit_closure_marks i = go (unit_closure cs m) closing
    where
      go : (a : Answer) → Reaches cs m (IsClosed cs) a → InMarks a
      go clash k = tt
      go (closed t) k = k.0.marks i

-- a contradiction of G, or a state with just the literals of G
abbrev pub Joins : (ℤ → Type 0) → Answer → Type 0
Joins G clash = Contradiction G
Joins G (closed m) = IsMarks m × ((l : ℤ) → T (has m l) ↔ G l)

join_from : (G : ℤ → Type 0) (ls : List ℤ) → ((l : ℤ) → Memᴰ l ls → Literal l) → (m : List ℕ) → IsMarks m
    → ((l : ℤ) → G l ↔ (T (has m l) ⊎ Memᴰ l ls)) → Joins G (join m ls)
unfolding join
join_from G [] lits m i e = (i, λ l. ((λ p. (e l).1 (inl p)), λ g. ⊎_elim (λ p. p) (λ j. absurd (Memᴰ.not-nil j)) ((e l).0 g)))
join_from G (l ∷ ls) lits m i e =
    go (has m (neg_ℤ l)) refl (λ new. join_from G ls (λ k j. lits k (Memᴰ.tail j)) (mark m l) (is_marks_mark m l i v) (more new))
  where
    v : Literal l
    v = lits l (Memᴰ.head refl)

    more : (T (has m (neg_ℤ l)) → ⊥) → (k : ℤ) → G k ↔ (T (has (mark m l) k) ⊎ Memᴰ k ls)
    more new k = let f = has_mark m l v new k in (
      (λ g. ⊎_elim (λ p. inl (f.1 (inl p))) (λ j. ⊎_elim (λ q. inl (f.1 (inr q))) inr (Memᴰ.cases_cons j)) ((e k).0 g)),
      λ p. (e k).1 (⊎_elim (λ t. ⊎_elim inl (λ q. inr (Memᴰ.head q)) (f.0 t)) (λ j. inr (Memᴰ.tail j)) p),
    )

    go : (b : Bool) → has m (neg_ℤ l) ≡ b → ((T (has m (neg_ℤ l)) → ⊥) → Joins G (join (mark m l) ls)) → Joins G (bind (joined b m l) (λ t. join t ls))
    go true q r = both_signs G l v ((e l).1 (inr (Memᴰ.head refl))) ((e (neg_ℤ l)).1 (inl (rw q tt)))
    go false q r = r (λ t. rw q at t)

-- some literals join: a clash only where they have both signs of a variable, else a state with just these
join_ok : (ls : List ℤ) → ((l : ℤ) → Memᴰ l ls → Literal l) → Joins (λ l. Memᴰ l ls) (join blank ls)
join_ok ls lits = join_from (λ l. Memᴰ l ls) ls lits blank is_marks_blank (λ l. (inr, ⊎_elim (λ t. absurd (has_blank l t)) (λ i. i)))

-- an answer for G is one for the same set
pub closes_same : (R : LiteralSet → Type 0) (G H : ℤ → Type 0) → ((l : ℤ) → G l ↔ H l) → (a : Answer) → Closes R G a → Closes R H a
closes_same R G H e clash k = contradiction_mono (least_mono (λ S r. r) (λ l. (e l).0)) k
closes_same R G H e (closed m) k =
    record { holds = λ l p. k.holds l ((e l).1 p); closed = k.closed; within = λ l p. least_mono (λ S r. r) (λ x. (e x).0) l (k.within l p) }

-- a closure that a state has is no contradiction
pub no_clash : {R : LiteralSet → Type 0} {G : ℤ → Type 0} (m : List ℕ) → IsLeast R G (has m) → Contradiction (Least R G) → ⊥
no_clash m i k = has_consistent m (contradiction_in (has m) i.closed i.holds k)

-- the closure is one answer, byte for byte
pub closes_unique : (R : LiteralSet → Type 0) (G : ℤ → Type 0) (a b : Answer) → InMarks a → InMarks b → Closes R G a → Closes R G b → a ≡ b
closes_unique R G clash clash i j p q = refl
closes_unique R G clash (closed t) i j p q = absurd (no_clash t q p)
closes_unique R G (closed m) clash i j p q = absurd (no_clash m p q)
closes_unique R G (closed m) (closed t) i j p q =
    ap closed (marks_ext m t i j (λ l v. ((λ x. (least_iff q l).1 (p.within l x)), λ x. (least_iff p l).1 (q.within l x))))

-- the unit closure of some givens, in marks
pub givens_closed : (cs : List Clause) → WellFormed cs → (ls : List ℤ) → ((l : ℤ) → Memᴰ l ls → Literal l)
    → Closes (UnitClosed cs) (λ l. Memᴰ l ls) (bind (join blank ls) (unit_closure cs)) × InMarks (bind (join blank ls) (unit_closure cs))
givens_closed cs wf ls lits = go (join blank ls) (join_ok ls lits)
  where
    go : (a : Answer) → Joins (λ l. Memᴰ l ls) a
        → Closes (UnitClosed cs) (λ l. Memᴰ l ls) (bind a (unit_closure cs)) × InMarks (bind a (unit_closure cs))
    go clash k = (contradiction_mono (least_given (UnitClosed cs)) k, tt)
    go (closed m) k = (closes_same (UnitClosed cs) _ _ k.1 (unit_closure cs m) (unit_closure_ok cs wf m), unit_closure_marks cs wf m k.0)
