-- Literals that are known to succeed. What a trial that succeeds decides lies with the marks in a closed set without a contradiction, so that no
-- trial of it fails. A literal that some truth of the variables has with the marks does not fail either; and that truth has every
-- negation that joins, since it has no contradiction.
-- Assumes nothing.
use mathlib.Core.Path.{◌≡◌, refl, ap, sym, subst, ◌∙◌}
use mathlib.Core.Logic.{◌⊎◌, inl, inr, ⊎_elim}
use mathlib.Core.Bool.{false}
use mathlib.Core.List.{List, Memᴰ}
use Prim.Native.Nat.{ℕ, zero, suc, ◌/◌, ◌%◌, max, ◌≤◌, ◌<◌}
use native.Mathlib.Decide.{dec_lt, ℕ_discrete}
use native.Mathlib.Omega.{arith}
use lib.Bits.{bit_or, or_step}
use lib.Dec.{T}
use lib.IntN.{ℤ, pos, negsuc, neg_ℤ}
use lib.ListN.{length, get_or, replicate, length-replicate}
use Rattle.grid.proofs.Completion.{eq_iff}
use Rattle.clauses.specs.Literal.{Literal, mark_index}
use Rattle.clauses.specs.Clauses.{clauses_of}
use Rattle.clauses.specs.Models.{holds, truth_of, givens}
use Rattle.clauses.proofs.ModelsAreCompletions.{models_are_completions}
use Rattle.clauses.specs.declared.ClauseSet.{ClauseSet}
use Rattle.closure.specs.Sets.{IsLeast}
use Rattle.closure.specs.Closure.{With, UnitClosed}
use Rattle.closure.specs.Marks.{has, is_decided, mark, IsMarks}
use Rattle.closure.specs.Propagation.{Answer, clash, closed, unit_closure, Closes}
use Rattle.closure.specs.Job.{kept, try}
use Rattle.closure.proofs.Sets.{least_mono}
use Rattle.closure.proofs.Closure.{contradiction_mono, contradiction_in, truth_total, model_rules, model_consistent}
use Rattle.closure.proofs.Marks.{has_consistent, has_mark, or_iff, zeros}
use Rattle.closure.proofs.ClauseSets.{well_formed}
use Rattle.closure.proofs.Propagation.{unit_closure_ok}
use Rattle.worklist.proofs.Literals.{place_below, index_place}
use Rattle.trials.specs.Known.{EachNamed, Names, Named, Succeeds, KnownOk, PossibleOk, CompletionOk}

-- the larger of two remainders by 2
odd_or : (a b : ℕ) → max (a % 2) (b % 2) ≡ 1 → (a % 2 ≡ 1) ⊎ (b % 2 ≡ 1)
odd_or a b e = elim (ℕ_discrete (a % 2) 1) [ yes h ↦ inl h | no h ↦ inr (omega (arith, e, h)) ]

-- what two bytes name together, one of them names
names_or : (a b : ℕ) (l : ℤ) → Names (bit_or a b) l → Names a l ⊎ Names b l
names_or a b (pos v) h = odd_or a b (omega (arith, or_step a b, h))
names_or a b (negsuc v) h = elim (dec_lt a 2) [
  | no x ↦ inl (omega arith)
  | yes x ↦ elim (dec_lt b 2) [
    | no y ↦ inr (omega arith)
    | yes y ↦ (
        let p : a / 2 ≡ 0 = omega arith in
        let q : b / 2 ≡ 0 = omega arith in
        let z : bit_or (a / 2) (b / 2) ≡ 0 = ap (λ u. bit_or u (b / 2)) p ∙ q in
        absurd (omega (arith, or_step a b, z, h)))
  ]
]

-- a mark names the literal that it marks
names_mark : (m : List ℕ) → IsMarks m → (l : ℤ) → Literal l → Named m l → T (has m l)
unfolding has
names_mark m i (pos zero) v h = absurd v
names_mark m i (pos (suc k)) v h = (eq_iff (get_or m k 0) 1).1 (omega (arith, i.small k, subst (λ p. get_or m p 0 % 2 ≡ 1) (index_place (pos (suc k)) v) h))
names_mark m i (negsuc k) v h = (eq_iff (get_or m k 0) 2).1 (omega (arith, i.small k, subst (λ p. 2 ≤ get_or m p 0) (index_place (negsuc k) v) h))

-- nothing is named by zeros
pub names_none : (l : ℤ) → Named (replicate 729 0) l → ⊥
names_none (pos v) h = omega (arith, h, zeros 729 (mark_index (pos v)))
names_none (negsuc v) h = omega (arith, h, zeros 729 (mark_index (negsuc v)))

-- what a trial that succeeds decides succeeds too
pub known_noted : (s : ClauseSet) (m m' : List ℕ) (l : ℤ) {ks ks' : List ℕ} → KnownOk s m ks → IsMarks m' → IsLeast (UnitClosed (clauses_of s)) (With (has m) l) (has m')
    → length ks' ≡ 729 → ((p : ℕ) → p < 729 → get_or ks' p 0 ≡ bit_or (get_or ks p 0) (get_or m' p 0)) → KnownOk s m ks'
known_noted s m m' l {ks} {ks'} r i c long or =
    record {
      long = long;
      each = λ k v n.
          let p = mark_index k in
          let h : p < 729 = omega (arith, index_place k v, place_below k v) in
          ⊎_elim (r.each k v) (λ x y. has_consistent m' (contradiction_in (has m') c.closed (inside k (names_mark m' i k v x)) y))
          (names_or (get_or ks p 0) (get_or m' p 0) k (subst (λ b. Names b k) (or p h) n));
    }
  where
    inside : (k : ℤ) → T (has m' k) → (j : ℤ) → With (has m) k j → T (has m' j)
    inside k t j w = ⊎_elim (λ x. c.holds j (inl x)) (λ e. subst (λ y. T (has m' y)) (sym e) t) w

-- what holds of each literal that is named still does where more follows of it
each_also : {P Q : ℤ → Type 0} {bs : List ℕ} → EachNamed P bs → ((l : ℤ) → P l → Q l) → EachNamed Q bs
each_also r f = record { long = r.long; each = λ l v n. f l (r.each l v n) }

-- what is possible succeeds
pub possible_known : (s : ClauseSet) (m : List ℕ) {bs : List ℕ} → PossibleOk s m bs → KnownOk s m bs
possible_known s m r =
    each_also r λ l w k.
    model_consistent w.0 (clauses_of s) w.1 false (With (has m) l) (λ j x. ⊎_elim (w.2 j) (λ e. subst (λ y. T (holds w.0 y)) (sym e) w.3) x) k

-- and is still possible where the negation of a failed literal joins
pub possible_joined : (s : ClauseSet) (m m' : List ℕ) (l : ℤ) → Literal l → (Succeeds s m l → ⊥) → IsLeast (UnitClosed (clauses_of s)) (With (has m) (neg_ℤ l)) (has m')
    → (bs : List ℕ) → PossibleOk s m bs → PossibleOk s m' bs
possible_joined s m m' l v fails c bs r =
    each_also r λ k w.
    let A = w.0 in
    let joins : T (holds A (neg_ℤ l)) = ⊎_elim
    (λ t. absurd (fails (λ y. model_consistent A (clauses_of s) w.1 false (With (has m) l) (λ j x. ⊎_elim (w.2 j) (λ e. subst (λ z. T (holds A z)) (sym e) t) x) y)))
    (λ t. t) (truth_total A l v) in
    (A, w.1, (λ j t. c.within j t (holds A) (model_rules A (clauses_of s) w.1 false) (λ i x. ⊎_elim (w.2 i) (λ e. subst (λ z. T (holds A z)) (sym e) joins) x)), w.3)

-- a trial that is known to succeed is one that is kept
pub known_kept : (s : ClauseSet) (m : List ℕ) (l : ℤ) → Literal l → (T (is_decided m l) → ⊥) → Succeeds s m l → (k : Unit {0} → Answer) → kept ≡ try (unit_closure (clauses_of s) (mark m l)) k
known_kept s m l v n h k = go (unit_closure (clauses_of s) (mark m l)) (unit_closure_ok (clauses_of s) (well_formed s) (mark m l))
  where
    go : (a : Answer) → Closes (UnitClosed (clauses_of s)) (λ j. T (has (mark m l) j)) a → kept ≡ try a k
    go (closed t) c = refl
    go clash c = absurd (h (contradiction_mono (least_mono (λ S u. u) (λ j t. (has_mark m l v (λ x. n ((or_iff (has m l) (has m (neg_ℤ l))).1 (inr x))) j).0 t)) c))

-- the literals of a legal completion are possible with the unit closure of the givens
pub completion_possible : (s : ClauseSet) (g m : List ℕ) {bs : List ℕ} → CompletionOk g bs → IsLeast (UnitClosed (clauses_of s)) (λ l. Memᴰ l (givens g)) (has m) → PossibleOk s m bs
completion_possible s g m r c =
    each_also r λ l w.
    let A = truth_of w.0 in
    let o = (models_are_completions s g).models w.0 w.1 in
    (A, o.clauses, (λ k t. c.within k t (holds A) (model_rules A (clauses_of s) o.clauses false) o.keeps), w.2)

-- with zeros nothing is said
pub completion_none : (g : List ℕ) → CompletionOk g (replicate 729 0)
completion_none g = record { long = length-replicate {A = ℕ} 729 0; each = λ l v n. absurd (names_none l n) }
