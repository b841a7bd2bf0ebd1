-- A solved end marks the only model. Its marks are in every model of the clauses and the givens, since the rules hold there, and they leave
-- nothing undecided; and they are a model, since a clause with no marked literal would have all its negations marked, and so a literal.
-- Assumes nothing.
use mathlib.Core.Path.{◌≡◌, refl}
use mathlib.Core.Logic.{◌⊎◌, inl, inr, ⊎_elim, ◌↔◌}
use mathlib.Core.Bool.{Bool, true, false}
use mathlib.Core.List.Memᴰ
use mathlib.Core.List.{List, [], ◌∷◌, Memᴰ}
use Prim.Native.Nat.{ℕ, zero, suc}
use lib.Dec.{T, not_T}
use lib.IntN.{ℤ, pos, negsuc, neg_ℤ}
use Rattle.clauses.specs.Literal.{Literal}
use Rattle.clauses.specs.Clauses.{Clause}
use Rattle.clauses.specs.Models.{Truth, holds, Satisfies}
use Rattle.closure.specs.Sets.{LiteralSet, Holds}
use Rattle.closure.specs.Closure.{Rules}
use Rattle.closure.specs.Marks.{has}
use Rattle.closure.specs.Job.{solved, contradiction, EndOk}
use Rattle.closure.proofs.Closure.{rules_unit, truth_single, model_rules, model_consistent}
use Rattle.closure.proofs.Marks.{has_single, decided_total}
use Rattle.closure.proofs.Clauses.{WellFormed}

-- the truth that the marks say
abbrev pub truth_in : List ℕ → Truth
truth_in m v = has m (pos v)

bool_ext : (a b : Bool) → T a ↔ T b → a ≡ b
bool_ext true true e = refl
bool_ext true false e = absurd (e.0 tt)
bool_ext false true e = absurd (e.1 tt)
bool_ext false false e = refl

-- a marked literal is true in it
truth_marked : (m : List ℕ) (l : ℤ) → T (has m l) → T (holds (truth_in m) l)
truth_marked m (pos zero) p = unfold has in p
truth_marked m (pos (suc k)) p = p
truth_marked m (negsuc k) p = not_T (has m (pos (suc k))) (λ q. has_single m (pos (suc k)) q p)

-- in a set that decides a clause's literals, one of them is, or all their negations are
one_or_none : (S : LiteralSet) (c : Clause) → ((l : ℤ) → Memᴰ l c → T (S l) ⊎ T (S (neg_ℤ l)))
    → ((l : ℤ) × Memᴰ l c × T (S l)) ⊎ ((l : ℤ) → Memᴰ l c → T (S (neg_ℤ l)))
one_or_none S [] d = inr (λ l i. absurd (Memᴰ.not-nil i))
one_or_none S (x ∷ c) d =
    ⊎_elim (λ y. inl (x, Memᴰ.head refl, y))
    (λ y. ⊎_elim (λ w. inl (w.0, Memᴰ.tail w.1, w.2))
    (λ f. inr (λ l i. ⊎_elim (λ e. rw e y) (f l) (Memᴰ.cases_cons i))) (one_or_none S c (λ l i. d l (Memᴰ.tail i)))) (d x (Memᴰ.head refl))

module _ (cs : List Clause) (t : Bool) (G : ℤ → Type 0) (m : List ℕ) (n : ℕ) (k : EndOk (Rules cs t) G (solved m n)) where
  -- a model of the clauses and the givens is what is marked,
  pub solved_only : (A : Truth) → ((c : Clause) → Memᴰ c cs → Satisfies A c) → Holds G (holds A) → (l : ℤ) → Literal l → holds A l ≡ has m l
  solved_only A meets g l v =
      let inside : (l : ℤ) → T (has m l) → T (holds A l) = λ l p. k.0.within l p (holds A) (model_rules A cs meets t) g in
      bool_ext (holds A l) (has m l)
      ((λ p. ⊎_elim (λ q. q) (λ q. absurd (truth_single A l p (inside (neg_ℤ l) q))) (decided_total m k.1 l v)), inside l)

  -- and what is marked is a model of the clauses
  pub solved_clauses : WellFormed cs → (c : Clause) → Memᴰ c cs → Satisfies (truth_in m) c
  solved_clauses wf c i =
      ⊎_elim (λ w. (w.0, w.1, truth_marked m w.0 w.2))
      (λ f. let w = (wf c i).some in
      (w.0, w.1, truth_marked m w.0 (rules_unit cs t (has m) k.0.closed c i w.0 w.1 (λ x j d. f x j))))
      (one_or_none (has m) c (λ l j. decided_total m k.1 l ((wf c i).literals l j)))

  -- and of the givens
  pub solved_givens : Holds G (holds (truth_in m))
  solved_givens l g = truth_marked m l (k.0.holds l g)

-- after a contradiction there is no model
pub contradiction_none : (cs : List Clause) (t : Bool) (G : ℤ → Type 0) (n : ℕ) → EndOk (Rules cs t) G (contradiction n)
    → (A : Truth) → ((c : Clause) → Memᴰ c cs → Satisfies A c) → Holds G (holds A) → ⊥
contradiction_none cs t G n k A meets g = model_consistent A cs meets t G g k
