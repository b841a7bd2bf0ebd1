-- Laws of the rules. More clauses and trials are stronger rules. The rules hold in a model: a clause has a true literal, so where all its
-- others are false the remaining one is true, and a true literal's trial cannot fail, since all that follows from it is true.
-- Assumes nothing.
use mathlib.Core.Logic.{◌⊎◌, inl, inr, ⊎_elim, ⊎_swap}
use mathlib.Core.Bool.{Bool, true, false, not}
use mathlib.Core.List.{List, Memᴰ}
use Prim.Native.Nat.{zero, suc}
use lib.Dec.{T, T_not}
use lib.IntN.{ℤ, pos, negsuc, neg_ℤ}
use Rattle.clauses.specs.Literal.{Literal}
use Rattle.clauses.specs.Clauses.{Clause}
use Rattle.clauses.specs.Models.{Truth, holds, Satisfies}
use Rattle.closure.specs.Sets.{LiteralSet, Holds, Least}
use Rattle.closure.specs.Closure.{Contradiction, With, UnitClosed, Rules}
use Rattle.closure.proofs.Sets.{least_mono}

-- a contradiction of a set is one of every larger set
pub contradiction_mono : {P Q : ℤ → Type 0} → ((l : ℤ) → P l → Q l) → Contradiction P → Contradiction Q
contradiction_mono i k = (k.0, i (pos (suc k.0)) k.1, i (negsuc k.0) k.2)

-- a contradiction of the closure is one of every set that the rules close and that holds the givens
pub contradiction_in : {R : LiteralSet → Type 0} {G : ℤ → Type 0} (S : LiteralSet)
    → R S → Holds G S → Contradiction (Least R G) → Contradiction (λ l. T (S l))
contradiction_in S r h k = (k.0, k.1 S r h, k.2 S r h)

-- a literal and its negation
pub both_signs : (P : ℤ → Type 0) (l : ℤ) → Literal l → P l → P (neg_ℤ l) → Contradiction P
both_signs P (pos zero) v p q = absurd v
both_signs P (pos (suc k)) v p q = (k, p, q)
both_signs P (negsuc k) v p q = (k, q, p)

-- the rules of every technique have the unit rule
pub rules_unit : (cs : List Clause) (t : Bool) (S : LiteralSet) → Rules cs t S → UnitClosed cs S
rules_unit cs true S r = r.0
rules_unit cs false S r = r

-- "at least as strong": more clauses, and trials where there were trials
pub rules_stronger : (cs ds : List Clause) → ((c : Clause) → Memᴰ c cs → Memᴰ c ds)
    → (t u : Bool) → (T t → T u) → (S : LiteralSet) → Rules ds u S → Rules cs t S
rules_stronger cs ds more t u trials S r = go t u trials r
  where
    fewer : (S : LiteralSet) → UnitClosed ds S → UnitClosed cs S
    fewer S d c i = d c (more c i)

    go : (t u : Bool) → (T t → T u) → Rules ds u S → Rules cs t S
    go false u h r = fewer S (rules_unit ds u S r)
    go true true h r = (fewer S r.0, λ l v k. r.1 l v (contradiction_mono (least_mono fewer (λ m p. p)) k))
    go true false h r = absurd (h tt)

-- the trial rule at one literal
abbrev pub TrialAt : List Clause → LiteralSet → ℤ → Type 0
TrialAt cs S l = Contradiction (Least (UnitClosed cs) (With S l)) → T (S (neg_ℤ l))

-- in a unit closed set with no contradiction it holds of a decided literal: if the set has it, what follows from it is in the set
pub trial_decided : (cs : List Clause) (S : LiteralSet) → UnitClosed cs S → (Contradiction (λ l. T (S l)) → ⊥)
    → (l : ℤ) → T (S l) ⊎ T (S (neg_ℤ l)) → TrialAt cs S l
trial_decided cs S u fine l (inr y) k = y
trial_decided cs S u fine l (inl y) k = absurd (fine (contradiction_in S u inside k))
  where
    inside : Holds (With S l) S
    inside m (inl z) = z
    inside m (inr e) = rw e y

-- a test passes or fails
true_or_false : (b : Bool) → T b ⊎ T (not b)
true_or_false true = inl tt
true_or_false false = inr tt

module _ (A : Truth) where
  -- of a literal and its negation one is true,
  pub truth_total : (l : ℤ) → Literal l → T (holds A l) ⊎ T (holds A (neg_ℤ l))
  truth_total (pos zero) v = absurd v
  truth_total (pos (suc k)) v = true_or_false (A (suc k))
  truth_total (negsuc k) v = ⊎_swap (true_or_false (A (suc k)))

  -- and not both
  pub truth_single : (l : ℤ) → T (holds A l) → T (holds A (neg_ℤ l)) → ⊥
  truth_single (pos zero) p q = p
  truth_single (pos (suc k)) p q = T_not (A (suc k)) q p
  truth_single (negsuc k) p q = T_not (A (suc k)) p q

  truth_consistent : Contradiction (λ l. T (holds A l)) → ⊥
  truth_consistent k = truth_single (pos (suc k.0)) k.1 k.2

  module _ (cs : List Clause) (meets : (c : Clause) → Memᴰ c cs → Satisfies A c) where
    model_unit : UnitClosed cs (holds A)
    model_unit c h l at others =
        let w = meets c h in
        let other : T (not (holds A l)) → T (holds A l) =
        λ n. absurd (truth_single w.0 w.2 (others w.0 w.1 (λ e. T_not (holds A l) n (rw e at w.2)))) in
        ⊎_elim (λ y. y) other (true_or_false (holds A l))

    -- the rules hold in a model,
    pub model_rules : (t : Bool) → Rules cs t (holds A)
    model_rules true = (model_unit, λ l v. trial_decided cs (holds A) model_unit truth_consistent l (truth_total l v))
    model_rules false = model_unit

    -- and the closure of its true literals is no contradiction
    pub model_consistent : (t : Bool) (G : ℤ → Type 0) → Holds G (holds A) → Contradiction (Least (Rules cs t) G) → ⊥
    model_consistent t G h k = truth_consistent (contradiction_in (holds A) (model_rules t) h k)
