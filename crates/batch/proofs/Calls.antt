-- The batch call by its checks: it is refused by the first broken rule and then leaves what was lent, and else says what a batch says.
-- Assumes nothing.
use mathlib.Core.Path.{◌≡◌, refl, ap, sym, subst, ◌∙◌}
use mathlib.Core.Bool.{Bool, true, false, cond}
use mathlib.Core.List.{List, [], ◌∷◌}
use Prim.Native.Nat.{ℕ, ◌*◌}
use lib.Dec.{eqb}
use lib.IntN.{ℤ}
use lib.ListN.{length}
use Rattle.std.specs.Prelude.{Option, None, Some, Result, Ok, Err, OnErr, OnOk}
use Rattle.std.specs.Result.{result_err}
use Rattle.grid.specs.Refusals.{rule, first_broken, bytes_rule, bytes_check}
use Rattle.grid.specs.declared.Refusal.{Refusal}
use Rattle.grid.specs.declared.Refusal.TheVariants.{MarksLength, BatchLength, AnswersLength}
use Rattle.grid.proofs.Checks.{checked, checked_first, last_first, no_answer, bytes_broken}
use Rattle.orders.specs.Order.{order_rules, order_check}
use Rattle.orders.specs.Technique.{technique_rule, technique_of}
use Rattle.orders.specs.declared.technique.Technique.{Technique}
use Rattle.orders.proofs.Rules.{technique_broken, order_broken}
use Rattle.inference.specs.Job.{OfTechnique}
use Rattle.batch.specs.Call.{is_batch, grids_in, lent_rules, lent_check, Given, jobs_of, refused, ran, batch_rules, batch_call}
use Rattle.batch.specs.Says.{BatchSays}
use Rattle.batch.proofs.Says.{says}

lent_broken : (b m n : ℕ) → result_err (lent_check b m n) ≡ first_broken (lent_rules b m n)
unfolding lent_check lent_rules
lent_broken b m n = go (is_batch b) (eqb m (729 * grids_in b)) (eqb n (2 * grids_in b))
  where
    go : (x y z : Bool) → result_err {T = Unit {0}} (cond x (cond y (cond z (Ok tt) (Err AnswersLength)) (Err MarksLength)) (Err BatchLength))
        ≡ first_broken (rule x BatchLength ∷ rule y MarksLength ∷ rule z AnswersLength ∷ [])
    go false y z = refl
    go true false z = refl
    go true true false = refl
    go true true true = refl

-- one rule
only_rule : (o : Option Refusal) → o ≡ first_broken (o ∷ [])
only_rule None = refl
only_rule (Some f) = refl

module _ (g : List ℕ) (n : ℕ) (o : List ℤ) (c : ℕ) (m a : List ℕ) where
  abbrev told : Given → Option Refusal
  told y = result_err y.0

  pub batch_broken : result_err (batch_call g n o c m a).0 ≡ first_broken (batch_rules g n o m a)
  unfolding batch_call batch_rules
  batch_broken =
      checked_first (refused m a) told (λ f. refl) (lent_check (length g) (length m) (length a)) _ (lent_rules (length g) (length m) (length a)) _ (lent_broken (length g) (length m) (length a)) λ u lent.
      checked_first (refused m a) told (λ f. refl) (bytes_check g) _ (bytes_rule g ∷ []) _ (bytes_broken g ∙ only_rule (bytes_rule g)) λ v bytes.
      checked_first (refused m a) told (λ f. refl) (technique_of n) _ (technique_rule n ∷ []) _ (technique_broken n) λ t known.
      last_first (refused m a) told (λ f. refl) (order_check o) _ (order_rules o) (order_broken o) λ w order. refl

  -- what holds of a refusal and of what a batch gives back holds of the call
  by_checks : (P : Given → Type 0) → ((f : Refusal) → P (refused m a f))
      → (lent_check (length g) (length m) (length a) ≡ Ok tt → bytes_check g ≡ Ok tt → (t : Technique) → technique_of n ≡ Ok t → order_check o ≡ Ok tt → P (ran (jobs_of t o g c)))
      → P (batch_call g n o c m a)
  unfolding batch_call
  by_checks P refuses gives =
      checked (refused m a) P refuses (lent_check (length g) (length m) (length a)) _ λ u lent.
      checked (refused m a) P refuses (bytes_check g) _ λ v bytes.
      checked (refused m a) P refuses (technique_of n) _ λ t known.
      checked (refused m a) P refuses (order_check o) _ λ w order. gives lent bytes t known order

  -- what was lent stays
  abbrev pub Stays : Given → Type 0
  Stays y = OnErr y.0 ((y.1 ≡ m) × (y.2 ≡ a))

  batch_stays : Stays (batch_call g n o c m a)
  batch_stays = by_checks Stays (λ f. (refl, refl)) (λ lent bytes t known order. tt)

  -- the batch says what it should
  abbrev pub Answers : Given → Type 0
  Answers y = OnOk y.0 (OfTechnique n (λ t. BatchSays t g o c y.1 y.2))

  batch_answers : Answers (batch_call g n o c m a)
  batch_answers = by_checks Answers (λ f. tt) (λ lent bytes t known order. rw known (says t o g c order))

  -- so of what gives back what the call does
  module _ (r : Result (Unit {0}) Refusal) (m' a' : List ℕ) (e : (r, m', a') ≡ batch_call g n o c m a) where
    pub refused_so : result_err r ≡ first_broken (batch_rules g n o m a)
    refused_so = ap told e ∙ batch_broken

    pub stays_so : Stays (r, m', a')
    stays_so = subst Stays (sym e) batch_stays

    pub answers_so : Answers (r, m', a')
    answers_so = subst Answers (sym e) batch_answers

  -- a call that is not refused has run its jobs
  pub record Ran (m' a' : List ℕ) : Type 0 where
    pub lent : lent_check (length g) (length m) (length a) ≡ Ok tt
    pub bytes : bytes_check g ≡ Ok tt
    pub technique : Technique
    pub known : technique_of n ≡ Ok technique
    pub order : order_check o ≡ Ok tt
    pub says : BatchSays technique g o c m' a'

  pub call_ran : (m' a' : List ℕ) → batch_call g n o c m a ≡ (Ok tt, m', a') → Ran m' a'
  call_ran m' a' = by_checks (λ y. y ≡ (Ok tt, m', a') → Ran m' a') (λ f q. no_answer (ap (λ y. y.0) q)) (λ lent bytes t known order q.
      record {
        lent = lent;
        bytes = bytes;
        technique = t;
        known = known;
        order = order;
        says = rw (← ap (λ y. y.1) q, ← ap (λ y. y.2) q) (says t o g c order);
      })
