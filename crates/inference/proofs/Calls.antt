-- The job call by its checks: it is refused by the first broken rule and then leaves the marks, and else says what a job says.
-- Assumes nothing.
use mathlib.Core.Path.{◌≡◌, refl, ap, sym, subst, ◌∙◌}
use mathlib.Core.List.{List, [], ◌∷◌}
use Prim.Native.Nat.{ℕ}
use borrow.Author.Tests.{eq-eqb}
use lib.Dec.{eqb}
use lib.IntN.{ℤ}
use lib.ListN.{length}
use Rattle.std.specs.Prelude.{Option, Result, Ok, OnErr, IfOk}
use Rattle.std.specs.Result.{result_err}
use Rattle.grid.specs.Refusals.{first_broken, grid_rules, grid_check}
use Rattle.grid.specs.declared.Refusal.{Refusal}
use Rattle.grid.specs.declared.Refusal.TheVariants as refusal
use Rattle.grid.proofs.Checks.{tested, checked, tested_first, checked_first, last_first, no_answer, same_answer, grid_broken}
use Rattle.closure.specs.Job.{outcome_number}
use Rattle.orders.specs.Order.{order_rules, order_check}
use Rattle.orders.specs.Technique.{technique_rule, technique_of}
use Rattle.orders.specs.declared.technique.Technique.{Technique}
use Rattle.orders.proofs.Rules.{technique_broken, order_broken}
use Rattle.trials.specs.declared.trial.End.{End}
use Rattle.inference.specs.Call.{Given, refused, job_end_of, job_rules, job_of, job_call}
use Rattle.inference.specs.Job.{JobSays, Tells, OfTechnique}
use Rattle.inference.proofs.Says.{says}

module _ (g : List ℕ) (n : ℕ) (o : List ℤ) (c : ℕ) (m : List ℕ) where
  abbrev told : Given → Option Refusal
  told y = result_err y.0

  pub job_broken : result_err (job_call g n o c m).0 ≡ first_broken (job_rules g n o m)
  unfolding job_call job_rules job_of
  job_broken =
      tested_first (refused m) told (λ f. refl) (eqb (length m) 729) refusal.MarksLength _ _ λ long.
      checked_first (refused m) told (λ f. refl) (grid_check g) _ (grid_rules g) _ (grid_broken g) λ u grid.
      checked_first (refused m) told (λ f. refl) (technique_of n) _ (technique_rule n ∷ []) _ (technique_broken n) λ t known.
      last_first (refused m) told (λ f. refl) (order_check o) _ (order_rules o) (order_broken o) λ v order. refl

  -- what holds of a refusal and of what a job gives back holds of the call
  by_checks : (P : Given → Type 0) → ((f : Refusal) → P (refused m f)) → ((t : Technique) → technique_of n ≡ Ok t → order_check o ≡ Ok tt → P (job_of t g o c))
      → P (job_call g n o c m)
  unfolding job_call
  by_checks P refuses gives =
      tested (refused m) P refuses (eqb (length m) 729) refusal.MarksLength _ λ long.
      checked (refused m) P refuses (grid_check g) _ λ u grid.
      checked (refused m) P refuses (technique_of n) _ λ t known.
      checked (refused m) P refuses (order_check o) _ λ v order. gives t known order

  -- the marks stay
  abbrev pub Stays : Given → Type 0
  Stays y = OnErr y.0 (y.1 ≡ m)

  pub job_stays : Stays (job_call g n o c m)
  unfolding job_of
  job_stays = by_checks Stays (λ f. refl) (λ t known order. tt)

  -- the job says what it should
  abbrev pub Answers : Given → Type 0
  Answers y = IfOk y.0 (λ end. OfTechnique n (λ t. JobSays t g o c (outcome_number end.outcome) end.count y.1))

  pub job_answers : Answers (job_call g n o c m)
  unfolding job_of
  job_answers = by_checks Answers (λ f. tt) (λ t known order. rw known (says t g o c order))

  -- so of what gives back what the call does
  module _ (r : Result End Refusal) (m' : List ℕ) (e : (r, m') ≡ job_call g n o c m) where
    pub refused_so : result_err r ≡ first_broken (job_rules g n o m)
    refused_so = ap told e ∙ job_broken

    pub stays_so : Stays (r, m')
    stays_so = subst Stays (sym e) job_stays

    pub answers_so : Answers (r, m')
    answers_so = subst Answers (sym e) job_answers

  -- a call that is not refused has run the job of its technique, and tells its end
  pub record Ran (e : End) (t : List ℕ) : Type 0 where
    pub technique : Technique
    pub known : technique_of n ≡ Ok technique
    pub order : order_check o ≡ Ok tt
    pub tells : Tells (job_end_of technique o g c) (outcome_number e.outcome) e.count t

  pub call_ran : (e : End) (t : List ℕ) → job_call g n o c m ≡ (Ok e, t) → Ran e t
  unfolding job_of
  call_ran e t =
      by_checks (λ y. y ≡ (Ok e, t) → Ran e t) (λ f q. no_answer (ap (λ y. y.0) q)) (λ s known order q. (
      let same = same_answer (ap (λ y. y.0) q) in
      record {
        technique = s;
        known = known;
        order = order;
        tells = record { outcome_is = ap (λ x. outcome_number x.outcome) same; count_is = ap (λ x. x.count) same; marks_are = ap (λ y. y.1) q };
      }))

-- the job of accepted inputs is what the call gives, whatever marks are lent
pub call_gives : (g : List ℕ) (n : ℕ) (o : List ℤ) (c : ℕ) (m : List ℕ) (t : Technique) → length m ≡ 729 → grid_check g ≡ Ok tt → technique_of n ≡ Ok t → order_check o ≡ Ok tt
    → job_call g n o c m ≡ job_of t g o c
unfolding job_call
call_gives g n o c m t long grid known order = rw (eq-eqb (length m) 729 long, grid, known, order) refl
