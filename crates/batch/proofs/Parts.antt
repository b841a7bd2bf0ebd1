-- One job fills its part. What is told of a job is its end: the marks are that end's, the two numbers that are written are its outcome and its count,
-- and the count is within the job's ceiling and joins the trials made before.
-- Assumes nothing.
use mathlib.Core.Path.{◌≡◌, refl, ap, ◌∙◌}
use mathlib.Core.List.{List, [], ◌∷◌}
use Prim.Native.Nat.{ℕ, ◌+◌, ◌≤◌}
use native.Mathlib.Omega.{arith}
use lib.IntN.{ℤ}
use lib.ListN.{length, set}
use Rattle.clauses.specs.Clauses.{clauses_of}
use Rattle.clauses.specs.Models.{givens}
use Rattle.closure.specs.Job as job
use Rattle.closure.specs.Job.{count_of, marks_of, outcome}
use Rattle.closure.proofs.Ceiling.{count_below}
use Rattle.orders.specs.declared.technique.Technique.{Technique}
use Rattle.trials.specs.Steps.{end, end_of}
use Rattle.closure.specs.Job.{outcome_number}
use Rattle.trials.specs.declared.trial.End.{End}
use Rattle.std.specs.Prelude.{Result, Ok}
use Rattle.grid.specs.declared.Refusal.{Refusal}
use Rattle.inference.specs.Call.{Given, finished, job_end_of}
use Rattle.batch.specs.Call.{numbers_of}
use Rattle.batch.specs.Parts.{Filled}

-- two numbers are written
written : (l : List ℕ) (o n : ℕ) → length l ≡ 2 → set (set l 0 o) 1 n ≡ o ∷ n ∷ []
written [] o n h = absurd (omega arith)
written (x ∷ []) o n h = absurd (omega arith)
written (x ∷ y ∷ []) o n h = refl
written (x ∷ y ∷ z ∷ l) o n h = absurd (omega arith)

-- what is told of a job is that of its end
told : (e : job.End) (a : End) (m : List ℕ) → ◌≡◌ {A = Given} (Ok a, m) (finished e) → a ≡ end (outcome e) (count_of e)
told e a m p = same (ap (λ y. y.0) p)
  where
    same : {b : End} → ◌≡◌ {A = Result End Refusal} (Ok a) (Ok b) → a ≡ b
    same q = cc

-- the job x of a technique, an order, a grid and a ceiling has come to its end, which is told
module _ (t : Technique) (o : List ℤ) (g : List ℕ) (ceiling : ℕ) (x : End) (m : List ℕ) (e : end_of x m ≡ job_end_of t o g ceiling)
    (a : End) (marks : List ℕ) (p : ◌≡◌ {A = Given} (Ok a, marks) (finished (end_of x m))) where
  count_is : a.count ≡ count_of (job_end_of t o g ceiling)
  count_is = ap (λ y. y.count) (told (end_of x m) a marks p) ∙ ap count_of e

  -- its count is within the ceiling
  pub within : a.count ≤ ceiling
  within = omega (arith, count_is, count_below (clauses_of t.set) ceiling t.trials o (givens g))

  -- its part
  pub filled : (numbers : List ℕ) → length marks ≡ 729 → length numbers ≡ 2
      → (made : ℕ) → Filled (job_end_of t o g ceiling) made marks (set (set numbers 0 (outcome_number a.outcome)) 1 a.count) (made + a.count)
  filled numbers h k made =
      record {
        marks_are = ap (λ y. y.1) p ∙ ap marks_of e;
        marks_long = h;
        numbers_are = written numbers _ _ k ∙ ap (λ y. outcome_number y.outcome ∷ y.count ∷ []) (told (end_of x m) a marks p) ∙ ap numbers_of e;
        sum_is = ap (λ n. made + n) count_is;
      }
