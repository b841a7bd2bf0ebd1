-- Grading: the weakest technique that finishes a grid with one completion, under one ceiling for all trials.
use Rattle.std.specs.Prelude.{◌≡◌, ◌==◌, cond, List, [], ◌∷◌, ◌++◌, ℕ, suc, ◌+◌, ◌-◌, ◌<◌, eqb, ℤ, length, get_or, Option, Result, Ok, Err}
use Rattle.grid.specs.Refusals.{rule, on_accepted, grid_rules, grid_check}
use Rattle.grid.specs.declared.Refusal.{Refusal}
use Rattle.grid.specs.declared.Refusal.TheVariants.{BufferLength}
use Rattle.clauses.specs.Models.{truth_of}
use Rattle.closure.specs.Job.{End, solved, opened, stopped, contradiction}
use Rattle.orders.specs.Order.{order_rules, order_check}
use Rattle.orders.specs.Technique as technique
use Rattle.orders.specs.Technique.{unit_minimal, unit_extended, trials_minimal, trials_extended}
use Rattle.orders.specs.declared.technique.Technique.{Technique}
use Rattle.inference.specs.Call.{job_end_of}
use Rattle.completions.specs.Completions.{completions}
use Rattle.exploration.specs.Search.{zeros}
use Rattle.grading.specs.declared.Verdict.{Verdict}
use Rattle.grading.specs.declared.Verdict.TheVariants.{NoCompletion, Finished, Unfinished, Stopped, SeveralCompletions}
use Rattle.grading.specs.declared.Rating.{Rating}

-- the number of a verdict: 0 for no completion, the technique's where one finishes, 5 where none does, 6 at the ceiling, 7 for several
abbrev pub number_of : Verdict → ℕ
number_of NoCompletion = 0
number_of (Finished t) = technique.number_of t
number_of Unfinished = 5
number_of Stopped = 6
number_of SeveralCompletions = 7

-- a verdict with its trial total
abbrev pub rating : Verdict → ℕ → Rating
rating v n = record { verdict = v; trials = n }

-- the techniques that a grading tries, in order
abbrev pub ladder : List Technique
ladder = unit_minimal ∷ unit_extended ∷ trials_minimal ∷ trials_extended ∷ []

-- after the job of a technique s, t trials having been made before it: finished where it solves, stopped where it is stopped, and else the next
abbrev pub after_job : End → Technique → ℕ → (ℕ → Rating) → Rating
after_job (solved m n) s t k = rating (Finished s) (t + n)
after_job (stopped m n) s t k = rating Stopped (t + n)
after_job (opened m n) s t k = k (t + n)
after_job (contradiction n) s t k = k (t + n)

module _ (g : List ℕ) (o : List ℤ) (ceiling : ℕ) where
  -- some techniques, one after the other, t trials having been made: each gets the ceiling less the trials before it
  unfoldable pub rate_from : List Technique → ℕ → Rating
  rate_from [] t = rating Unfinished t
  rate_from (s ∷ ss) t = after_job (job_end_of s o g (ceiling - t)) s t (rate_from ss)

-- a mark for each variable, 1 where it is true of the digits b and 2 where it is false
pub record MarksOf (b m : List ℕ) : Type 0 where
  pub long : length m ≡ 729
  pub marks : (p : ℕ) → p < 729 → get_or m p 0 ≡ cond (truth_of b (suc p)) 1 2

-- what a grading call gives back: the rating or a refusal, and the lent buffer at its return
abbrev pub Given : Type 0
Given = Result Rating Refusal × List ℕ

-- by the completions: none and several tell the verdict, and no technique is run; else the rating and the completion
abbrev pub grade_by : List (List ℕ) → (Unit {0} → Rating) → Given
grade_by [] k = (Ok (rating NoCompletion 0), zeros)
grade_by (b ∷ []) k = (Ok (k tt), b)
grade_by (a ∷ b ∷ bs) k = (Ok (rating SeveralCompletions 0), zeros)

-- a grading that is not refused
unfoldable pub grade_of : List ℕ → List ℤ → ℕ → Given
grade_of g o ceiling = grade_by (completions g) λ u. rate_from g o ceiling ladder 0

-- a refusal changes nothing
abbrev pub refused : List ℕ → Refusal → Given
refused b r = (Err r, b)

-- the rules of a grading call: 42, that the buffer is 81 long; then those of the grid and of the order
unfoldable pub grade_rules : List ℕ → List ℤ → List ℕ → List (Option Refusal)
grade_rules g o b = rule (length b == 81) BufferLength ∷ (grid_rules g ++ order_rules o)

-- 42: a buffer that is not 81 long; then the keyer's check, and the operator's check of the order
unfoldable pub grade_call : List ℕ → List ℤ → ℕ → List ℕ → Given
grade_call g o ceiling b =
    cond (eqb (length b) 81)
    (on_accepted (grid_check g) (refused b) λ u. on_accepted (order_check o) (refused b) λ v. grade_of g o ceiling)
    (refused b BufferLength)
