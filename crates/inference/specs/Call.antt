-- The job call: its answer, and what it leaves in the lent marks.
use Rattle.std.specs.Prelude.{◌==◌, cond, List, ◌∷◌, ◌++◌, ℕ, eqb, ℤ, length, Option, Result, Ok, Err}
use Rattle.grid.specs.Refusals.{rule, on_accepted, grid_rules, grid_check}
use Rattle.grid.specs.declared.Refusal.{Refusal}
use Rattle.grid.specs.declared.Refusal.TheVariants as refusal
use Rattle.clauses.specs.Clauses.{clauses_of}
use Rattle.clauses.specs.Models.{givens}
use Rattle.closure.specs.Job as job
use Rattle.closure.specs.Job.{job_end, count_of, marks_of, outcome}
use Rattle.orders.specs.Order.{order_rules, order_check}
use Rattle.orders.specs.Technique.{technique_rule, technique_of}
use Rattle.orders.specs.declared.technique.Technique.{Technique}
use Rattle.trials.specs.Steps.{end}
use Rattle.trials.specs.declared.trial.End.{End}

-- what a job call gives back: the job's end or a refusal, and the lent marks at its return
abbrev pub Given : Type 0
Given = Result End Refusal × List ℕ

-- at the end of a job: its outcome with its count, and its marks, all 0 after a contradiction
abbrev pub finished : job.End → Given
finished e = (Ok (end (outcome e) (count_of e)), marks_of e)

-- the end of the job of a technique, along an order, from a grid, under a ceiling
abbrev pub job_end_of : Technique → List ℤ → List ℕ → ℕ → job.End
job_end_of t o g c = job_end (clauses_of t.set) c t.trials o (givens g)

-- a job that is not refused
unfoldable pub job_of : Technique → List ℕ → List ℤ → ℕ → Given
job_of t g o c = finished (job_end_of t o g c)

-- a refusal changes nothing
abbrev pub refused : List ℕ → Refusal → Given
refused m r = (Err r, m)

-- the rules of a job call: 41, that 729 marks are lent; then those of the grid, of the technique's number and of the order
unfoldable pub job_rules : List ℕ → ℕ → List ℤ → List ℕ → List (Option Refusal)
job_rules g n o m = rule (length m == 729) refusal.MarksLength ∷ (grid_rules g ++ (technique_rule n ∷ order_rules o))

-- 41: not 729 marks; then the keyer's check, the technique, and the operator's check of the order
unfoldable pub job_call : List ℕ → ℕ → List ℤ → ℕ → List ℕ → Given
job_call g n o c m =
    cond (eqb (length m) 729)
    (on_accepted (grid_check g) (refused m) λ u. on_accepted (technique_of n) (refused m) λ t. on_accepted (order_check o) (refused m) λ v. job_of t g o c)
    (refused m refusal.MarksLength)
