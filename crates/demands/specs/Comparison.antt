-- How every two jobs, those of a batch included, and every two gradings compare that are not refused, whichever orders and ceilings they were given.
use Rattle.std.specs.Prelude.{◌≡◌, ◌⊎◌, List, ℕ, ◌-◌, ◌≤◌, ◌<◌, T, IsTrue, ℤ, length, get_or, Ok}
use Rattle.grid.specs.Grid.{byte, is_digit}
use Rattle.grid.specs.Completion.{Legal}
use Rattle.closure.specs.Job.{outcome_number}
use Rattle.orders.specs.Technique.{is_same_or_below}
use Rattle.trials.specs.declared.trial.End.{End}
use Rattle.inference.specs.Call.{job_call}
use Rattle.batch.specs.Call.{grids_in, grid_at, batch_call}
use Rattle.batch.specs.Says.{marks_at, outcome_at, count_at, count_before}
use Rattle.grading.specs.Grade.{number_of, grade_call}
use Rattle.grading.specs.declared.Rating.{Rating}

-- a job call that is not refused: what it was given, the lent marks among it, and what it gave back
pub record JobCall : Type 0 where
  pub grid : List ℕ
  pub technique : ℕ
  pub order : List ℤ
  pub ceiling : ℕ
  pub lent : List ℕ
  pub end : End
  pub marks : List ℕ
  pub gave : job_call grid technique order ceiling lent ≡ (Ok end, marks)

-- its outcome's number; a job is stopped at 3 and a contradiction at 4
abbrev pub outcome : JobCall → ℕ
outcome job = outcome_number job.end.outcome

-- a grading call that is not refused
pub record GradingCall : Type 0 where
  pub grid : List ℕ
  pub order : List ℤ
  pub ceiling : ℕ
  pub lent : List ℕ
  pub rating : Rating
  pub completion : List ℕ
  pub gave : grade_call grid order ceiling lent ≡ (Ok rating, completion)

-- its verdict's number; a grading is stopped at 6
abbrev pub verdict : GradingCall → ℕ
verdict grading = number_of grading.rating.verdict

-- the second grid has every given of the first: the same byte stands at its place
abbrev pub HasGivens : List ℕ → List ℕ → Type 0
HasGivens first second = (p : ℕ) → p < 81 → T (is_digit (byte first p)) → byte second p ≡ byte first p

-- each variable that the first marks true or false has the same mark in the second
abbrev pub SameMarks : List ℕ → List ℕ → Type 0
SameMarks first second = (p : ℕ) → p < 729 → (get_or first p 0 ≡ 0 → ⊥) → get_or second p 0 ≡ get_or first p 0

-- Let the second job have every given of the first and a technique at least as strong, and let it not be stopped; the first may be. Then the second is a
-- contradiction, or each variable that the first marks true or false has the same mark in the second. If the first is a contradiction, so is the second.
abbrev pub OfJobs : Type 0
OfJobs =
    (first second : JobCall)
    → HasGivens first.grid second.grid
    → IsTrue (is_same_or_below first.technique second.technique)
    → (outcome second ≡ 3 → ⊥)
    → ((outcome second ≡ 4) ⊎ SameMarks first.marks second.marks)
    × (outcome first ≡ 4 → outcome second ≡ 4)

-- Each job of a batch that is not refused is what a job call gives, of its grid, with what the earlier jobs left of the ceiling, whatever marks are lent: it
-- leaves the marks that stand in its part, and ends with the outcome and the count that stand in the answer list. So what is said of jobs is said of these.
abbrev pub OfBatches : Type 0
OfBatches =
    (grids : List ℕ) (technique : ℕ) (order : List ℤ) (ceiling : ℕ) (lent_marks lent_answers marks answers : List ℕ)
    → batch_call grids technique order ceiling lent_marks lent_answers ≡ (Ok tt, marks, answers)
    → (i : ℕ) → i < grids_in (length grids) → (lent : List ℕ) → length lent ≡ 729
    → (end : End)
    × (job_call (grid_at grids i) technique order (ceiling - count_before answers i) lent ≡ (Ok end, marks_at marks i))
    × (outcome_number end.outcome ≡ outcome_at answers i)
    × (end.count ≡ count_at answers i)

-- Let the first grading have a verdict from 1 to 5. Let the second have every given of the first and a legal completion, and let it not be stopped. Then the
-- second has the same completion and no higher verdict.
abbrev pub OfGradings : Type 0
OfGradings =
    (first second : GradingCall)
    → (1 ≤ verdict first) × (verdict first ≤ 5)
    → HasGivens first.grid second.grid
    → (b : List ℕ) × Legal second.grid b
    → (verdict second ≡ 6 → ⊥)
    → (second.completion ≡ first.completion) × (verdict second ≤ verdict first)

-- the comparison of jobs and of gradings, whole
pub record Comparison : Type 0 where
  pub jobs : OfJobs
  pub batches : OfBatches
  pub gradings : OfGradings
