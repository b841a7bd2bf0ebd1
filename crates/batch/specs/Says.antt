-- What a batch that is not refused says, as the lent marks and the answer list have it at the return.
use Rattle.std.specs.Prelude.{◌≡◌, List, ℕ, ◌+◌, ◌*◌, ◌-◌, ◌≤◌, ◌<◌, ℤ, length, get_or, take, drop}
use Rattle.grid.specs.Counting.{total}
use Rattle.orders.specs.declared.technique.Technique.{Technique}
use Rattle.inference.specs.Call.{job_end_of}
use Rattle.inference.specs.Job.{JobSays, Tells}
use Rattle.batch.specs.Call.{grids_in, grid_at}

-- the marks of the i-th job, counted from 0
abbrev pub marks_at : List ℕ → ℕ → List ℕ
marks_at marks i = take 729 (drop (729 * i) marks)

-- its outcome's number
abbrev pub outcome_at : List ℕ → ℕ → ℕ
outcome_at answers i = get_or answers (2 * i) 0

-- its count
abbrev pub count_at : List ℕ → ℕ → ℕ
count_at answers i = get_or answers (2 * i + 1) 0

-- the sum of the counts of the first i jobs
abbrev pub count_before : List ℕ → ℕ → ℕ
count_before answers i = total i (count_at answers)

-- Each grid has its job, which gets what the earlier ones left of the ceiling: its part of the marks and its two numbers are those that the job's end is told
-- by, and say what a job says. The sum of the counts is within the ceiling, and nothing else stands in the marks and in the answer list.
pub record BatchSays (t : Technique) (g : List ℕ) (o : List ℤ) (ceiling : ℕ) (marks answers : List ℕ) : Type 0 where
  pub each : (i : ℕ) → i < grids_in (length g)
      → Tells (job_end_of t o (grid_at g i) (ceiling - count_before answers i)) (outcome_at answers i) (count_at answers i) (marks_at marks i)
  pub says : (i : ℕ) → i < grids_in (length g)
      → JobSays t (grid_at g i) o (ceiling - count_before answers i) (outcome_at answers i) (count_at answers i) (marks_at marks i)
  pub within : count_before answers (grids_in (length g)) ≤ ceiling
  pub marks_long : length marks ≡ 729 * grids_in (length g)
  pub answers_long : length answers ≡ 2 * grids_in (length g)
