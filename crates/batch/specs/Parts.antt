-- The jobs of a batch, each in its own part of what is lent: what is asked and said of them.
use Rattle.std.specs.Prelude.{◌≡◌, List, ℕ, ◌+◌, ◌*◌, ◌≤◌, length}
use Rattle.closure.specs.Job as job
use Rattle.closure.specs.Job.{count_of, marks_of}
use Rattle.batch.specs.Call.{grids_in, numbers_of, Done}

-- the lengths of what is lent: at most 64 grids, and 729 marks and two numbers a grid
pub record Lent (bytes marks numbers : ℕ) : Type 0 where
  pub few : bytes ≤ 5184
  pub whole : bytes ≡ 81 * grids_in bytes
  pub marks_long : marks ≡ 729 * grids_in bytes
  pub numbers_long : numbers ≡ 2 * grids_in bytes

-- the part of a job is filled, and its count joins the trials made before it
pub record Filled (e : job.End) (made : ℕ) (marks numbers : List ℕ) (sum : ℕ) : Type 0 where
  pub marks_are : marks ≡ marks_of e
  pub marks_long : length marks ≡ 729
  pub numbers_are : numbers ≡ numbers_of e
  pub sum_is : sum ≡ made + count_of e

-- all that is lent is filled by the jobs
pub record AllFilled (d : Done) (marks numbers : List ℕ) : Type 0 where
  pub marks_are : marks ≡ d.marks
  pub numbers_are : numbers ≡ d.numbers
