-- What a batch says. The i-th part is that of a job of the i-th grid, whose ceiling is what the counts before it in the answer list leave of the call's.
-- Assumes nothing.
use mathlib.Core.Path.{◌≡◌, sym, ap, ◌∙◌}
use mathlib.Core.List.{List}
use Prim.Native.Nat.{ℕ, ◌-◌, ◌≤◌, ◌<◌}
use native.Mathlib.Omega.{arith}
use lib.IntN.{ℤ}
use lib.ListN.{length}
use Rattle.std.specs.Prelude.{Ok}
use Rattle.grid.specs.Counting.{total}
use Rattle.grid.proofs.Counting.{total_same}
use Rattle.closure.specs.Job.{count_of, marks_of}
use Rattle.orders.specs.Order.{order_check}
use Rattle.orders.specs.declared.technique.Technique.{Technique}
use Rattle.inference.specs.Call.{job_end_of}
use Rattle.inference.specs.Job.{Tells}
use Rattle.inference.proofs.Says.{any_ok, tells_says}
use Rattle.batch.specs.Call.{grids_in, grid_at, done_after, jobs_of}
use Rattle.batch.specs.Says.{marks_at, outcome_at, count_at, count_before, BatchSays}
use Rattle.batch.proofs.Jobs.{job_at, sum_is, outcome_at_lem, count_at_lem, marks_at_lem, marks_whole, numbers_whole}

module _ (t : Technique) (o : List ℤ) (g : List ℕ) (c : ℕ) (accepted : order_check o ≡ Ok tt) where
  abbrev k : ℕ
  k = grids_in (length g)

  abbrev marks : List ℕ
  marks = (jobs_of t o g c).marks

  abbrev answers : List ℕ
  answers = (jobs_of t o g c).numbers

  -- each job leaves 729 marks
  long : (i : ℕ) → i < k → length (marks_of (job_at t o g c i)) ≡ 729
  long i h = (any_ok o accepted t (grid_at g i) (c - (done_after t o g c i).count)).marks.long

  before_is : (i : ℕ) → i ≤ k → count_before answers i ≡ total i (λ j. count_of (job_at t o g c j))
  before_is i h = total_same i (count_at answers) (λ j. count_of (job_at t o g c j)) (λ j b. count_at_lem t o g c k j (omega arith))

  -- the ceiling of the i-th job
  left : (i : ℕ) → i < k → c - (done_after t o g c i).count ≡ c - count_before answers i
  left i h = ap (λ x. c - x) ((sum_is t o g c i).0 ∙ sym (before_is i (omega arith)))

  told : (i : ℕ) → i < k → Tells (job_end_of t o (grid_at g i) (c - count_before answers i)) (outcome_at answers i) (count_at answers i) (marks_at marks i)
  told i h = rw (← left i h) (record {
    outcome_is = sym (outcome_at_lem t o g c k i h);
    count_is = sym (count_at_lem t o g c k i h);
    marks_are = sym (marks_at_lem t o g c k i long h);
  })

  pub says : BatchSays t g o c marks answers
  says = record {
    each = told;
    says = λ i h. tells_says t (grid_at g i) o (c - count_before answers i) accepted _ _ _ (told i h);
    within = omega (arith, before_is k (omega arith), (sum_is t o g c k).0, (sum_is t o g c k).1);
    marks_long = marks_whole t o g c k long;
    answers_long = numbers_whole t o g c k;
  }
