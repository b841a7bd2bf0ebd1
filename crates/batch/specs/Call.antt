-- The batch call: its answer, and what it leaves in the lent marks and in the answer list.
use Rattle.std.specs.Prelude.{Bool, ◌==◌, cond, ◌&&◌, List, [], ◌∷◌, ◌++◌, ℕ, zero, suc, ◌+◌, ◌*◌, ◌-◌, ◌/◌, ◌%◌, eqb, leb, ℤ, length, take, drop, Option, Result, Ok, Err}
use Rattle.grid.specs.Refusals.{rule, on_accepted, bytes_rule, bytes_check}
use Rattle.grid.specs.declared.Refusal.{Refusal}
use Rattle.grid.specs.declared.Refusal.TheVariants.{MarksLength, BatchLength, AnswersLength}
use Rattle.closure.specs.Job.{End, count_of, marks_of, outcome_of}
use Rattle.orders.specs.Order.{order_rules, order_check}
use Rattle.orders.specs.Technique.{technique_rule, technique_of}
use Rattle.orders.specs.declared.technique.Technique.{Technique}
use Rattle.inference.specs.Call.{job_end_of}

-- 81 to 5,184 bytes in steps of 81: 1 to 64 grids end to end
unfoldable pub is_batch : ℕ → Bool
is_batch bytes = leb 81 bytes && leb bytes 5184 && eqb (bytes % 81) 0

-- how many grids there are in so many bytes
abbrev pub grids_in : ℕ → ℕ
grids_in bytes = bytes / 81

-- the host's part, by lengths. 47: the bytes are no batch; 41: not 729 marks a grid; 48: not two numbers a grid
unfoldable pub lent_check : ℕ → ℕ → ℕ → Result (Unit {0}) Refusal
lent_check bytes marks numbers =
    cond (is_batch bytes)
    (cond (eqb marks (729 * grids_in bytes))
    (cond (eqb numbers (2 * grids_in bytes)) (Ok tt) (Err AnswersLength))
    (Err MarksLength))
    (Err BatchLength)

-- the rules of what the host lends: 47, that the bytes are a batch; 41, that there are 729 marks a grid; 48, that there are two numbers a grid
unfoldable pub lent_rules : ℕ → ℕ → ℕ → List (Option Refusal)
lent_rules bytes marks numbers =
    rule (is_batch bytes) BatchLength
    ∷ rule (marks == 729 * grids_in bytes) MarksLength
    ∷ rule (numbers == 2 * grids_in bytes) AnswersLength ∷ []

-- the i-th grid of a batch, counted from 0
abbrev pub grid_at : List ℕ → ℕ → List ℕ
grid_at g i = take 81 (drop (81 * i) g)

-- what the answer list says of a job: the number of its outcome, and its count
abbrev pub numbers_of : End → List ℕ
numbers_of e = outcome_of e ∷ count_of e ∷ []

-- what some jobs of a batch have come to: their marks, end to end, the numbers of the answer list, and the sum of their counts
pub record Done : Type 0 where
  pub marks : List ℕ
  pub numbers : List ℕ
  pub count : ℕ

-- one job more
abbrev pub more : Done → End → Done
more d e = record { marks = d.marks ++ marks_of e; numbers = d.numbers ++ numbers_of e; count = d.count + count_of e }

module _ (t : Technique) (o : List ℤ) (g : List ℕ) (c : ℕ) where
  -- the first n jobs of a batch, each with what the earlier ones left of the ceiling
  unfoldable pub done_after : ℕ → Done
  done_after zero = record { marks = []; numbers = []; count = 0 }
  done_after (suc n) = more (done_after n) (job_end_of t o (grid_at g n) (c - (done_after n).count))

  -- the jobs of a batch
  abbrev pub jobs_of : Done
  jobs_of = done_after (grids_in (length g))

-- what a batch call gives back: that the jobs ran, or a refusal, and the lent marks and the answer list at its return
abbrev pub Given : Type 0
Given = Result (Unit {0}) Refusal × List ℕ × List ℕ

-- a refusal changes nothing
abbrev pub refused : List ℕ → List ℕ → Refusal → Given
refused m a r = (Err r, m, a)

-- a batch that is not refused
abbrev pub ran : Done → Given
ran d = (Ok tt, d.marks, d.numbers)

-- the rules of a batch call: those of what the host lends; 12, that each byte has a meaning; then those of the technique's number and of the order
unfoldable pub batch_rules : List ℕ → ℕ → List ℤ → List ℕ → List ℕ → List (Option Refusal)
batch_rules g n o m a = lent_rules (length g) (length m) (length a) ++ (bytes_rule g ∷ (technique_rule n ∷ order_rules o))

-- the host's part, then the keyer's, the technique, and the operator's check of the order
unfoldable pub batch_call : List ℕ → ℕ → List ℤ → ℕ → List ℕ → List ℕ → Given
batch_call g n o c m a =
    on_accepted (lent_check (length g) (length m) (length a)) (refused m a) λ u. on_accepted (bytes_check g) (refused m a) λ v.
    on_accepted (technique_of n) (refused m a) λ t. on_accepted (order_check o) (refused m a) λ w. ran (jobs_of t o g c)
