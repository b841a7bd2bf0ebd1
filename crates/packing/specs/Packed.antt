-- An answer as one 64-bit number, since an exported call returns no more: bits 56 to 63 hold a refusal's number, 0 for none; bits 48 to
-- 55 a small result; bits 0 to 47 a place or a count.
use Rattle.std.specs.Prelude.{Bool, List, ℕ, ◌+◌, ◌*◌, ◌%◌, ◌^◌, ℤ, Result, Ok, Err}
use Rattle.grid.specs.Counting.{tick}
use Rattle.grid.specs.Refusals as refusal
use Rattle.grid.specs.declared.Refusal.{Refusal}
use Rattle.clauses.specs.Call as clause
use Rattle.orders.specs.Technique as technique
use Rattle.closure.specs.Job.{outcome_number}
use Rattle.trials.specs.declared.trial.End.{End}
use Rattle.inference.specs.Call as job
use Rattle.search.specs.Call as find
use Rattle.grading.specs.Grade as grade
use Rattle.grading.specs.declared.Rating.{Rating}
use Rattle.batch.specs.Call as batch
use Rattle.jobfile.specs.Call as reading
use Rattle.jobfile.specs.declared.Settings.{Settings}

-- a refusal: its number and its place
abbrev pub packed_refusal : Refusal → ℕ
packed_refusal r = refusal.number_of r % 256 * 2 ^ 56 + refusal.named_place r % 2 ^ 48

-- what a call answers: the bits of what it gives, or a refusal
abbrev pub packed : {A : Type 0} → (A → ℕ) → Result A Refusal → ℕ
packed bits (Ok a) = bits a
packed bits (Err r) = packed_refusal r

-- a small result
abbrev pub packed_result : ℕ → ℕ
packed_result n = n % 256 * 2 ^ 48

-- whether something is so: 1 or 0
abbrev pub packed_truth : Bool → ℕ
packed_truth b = packed_result (tick b)

-- a small result with a count
abbrev pub packed_counted : ℕ → ℕ → ℕ
packed_counted n k = packed_result n + k % 2 ^ 48

-- that the input is accepted, and no more: 0
abbrev pub packed_nothing : Unit {0} → ℕ
packed_nothing u = 0

-- the end of a job: the outcome's number and the count
abbrev pub packed_end : End → ℕ
packed_end e = packed_counted (outcome_number e.outcome) e.count

-- a rating: the verdict's number and the trial total
abbrev pub packed_rating : Rating → ℕ
packed_rating r = packed_counted (grade.number_of r.verdict) r.trials

-- what a job file sets: the technique's number and the ceiling
abbrev pub packed_settings : Settings → ℕ
packed_settings s = packed_counted (technique.number_of s.technique) s.ceiling

-- what a check says: 0 where it accepts
abbrev pub packed_check : Result (Unit {0}) Refusal → ℕ
packed_check = packed packed_nothing

-- what the test of a completion gives back: 1 where the candidate is one, and 0 where it is not
abbrev pub packed_tested : Result Bool Refusal → ℕ
packed_tested = packed packed_truth

-- what the clause call gives back: the length, and the lent literals at its return
abbrev pub packed_given : clause.Given → ℕ × List ℤ
packed_given g = (packed packed_result g.0, g.1)

-- what the job call gives back: its end, and the lent marks at its return
abbrev pub packed_run : job.Given → ℕ × List ℕ
packed_run g = (packed packed_end g.0, g.1)

-- what the search call gives back: none, one or several, as 0, 1 or 2, and the two lent buffers at its return
abbrev pub packed_found : find.Given → ℕ × List ℕ × List ℕ
packed_found g = (packed packed_result g.0, g.1, g.2)

-- what the grading call gives back: the rating, and the lent buffer at its return
abbrev pub packed_graded : grade.Given → ℕ × List ℕ
packed_graded g = (packed packed_rating g.0, g.1)

-- what the batch call gives back: 0 where its jobs ran, and the lent marks and the answer list at its return
abbrev pub packed_ran : batch.Given → ℕ × List ℕ × List ℕ
packed_ran g = (packed_check g.0, g.1, g.2)

-- what the reading of a job file gives back: what the file sets, and the lent grid and the lent order at its return
abbrev pub packed_file : reading.Given → ℕ × List ℕ × List ℤ
packed_file g = (packed packed_settings g.0, g.1, g.2)
