-- What a job that is not refused says, by the number of its outcome: 1 solved, 2 open, 3 stopped, 4 contradiction.
use Rattle.std.specs.Prelude.{◌≡◌, ◌↔◌, cond, false, ℕ, suc, ◌≤◌, ◌<◌, T, ℤ, length, get_or, IfOk}
use mathlib.Core.List.{List, Memᴰ}
use Rattle.grid.specs.Completion.{Legal}
use Rattle.clauses.specs.Clauses.{clauses_of}
use Rattle.clauses.specs.Models.{givens, truth_of}
use Rattle.closure.specs.Sets.{LiteralSet, Within, Least}
use Rattle.closure.specs.Closure.{Rules, Contradiction}
use Rattle.closure.specs.Marks.{has, blank}
use Rattle.closure.specs.Job.{End, most_trials, count_of, marks_of, outcome_of}
use Rattle.orders.specs.Technique.{technique_of}
use Rattle.orders.specs.declared.technique.Technique.{Technique}
use Rattle.inference.specs.Call.{job_end_of}

-- the rules of a technique, over its clause set
abbrev pub RulesOf : Technique → LiteralSet → Type 0
RulesOf t = Rules (clauses_of t.set) t.trials

-- l is a given of the grid g
abbrev pub IsGiven : List ℕ → ℤ → Type 0
IsGiven g l = Memᴰ l (givens g)

-- the closure of a technique, from a grid: over its set, the unit closure of the givens, and with trials their trial closure
abbrev pub ClosureOf : Technique → List ℕ → ℤ → Type 0
ClosureOf t g = Least (RulesOf t) (IsGiven g)

-- the mark of variable p + 1
abbrev pub mark_at : List ℕ → ℕ → ℕ
mark_at m p = get_or m p 0

-- m marks each variable true or false
abbrev pub AllDecided : List ℕ → Type 0
AllDecided m = (p : ℕ) → p < 729 → mark_at m p ≡ 0 → ⊥

-- There are 729 marks, each 0, 1 or 2. Outcome 1 is that of marks which decide all variables; outcome 4 leaves all marks 0.
pub record SaysMarks (outcome : ℕ) (m : List ℕ) : Type 0 where
  pub long : length m ≡ 729
  pub each : (p : ℕ) → p < 729 → mark_at m p ≤ 2
  pub all : (outcome ≡ 1) ↔ AllDecided m
  pub none : outcome ≡ 4 → m ≡ blank

-- An unstopped job by its closure: its outcome is 4 exactly when that closure is a contradiction; otherwise its marks are exactly the
-- literals of the closure. No job, stopped or not, marks any other.
pub record SaysClosure (t : Technique) (g : List ℕ) (outcome : ℕ) (m : List ℕ) : Type 0 where
  pub clash : (outcome ≡ 3 → ⊥) → (outcome ≡ 4) ↔ Contradiction (ClosureOf t g)
  pub marked : (outcome ≡ 3 → ⊥) → (outcome ≡ 4 → ⊥) → (l : ℤ) → T (has m l) ↔ ClosureOf t g l
  pub within : Within (has m) (ClosureOf t g)

-- m marks the only legal completion of g: a variable true where the completion's cell has its digit, and else false
pub record MarksOnly (g m : List ℕ) : Type 0 where
  pub completion : List ℕ
  pub legal : Legal g completion
  pub marked : (p : ℕ) → p < 729 → mark_at m p ≡ cond (truth_of completion (suc p)) 1 2
  pub only : (b : List ℕ) → Legal g b → b ≡ completion

-- A job that says "solved" has marked the only legal completion; "contradiction" comes only if none exists.
pub record SaysCompletions (g : List ℕ) (outcome : ℕ) (m : List ℕ) : Type 0 where
  pub one : outcome ≡ 1 → MarksOnly g m
  pub none : outcome ≡ 4 → (b : List ℕ) → Legal g b → ⊥

-- the trials that the job makes if no ceiling stops it
abbrev pub trials_of : Technique → List ℤ → List ℕ → ℕ
trials_of t o g = count_of (job_end_of t o g most_trials)

-- No count passes its ceiling, nor 1,062,882. A job is stopped exactly where its trials are more than the ceiling: it has come to the ceiling and a trial
-- is due; an unstopped one has made them all. Techniques 1 and 2, which make no trials, count 0 and never stop.
pub record SaysTrials (t : Technique) (o : List ℤ) (g : List ℕ) (ceiling outcome count : ℕ) : Type 0 where
  pub within : count ≤ ceiling
  pub most : count ≤ most_trials
  pub stopped : (outcome ≡ 3) ↔ (ceiling < trials_of t o g)
  pub reached : outcome ≡ 3 → count ≡ ceiling
  pub made : (outcome ≡ 3 → ⊥) → count ≡ trials_of t o g
  pub unit : t.trials ≡ false → (count ≡ 0) × (outcome ≡ 3 → ⊥)

-- what the job of a technique says, from the grid g, along the order o, under a ceiling, with that outcome, count and marks
pub record JobSays (t : Technique) (g : List ℕ) (o : List ℤ) (ceiling outcome count : ℕ) (m : List ℕ) : Type 0 where
  pub marks : SaysMarks outcome m
  pub closure : SaysClosure t g outcome m
  pub completions : SaysCompletions g outcome m
  pub trials : SaysTrials t o g ceiling outcome count

-- a job's end is told by the number of its outcome, its count and the marks that it leaves
pub record Tells (e : End) (outcome count : ℕ) (m : List ℕ) : Type 0 where
  pub outcome_is : outcome_of e ≡ outcome
  pub count_is : count_of e ≡ count
  pub marks_are : marks_of e ≡ m

-- P holds of the technique of a number
abbrev pub OfTechnique : ℕ → (Technique → Type 0) → Type 0
OfTechnique n P = IfOk (technique_of n) P
