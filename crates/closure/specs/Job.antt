-- The steps of a job, in their order: the unit closure of the givens, then trials along the order in passes, under a ceiling.
use Rattle.std.specs.Prelude.{◌≡◌, Bool, true, false, List, [], ◌∷◌, ℕ, zero, suc, ◌+◌, ◌*◌, ◌<◌, eqb, ℤ, neg_ℤ}
use Rattle.clauses.specs.Clauses.{Clause}
use Rattle.closure.specs.Sets.{LiteralSet, Within, Least, IsLeast}
use Rattle.closure.specs.Closure as closure
use Rattle.closure.specs.Marks.{has, is_decided, mark, decided, blank}
use Rattle.closure.specs.Propagation.{Answer, clash, closed, bind, unit_closure, join}
use Rattle.closure.specs.declared.Outcome.{Outcome}
use Rattle.closure.specs.declared.Outcome.TheVariants.{Solved, Open, Stopped, Contradiction}

-- all 729 variables are decided
abbrev pub is_full : List ℕ → Bool
is_full m = eqb (decided m) 729

-- how a job ends: its marks and its count; after a contradiction the count alone
pub data End : Type 0 where
  solved opened stopped : List ℕ → ℕ → End
  contradiction : ℕ → End

-- what the next literal of the order does: nothing, since its variable is decided; it stops the job at the ceiling; its trial
-- succeeds; its trial fails, and its negation joins with its unit closure; or that is a contradiction
pub data Step : Type 0 where
  skip halt kept broken : Step
  refuted : List ℕ → Step

-- the negation of a failed literal joins
abbrev pub refute : Answer → Step
refute clash = broken
refute (closed m) = refuted m

-- a trial by its unit closure, and by that of the negation where it fails
abbrev pub try : Answer → (Unit {0} → Answer) → Step
try (closed m) k = kept
try clash k = refute (k tt)

-- decided, at the ceiling, or tried
abbrev pub step_of : Bool → Bool → (Unit {0} → Step) → Step
step_of true b k = skip
step_of false true k = halt
step_of false false k = k tt

module _ (cs : List Clause) (ceiling : ℕ) where
  -- the step of literal l at state m and count n
  unfoldable pub step : List ℕ → ℕ → ℤ → Step
  step m n l = step_of (is_decided m l) (eqb n ceiling) (λ u. try (unit_closure cs (mark m l)) (λ v. unit_closure cs (mark m (neg_ℤ l))))

-- how a walk over the order, or a part of it, ends: at its end, with whether a trial failed; or before it
pub data Walk : Type 0 where
  walked : List ℕ → ℕ → Bool → Walk
  ended : End → Walk

-- after a failed trial the job ends if all is decided
abbrev pub unless_full : Bool → List ℕ → ℕ → (List ℕ → ℕ → Bool → Walk) → Walk
unless_full true m n k = ended (solved m n)
unless_full false m n k = k m n true

-- go on after a step from state m, count n, and whether a trial has failed; a trial adds 1 to the count
abbrev pub after : Step → List ℕ → ℕ → Bool → (List ℕ → ℕ → Bool → Walk) → Walk
after skip m n f k = k m n f
after halt m n f k = ended (stopped m n)
after kept m n f k = k m (n + 1) f
after broken m n f k = ended (contradiction (n + 1))
after (refuted t) m n f k = unless_full (is_full t) t (n + 1) k

-- a pass with no failure ends the job
abbrev pub next_pass : Walk → (List ℕ → ℕ → End) → End
next_pass (walked m n true) k = k m n
next_pass (walked m n false) k = opened m n
next_pass (ended e) k = e

module _ (cs : List Clause) (ceiling : ℕ) where
  -- along the rest of the order
  unfoldable pub walk : List ℤ → List ℕ → ℕ → Bool → Walk
  walk [] m n f = walked m n f
  walk (l ∷ ls) m n f = after (step cs ceiling m n l) m n f (walk ls)

  -- at most so many passes: each but the last decides a variable
  unfoldable pub passes : ℕ → List ℤ → List ℕ → ℕ → End
  passes zero order m n = opened m n
  passes (suc k) order m n = next_pass (walk order m n false) (passes k order)

  -- trials are made where the technique has them and something is open
  abbrev pub from_closure : Bool → Bool → List ℤ → List ℕ → End
  from_closure true t order m = solved m 0
  from_closure false true order m = passes 729 order m 0
  from_closure false false order m = opened m 0

  -- from the unit closure of the givens
  abbrev pub start : Bool → List ℤ → Answer → End
  start t order clash = contradiction 0
  start t order (closed m) = from_closure (is_full m) t order m

  -- the job of a technique, with or without trials, from some givens
  unfoldable pub job_end : Bool → List ℤ → List ℤ → End
  job_end t order givens = start t order (bind (join blank givens) (unit_closure cs))

-- What a job's end says of the closure of its givens G under its rules R: solved and open have marked just the closure; stopped has
-- marked a part of it, and leaves some variable undecided; and a contradiction is one of the closure.
abbrev pub EndOk : (LiteralSet → Type 0) → (ℤ → Type 0) → End → Type 0
EndOk R G (solved m n) = IsLeast R G (has m) × (decided m ≡ 729)
EndOk R G (opened m n) = IsLeast R G (has m) × (decided m < 729)
EndOk R G (stopped m n) = Within (has m) (Least R G) × (decided m < 729)
EndOk R G (contradiction n) = closure.Contradiction (Least R G)

-- the most trials that any job makes: 729 passes over 1,458 literals
abbrev pub most_trials : ℕ
most_trials = 729 * 1458

-- the count of a job
abbrev pub count_of : End → ℕ
count_of (solved m n) = n
count_of (opened m n) = n
count_of (stopped m n) = n
count_of (contradiction n) = n

-- the marks that a job leaves: all 0 after a contradiction
abbrev pub marks_of : End → List ℕ
marks_of (solved m n) = m
marks_of (opened m n) = m
marks_of (stopped m n) = m
marks_of (contradiction n) = blank

-- the outcome of a job
abbrev pub outcome : End → Outcome
outcome (solved m n) = Solved
outcome (opened m n) = Open
outcome (stopped m n) = Stopped
outcome (contradiction n) = Contradiction

-- the number of an outcome
abbrev pub outcome_number : Outcome → ℕ
outcome_number Solved = 1
outcome_number Open = 2
outcome_number Stopped = 3
outcome_number Contradiction = 4

-- the number of a job's outcome
abbrev pub outcome_of : End → ℕ
outcome_of e = outcome_number (outcome e)
