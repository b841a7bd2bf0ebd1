-- What holds of unit closures and of jobs, over both clause sets, along every order of trials and under every ceiling.
use Rattle.std.specs.Prelude.{◌≡◌, ◌↔◌, Bool, ℕ, suc, ◌*◌, ◌+◌, ◌≤◌, ◌<◌, ℤ, pos, length, get_or}
use mathlib.Core.List.{List, Memᴰ}
use Rattle.clauses.specs.Literal.{Literal}
use Rattle.clauses.specs.Clauses.{clauses_of}
use Rattle.clauses.specs.declared.ClauseSet.{ClauseSet}
use Rattle.closure.specs.Sets.{LiteralSet, Holds}
use Rattle.closure.specs.Closure.{UnitClosed, Rules}
use Rattle.closure.specs.Marks.{has, decided, blank, IsMarks}
use Rattle.closure.specs.Propagation.{bind, unit_closure, join, Closes}
use Rattle.closure.specs.Job.{End, job_end, EndOk, most_trials, count_of, marks_of, outcome_of}

-- l is one of some givens
abbrev pub Among : List ℤ → ℤ → Type 0
Among givens l = Memᴰ l givens

-- some literals, and nothing else
abbrev pub AreLiterals : List ℤ → Type 0
AreLiterals ls = (l : ℤ) → Memᴰ l ls → Literal l

-- no entry stands at two places
abbrev pub NoneTwice : List ℤ → Type 0
NoneTwice ls = (i j : ℕ) → i < j → j < length ls → get_or ls i (pos 0) ≡ get_or ls j (pos 0) → ⊥

-- each literal stands in the order, once
pub record HasEachOnce (order : List ℤ) : Type 0 where
  pub each : (l : ℤ) → Literal l ↔ Memᴰ l order
  pub once : NoneTwice order

-- The sweeps over the clauses, from some givens, come to their unit closure.
abbrev pub UnitClosures : Type 0
UnitClosures =
    (set : ClauseSet) (givens : List ℤ)
    → AreLiterals givens
    → Closes (UnitClosed (clauses_of set)) (Among givens) (bind (join blank givens) (unit_closure (clauses_of set)))

-- What is promised of a job's end: what it says of the closure of its givens G under its rules R; that it makes at most so many trials, and that no
-- ceiling from there on stops it; and that its marks are marks.
pub record JobOk (R : LiteralSet → Type 0) (G : ℤ → Type 0) (ceiling bound : ℕ) (e : End) : Type 0 where
  pub end : EndOk R G e
  pub count : count_of e ≤ bound
  pub whole : bound ≤ ceiling → outcome_of e ≡ 3 → ⊥
  pub marks : IsMarks (marks_of e)

-- Every job ends so, whatever its order and its ceiling. Where its givens leave at most u variables undecided, it makes at most u (u + 1) trials.
abbrev pub JobEnds : Type 0
JobEnds =
    (set : ClauseSet) (trials : Bool) (ceiling : ℕ) (order givens : List ℤ)
    → HasEachOnce order
    → AreLiterals givens
    → (u : ℕ) → u ≤ 729 → ((m : List ℕ) → Holds (Among givens) (has m) → 729 ≤ u + decided m)
    → JobOk (Rules (clauses_of set) trials) (Among givens) ceiling (u * suc u) (job_end (clauses_of set) ceiling trials order givens)

-- e is how a job ends that would end as `whole` does if no ceiling stopped it: it is stopped exactly where it would make more trials than the ceiling
-- allows, and then it has made just these; else it ends as `whole`.
pub record CutAt (ceiling : ℕ) (whole e : End) : Type 0 where
  pub stopped : (outcome_of e ≡ 3) ↔ (ceiling < count_of whole)
  pub count : outcome_of e ≡ 3 → count_of e ≡ ceiling
  pub same : (outcome_of e ≡ 3 → ⊥) → e ≡ whole

-- Every job is so cut off by its ceiling.
abbrev pub Ceilings : Type 0
Ceilings =
    (set : ClauseSet) (trials : Bool) (ceiling : ℕ) (order givens : List ℤ)
    → HasEachOnce order
    → AreLiterals givens
    → CutAt ceiling (job_end (clauses_of set) most_trials trials order givens) (job_end (clauses_of set) ceiling trials order givens)
