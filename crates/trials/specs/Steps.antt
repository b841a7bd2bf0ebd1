-- What the functions of a job's steps give back, in the terms of the steps themselves.
use Rattle.std.specs.Prelude.{◌≡◌, Bool, true, false, ◌||◌, List, ℕ, ◌≤◌, ℤ, neg_ℤ, Result, Ok, Err, IfOk}
use Rattle.clauses.specs.Clauses.{clauses_of}
use Rattle.closure.specs.Marks.{mark}
use Rattle.closure.specs.Propagation.{unit_closure}
use Rattle.closure.specs.Job as job
use Rattle.propagation.specs.Steps.{Closed}
use Rattle.worklist.specs.declared.acting.Clash.{Clash}
use Rattle.trials.specs.Known.{KnownOk, PossibleOk}
use Rattle.trials.specs.declared.trial.End.{End}
use Rattle.closure.specs.declared.Outcome.{Outcome}
use Rattle.closure.specs.declared.Outcome.TheVariants.{Solved, Open, Stopped, Contradiction}
use Rattle.trials.specs.declared.trial.Progress.{Progress}
use Rattle.trials.specs.declared.trial.Job.{Job}

-- the end of that outcome, with that count
abbrev pub end : Outcome → ℕ → End
end o n = record { outcome = o; count = n }

-- a job that ends so at marks m, after n trials
abbrev pub ended_at : Outcome → List ℕ → ℕ → job.End
ended_at Solved m n = job.solved m n
ended_at Open m n = job.opened m n
ended_at Stopped m n = job.stopped m n
ended_at Contradiction m n = job.contradiction n

-- the end of a job
abbrev pub end_of : End → List ℕ → job.End
end_of e m = ended_at e.outcome m e.count

-- a job between two literals of its order
pub record Walking (j : Job) (p : Progress) : Type 0 where
  pub state : Closed j.set p.state
  pub known : KnownOk j.set p.state.marks p.known
  pub possible : PossibleOk j.set p.state.marks j.possible.now
  pub within : p.count ≤ j.ceiling

-- a trial that leaves marks m, as a step: it fails, or it does not, or neither the literal nor its negation is possible
abbrev pub step_of : Result Bool Clash → List ℕ → job.Step
step_of (Ok true) m = job.refuted m
step_of (Ok false) m = job.kept
step_of (Err c) m = job.broken

-- a trial of literal l, which changes the marks only where it fails
pub record Tried (j : Job) (p : Progress) (l : ℤ) (q : Progress) (r : Result Bool Clash) : Type 0 where
  pub step : step_of r q.state.marks ≡ job.try (unit_closure (clauses_of j.set) (mark p.state.marks l)) (λ u. unit_closure (clauses_of j.set) (mark p.state.marks (neg_ℤ l)))
  pub marks : r ≡ Ok false → q.state.marks ≡ p.state.marks
  pub count : q.count ≡ p.count
  pub walking : IfOk r (λ f. Walking j q)

-- a pass, or a part of it, after which a trial has failed or not, or the job ends
abbrev pub walk_of : Result Bool Outcome → Progress → job.Walk
walk_of (Ok f) p = job.walked p.state.marks p.count f
walk_of (Err o) p = job.ended (ended_at o p.state.marks p.count)

-- with what has failed before
abbrev pub or_failed : Bool → Result Bool Outcome → Result Bool Outcome
or_failed f (Ok g) = Ok (g || f)
or_failed f (Err o) = Err o

-- literal l of the order
pub record Stepped (j : Job) (p : Progress) (l : ℤ) (q : Progress) (r : Result Bool Outcome) : Type 0 where
  pub step : (f : Bool) → walk_of (or_failed f r) q ≡ job.after (job.step (clauses_of j.set) j.ceiling p.state.marks p.count l) p.state.marks p.count f (λ m n g. job.walked m n g)
  pub walking : IfOk r (λ f. Walking j q)

-- a pass along the order
pub record Walked (j : Job) (p q : Progress) (r : Result Bool Outcome) : Type 0 where
  pub walk : walk_of r q ≡ job.walk (clauses_of j.set) j.ceiling j.order.entries.now p.state.marks p.count false
  pub walking : IfOk r (λ f. Walking j q)
