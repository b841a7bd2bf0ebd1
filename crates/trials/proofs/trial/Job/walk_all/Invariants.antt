-- What is left of the passes goes on from where the job has come to.
use mathlib.Core.Path.{◌≡◌}
use Prim.Native.Nat.{◌-◌}
use Rattle.clauses.specs.Clauses.{clauses_of}
use Rattle.closure.specs.Job.{passes}
use Rattle.trials.specs.Steps.{Walking}
use Rattle.trials.proofs.trial.Job.walk_all.Given as goal

abbrev pub invariant-loop : goal.invariant-loop
invariant-loop l = Walking l.self l.progress
    × (passes (clauses_of l.self.set) l.self.ceiling (729 - l.counter) l.self.order.entries.now l.progress.state.marks l.progress.count
    ≡ passes (clauses_of l.self.set) l.self.ceiling 729 l.self.order.entries.now l.initial.progress.state.marks l.initial.progress.count)
