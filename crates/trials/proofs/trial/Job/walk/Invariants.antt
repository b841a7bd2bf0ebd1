-- What is left of the order is walked from where the job has come to.
use mathlib.Core.Path.{◌≡◌}
use mathlib.Core.Bool.{false}
use Rattle.clauses.specs.Clauses.{clauses_of}
use Rattle.trials.specs.Steps.{Walking}
use Rattle.trials.proofs.Walking.{rest}
use Rattle.trials.proofs.trial.Job.walk.Given as goal

abbrev pub invariant-loop-literal : goal.invariant-loop-literal
invariant-loop-literal l = Walking l.self l.progress
    × (rest (clauses_of l.self.set) l.self.ceiling l.self.order.entries.now l.literal-index l.progress.state.marks l.progress.count l.failed
    ≡ rest (clauses_of l.self.set) l.self.ceiling l.self.order.entries.now 0 l.initial.progress.state.marks l.initial.progress.count false)
