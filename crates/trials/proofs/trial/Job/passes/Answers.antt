-- No trial is made yet, and what is possible is known to succeed.
use native.Mathlib.Omega.{arith}
use Rattle.trials.proofs.Knowing.{possible_known}
use Rattle.trials.proofs.trial.Job.passes.Goals as goal

pub walk_all-outcome-requires : goal.walk_all-outcome-requires
walk_all-outcome-requires c =
    let j = c.args.self.now in
    let r = c.requires in
    record { state = r.0; known = possible_known j.set c.args.state.now.marks r.1; possible = r.1; within = omega arith }
