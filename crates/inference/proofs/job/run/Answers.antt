-- Nothing is known to succeed.
use Rattle.trials.proofs.Knowing.{completion_none}
use Rattle.inference.proofs.job.run.Goals as goal

pub run_with-requires : goal.run_with-requires
run_with-requires c = completion_none c.args.grid.now
