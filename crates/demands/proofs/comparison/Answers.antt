-- Jobs, the jobs of a batch, and gradings.
use Rattle.demands.proofs.JobsCompared.{of_jobs, of_batches}
use Rattle.demands.proofs.GradingsCompared.{of_gradings}
use Rattle.demands.proofs.comparison.Goals as goal

pub returns : goal.returns
returns c = record { jobs = of_jobs; batches = of_batches; gradings = of_gradings }
