-- Row by row.
use Rattle.bench_table.proofs.Bench.{bench}
use Rattle.bench_table.proofs.bench_table.Goals as goal

pub returns : goal.returns
returns c = bench
