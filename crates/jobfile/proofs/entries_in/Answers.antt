-- The entries are read one by one.
use Prim.Native.Nat.{◌*◌}
use lib.IntN.{pos}
use Rattle.std.proofs.Common.{rules, tests}
use Rattle.grid.proofs.Made.{made}
use Rattle.jobfile.specs.Contents.{entry_at, entries_in}
use Rattle.jobfile.proofs.entries_in.Goals as goal

pub returns : goal.returns
unfolding entries_in
returns c =
    made _ (λ k. entry_at c.args.body.now (2 * k)) (pos 0) _ (λ x y q k. search (rules, tests)) c.from_fn.result 1458 c.from_fn.ensures.items
