-- The rule holds at each entry: one test, which is computed.
use Rattle.std.proofs.Common.{rules}
use lib.Dec.{T}
use Rattle.grid.specs.Counting.{all}
use Rattle.grid.proofs.Table.{every, at, true_is}
use Rattle.boards.specs.Tables.{placed_rule}
use Rattle.boards.specs.declared.tables.TheConstants.{PLACED}
use Rattle.boards.proofs.tables.placed.Goals as goal

holds : T (every placed_rule 0 PLACED)
unfolding all
holds = tt

pub returns : goal.returns
returns c = true_is _ (at placed_rule 0 PLACED holds c.args.cell (search rules))
