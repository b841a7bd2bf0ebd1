-- The rule holds at each entry: one test, which is computed.
use Rattle.std.proofs.Common.{rules}
use lib.Dec.{T}
use Rattle.grid.specs.Counting.{all}
use Rattle.grid.proofs.Table.{every, at, true_is}
use Rattle.boards.specs.Tables.{every_way_rule}
use Rattle.boards.specs.declared.tables.TheConstants.{EVERY_WAY}
use Rattle.boards.proofs.tables.every_way.Goals as goal

holds : T (every every_way_rule 0 EVERY_WAY)
unfolding all
holds = tt

pub returns : goal.returns
returns c = true_is _ (at every_way_rule 0 EVERY_WAY holds c.args.thirds (search rules))
