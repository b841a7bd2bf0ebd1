-- The rule holds at each entry: one test, which is computed.
use Rattle.std.proofs.Common.{rules}
use lib.Dec.{T}
use Rattle.grid.specs.Counting.{all}
use Rattle.grid.proofs.Table.{every, at, true_is}
use Rattle.boards.specs.Tables.{singles_rule}
use Rattle.boards.specs.declared.tables.TheConstants.{SINGLES}
use Rattle.boards.proofs.tables.singles.Goals as goal

holds : T (every singles_rule 0 SINGLES)
unfolding all
holds = tt

pub returns : goal.returns
returns c = true_is _ (at singles_rule 0 SINGLES holds c.args.columns (search rules))
