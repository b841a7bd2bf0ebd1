-- The word is folded upon its columns.
use Rattle.boards.proofs.Thirds.{is_columns}
use Rattle.boards.proofs.settling.columns_of.Goals as goal

pub returns : goal.returns
returns c = is_columns c.args.word
