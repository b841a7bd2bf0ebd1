-- The word is folded upon its thirds.
use Rattle.boards.proofs.Thirds.{is_thirds}
use Rattle.boards.proofs.settling.thirds_of.Goals as goal

pub returns : goal.returns
returns c = is_thirds c.args.word
