-- The byte of the place says which case it is.
use Rattle.worklist.proofs.Striking.{strikes_already, strikes_new}
use Rattle.worklist.proofs.acting.State.strike.Goals as goal

pub returns-then-self-q-eq0 : goal.returns-then-self-q-eq0
returns-then-self-q-eq0 c = strikes_new c.args.set c.args.q c.requires.1 c.requires.0 c.if-self-q-eq0.true c.deny.ensures.marks c.deny.ensures.holds

pub returns-else-self-q-eq0 : goal.returns-else-self-q-eq0
returns-else-self-q-eq0 c = strikes_already c.args.set c.args.q c.requires.1 c.requires.0 c.requires.2 c.if-self-q-eq0.false
