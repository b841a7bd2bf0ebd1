-- The places beside the pairs from the next one on are struck.
use Rattle.worklist.specs.Acting.{Strikes}
use Rattle.worklist.proofs.Striking.{ListedFrom}
use Rattle.worklist.proofs.acting.State.strike_all.Given as goal

abbrev pub invariant-loop-i : goal.invariant-loop-i
invariant-loop-i l = Strikes l.set (ListedFrom l.targets.places l.i l.targets.count) l.initial.self.marks l.self l.list
