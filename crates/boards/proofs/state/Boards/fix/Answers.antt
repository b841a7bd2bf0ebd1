-- Where another digit stands in the band, the digit does not: so that what goes is no cell of it. The digit's own word is put back.
use native.Mathlib.Omega.{arith}
use Rattle.boards.proofs.Bits.{on_without}
use Rattle.boards.proofs.Positions.{one_digit}
use Rattle.boards.proofs.Writes.{write_last, write_other}
use Rattle.boards.proofs.state.Boards.fix.Goals as goal

pub loop-e-preserved : goal.loop-e-preserved
loop-e-preserved c b f all =
    let d = c.args.digit in
    let j = c.args.band in
    let e = c.loop-e.e in
    let g = c.loop-e.invariant b f all in
    write_other c.loop-e.self.words b e j _ (omega arith) (omega arith) c.requires.1 d j g
    (λ n i h y. on_without _ c.args.cells i (omega (arith, c.ranges.cells)) (omega arith) (g.covered e j (omega arith) c.requires.1 n i h y)
    (λ o. n (one_digit b f.legal e d j i y (all i h o)) (omega arith)))

pub returns : goal.returns
returns c b f all =
    write_last c.loop-e.self.words b c.args.digit c.args.band _ (omega arith) c.requires.0 c.requires.1 (c.loop-e.invariant b f all)
    (f.covered c.args.digit c.args.band c.requires.0 c.requires.1)
