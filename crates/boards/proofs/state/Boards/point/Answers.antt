-- In the other bands the cells of the columns are none of the digit. Its own word is written last.
use native.Mathlib.Omega.{arith}
use mathlib.Core.Path.{refl}
use Rattle.boards.proofs.Bits.{on_without}
use Rattle.boards.proofs.Writes.{write_last, write_other}
use Rattle.boards.proofs.state.Boards.point.Goals as goal

pub loop-k-preserved : goal.loop-k-preserved
loop-k-preserved c b f away =
    let d = c.args.digit in
    let j = c.args.band in
    let k = c.loop-k.k in
    let g = c.loop-k.invariant b f away in
    write_other c.loop-k.self.words b d k _ (omega arith) c.requires.0 (omega arith) d j g
    (λ n i h y. on_without _ c.args.columns i (omega (arith, c.ranges.columns)) (omega arith) (g.covered d k c.requires.0 (omega arith) n i h y)
    (away k i (omega arith) h (n refl) y))

pub returns : goal.returns
returns c b f covers away =
    write_last c.loop-k.self.words b c.args.digit c.args.band _ (omega arith) c.requires.0 c.requires.1 (c.loop-k.invariant b f away) covers
