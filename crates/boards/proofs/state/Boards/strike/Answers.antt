-- The cell that goes is not one of the digit.
use mathlib.Core.Path.{subst, ◌∙◌}
use native.Mathlib.Omega.{arith}
use mir.Syntax.{w32}
use Rattle.std.proofs.lemmas.Nat.Bits.{bit_at_clear_other}
use Rattle.boards.specs.Boards.{Has}
use Rattle.boards.proofs.Writes.{write}
use Rattle.boards.proofs.state.Boards.strike.Goals as goal

pub returns : goal.returns
returns c b f n =
    let p = c.args.p in
    write c.args.self.now.words b p.digit p.band _ (omega arith) p.digit_below p.band_below f
    (λ i k y. bit_at_clear_other w32 _ p.cell (omega (arith, p.cell_below)) i (omega arith)
    (λ e. n (subst (Has b p.digit p.band) e y)) ∙ f.covered p.digit p.band p.digit_below p.band_below i k y)
