-- A grid that fits has one of the digits in the cell, so that there is one, and where there is only one it is this.
use mathlib.Core.Path.{subst}
use native.Mathlib.Omega.{arith}
use Rattle.boards.specs.Boards.{On, Has}
use Rattle.boards.proofs.Bits.{none_on, lone}
use Rattle.boards.proofs.Positions.{some_digit}
use Rattle.boards.proofs.state.Boards.look_at_cell.Goals as goal

pub returns-then-digits-eq0 : goal.returns-then-digits-eq0
returns-then-digits-eq0 c b f =
    let j = c.args.band in
    let i = c.args.cell in
    let w = some_digit b f.legal j i c.requires.0 c.requires.1 in
    none_on w.0 (subst (λ x. On x w.0) c.if-digits-eq0.true (c.digits_at-digits.ensures w.0 w.1 (f.covered w.0 j w.1 c.requires.0 i c.requires.1 w.2)))

pub returns-then-digits-d : goal.returns-then-digits-d
returns-then-digits-d c b f =
    let j = c.args.band in
    let i = c.args.cell in
    let w = some_digit b f.legal j i c.requires.0 c.requires.1 in
    let there = c.digits_at-digits.ensures w.0 w.1 (f.covered w.0 j w.1 c.requires.0 i c.requires.1 w.2) in
    c.place.ensures b f (subst (λ x. Has b x j i) (lone _ w.0 (omega (arith, c.if-d-lt9.true)) (subst (λ x. On x w.0) c.if-digits-d.true there)) w.2)
