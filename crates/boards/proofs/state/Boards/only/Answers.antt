-- The words have no cells but those of the grid, so that what fits has its digits.
use mathlib.Core.Path.{◌≡◌, ap, sym, subst, ◌∙◌}
use Prim.Native.Nat.{◌+◌, ◌*◌, ◌/◌, ◌%◌}
use native.Mathlib.Omega.{arith}
use lib.ListN.{get_or}
use lib.Seq.{ext_get_or}
use Rattle.std.specs.Prelude.{Some}
use Rattle.std.specs.Cmp.Lexicographic.{same_text}
use Rattle.grid.specs.Grid.{byte}
use Rattle.boards.specs.Boards.{On, Has}
use Rattle.boards.proofs.Positions.{some_digit}
use Rattle.boards.proofs.state.Boards.only.Goals as goal

pub returns-then-eq : goal.returns-then-eq
returns-then-eq c b f =
    let grid = c.digits-grid.result in
    let same = same_text c.words_of.result c.args.self.now.words (sym c.if-eq.true ∙ c.eq.ensures) in
    ap Some (ext_get_or 0 grid b (omega (arith, f.legal.long)) (λ k h.
    let w = some_digit b f.legal (k / 27) (k % 27) (omega arith) (omega arith) in
    let there = f.covered w.0 (k / 27) w.1 (omega arith) (k % 27) (omega arith) w.2 in
    let e : 27 * (k / 27) + k % 27 ≡ k = omega arith in
    let here : Has grid w.0 (k / 27) (k % 27) =
    c.words_of.ensures w.0 (k / 27) (k % 27) w.1 (omega arith) (omega arith) (subst (λ ws. On (get_or ws (4 * w.0 + k / 27) 0) (k % 27)) (sym same) there) in
    sym (ap (byte grid) e) ∙ here ∙ sym w.2 ∙ ap (byte b) e))
