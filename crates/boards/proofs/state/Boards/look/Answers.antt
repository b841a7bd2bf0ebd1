-- The digit stands in the thirds of a way that the word leaves, so that the word is not without a cell; in the other bands it stands in no column that
-- is single in this one; and where a cell of such a column is in each way that is left, it stands there.
use mathlib.Core.List.{List}
use Prim.Native.Nat.{ℕ, ◌<◌, ◌+◌, ◌*◌}
use native.Mathlib.Omega.{arith}
use mathlib.Core.Path.{sym, subst}
use lib.ListN.{get_or}
use Rattle.std.specs.Prelude.{bit_and, IsTrue}
use Rattle.boards.specs.Tables.{some_way_rule}
use Rattle.boards.specs.Boards.{On, HasAll, Covers, Fits, IsThirds}
use Rattle.boards.proofs.Tests.{holds}
use Rattle.boards.proofs.Bits.{none_on, on_both, of_both}
use Rattle.boards.proofs.Positions.{in_row}
use Rattle.boards.proofs.Ways.{some_way_has, every_way_takes, pointed, alone}
use Rattle.boards.proofs.state.Boards.look.Goals.{then-alone-ne0, else-alone-ne0}
use Rattle.boards.proofs.state.Boards.look.Goals as goal

-- what is left has the cells of the digit
left_covers : (words b : List ℕ) (d j s cells : ℕ) → d < 9 → j < 3 → Fits words b → IsThirds (get_or words (4 * d + j) 0) s → IsTrue (some_way_rule s cells)
    → Covers b d j (bit_and (get_or words (4 * d + j) 0) cells)
left_covers words b d j s cells few band f thirds rule i h y =
    let word = get_or words (4 * d + j) 0 in
    on_both word cells i (f.covered d j few band i h y)
    (some_way_has b f.legal d j few band word s (f.covered d j few band) thirds cells (holds rule) i h y)

pub returns-then-left-eq0 : goal.returns-then-left-eq0
returns-then-left-eq0 c b f =
    let d = c.args.digit in
    let j = c.args.band in
    let w = in_row b f.legal d c.requires.0 j 0 c.requires.1 (omega arith) in
    let covers =
    left_covers c.args.self.now.words b d j c.thirds_of-thirds.result c.some_way.result c.requires.0 c.requires.1 f
    c.thirds_of-thirds.ensures c.some_way.ensures in
    none_on (9 * 0 + w.0) (subst (λ x. On x (9 * 0 + w.0)) c.if-left-eq0.true (covers (9 * 0 + w.0) (omega (arith, w.1)) w.2))

pub returns : goal.returns
returns c b f =
    let d = c.args.digit in
    let j = c.args.band in
    let few = c.requires.0 in
    let band = c.requires.1 in
    let word = get_or c.args.self.now.words (4 * d + j) 0 in
    let left = bit_and word c.some_way.result in
    let s = c.thirds_of-thirds.result in
    let covers : Covers b d j left = left_covers c.args.self.now.words b d j s c.some_way.result few band f c.thirds_of-thirds.ensures c.some_way.ensures in
    let g =
    c.point.ensures b f covers
    (pointed b f.legal d j few band left c.columns_of.result c.singles-single.result covers c.columns_of.ensures (holds c.singles-single.ensures)) in
    elim c.if-alone-ne0.branch [
      | then-alone-ne0 w ↦ (
          let there : HasAll b d j _ = λ i h y.
          let u = of_both (bit_and (bit_and left c.every_way.result) c.singles-single.result) _ i y in
          let v = of_both (bit_and left c.every_way.result) c.singles-single.result i u.0 in
          alone b f.legal d j few band left c.columns_of.result c.singles-single.result covers c.columns_of.ensures (holds c.singles-single.ensures) i h v.1
          (every_way_takes b f.legal d j few band word s (f.covered d j few band) c.thirds_of-thirds.ensures c.every_way.result
          (holds c.every_way.ensures) i h (of_both left c.every_way.result i v.0).1) in
          subst (λ x. Fits x.words b) (sym w.self-is) (w.fix.ensures b g there)
          )
      | else-alone-ne0 w ↦ subst (λ x. Fits x.words b) (sym w.self-is) g
    ]
