-- Each cell of the house that has a chosen digit in a grid that fits is counted.
use mathlib.Core.Path.{◌≡◌, subst}
use Prim.Native.Nat.{◌≤◌}
use native.Mathlib.Omega.{arith}
use borrow.Author.Tests.{ltb-true}
use Rattle.grid.specs.Counting.{total, tally}
use Rattle.grid.proofs.House.{cell_below}
use Rattle.boards.proofs.Crowds.{has_chosen, one_counted, none_counted, all_counted}
use Rattle.boards.proofs.state.Boards.is_confined.Goals.{then-digits_at-digits-ne0, else-digits_at-digits-ne0}
use Rattle.boards.proofs.state.Boards.is_confined.Goals as goal

pub loop-k-init : goal.loop-k-init
unfolding total
loop-k-init c = (omega arith, omega arith, λ b f. omega arith)

pub digits_at-requires : goal.digits_at-requires
digits_at-requires c =
    let h = cell_below c.args.house c.loop-k.k c.requires c.loop-k-test.true in
    (omega (arith, h, c.house_cell-cell.ensures), omega arith)

pub loop-k-preserved : goal.loop-k-preserved
loop-k-preserved c =
    let i = c.loop-k.invariant in
    elim c.if-digits_at-digits-ne0.branch [
      | then-digits_at-digits-ne0 w ↦ (
        omega arith,
        omega (arith, w.cells-is, i.1),
        λ b f. rw w.cells-is (one_counted c.args.digits b c.args.house c.requires c.loop-k.k c.loop-k.cells (i.2 b f)),
      )
      | else-digits_at-digits-ne0 w ↦ (
        omega arith,
        omega (arith, w.cells-is, i.1),
        λ b f. rw w.cells-is
            (none_counted c.args.digits b c.args.house c.requires c.args.self.now.words f c.loop-k.k c.house_cell-cell.result c.digits_at.result
            c.loop-k-test.true c.house_cell-cell.ensures c.digits_at.ensures w.if-digits_at-digits-ne0.false c.loop-k.cells (i.2 b f)),
      )
    ]

pub returns : goal.returns
returns c e b f =
    let k : c.loop-k.k ≡ 9 = omega (arith, c.loop-k.invariant.0, c.loop-k-test.false) in
    let m = subst (λ k. tally k (has_chosen c.args.digits b c.args.house) ≤ c.loop-k.cells) k (c.loop-k.invariant.2 b f) in
    omega (arith, m, ltb-true c.loop-k.cells c.count.result e, c.count.ensures, all_counted c.args.digits b c.args.house c.requires f.legal)
