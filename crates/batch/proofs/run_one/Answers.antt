-- The job's count is within what is left of the ceiling, and its part is filled.
use mathlib.Core.Path.{◌≡◌}
use lib.ListN.{length}
use Prim.Native.Nat.{◌-◌}
use native.Mathlib.Omega.{arith}
use borrow.Author.Rules.{rules}
use Rattle.batch.proofs.Parts.{within, filled}
use Rattle.batch.proofs.run_one.Goals as goal

pub overflow_add-result : goal.overflow_add-result
overflow_add-result c =
    let r = c.run-ended in
    let a = c.args in
    omega (arith, c.ranges.ceiling, c.requires.0, within a.technique a.order.now.entries.now a.grid.now (a.ceiling - a.made) r.result.end r.result.marks r.ensures _ _ c.finish-end.ensures)

pub returns : goal.returns
returns c =
    let r = c.run-ended in
    let a = c.args in
    let long : length c.finish-end.new.marks ≡ 729 = search rules in
    rw c.number.ensures
    (filled a.technique a.order.now.entries.now a.grid.now (a.ceiling - a.made) r.result.end r.result.marks r.ensures _ _ c.finish-end.ensures a.numbers.now long c.requires.2 a.made)
