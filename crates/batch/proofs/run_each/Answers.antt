-- The parts before the i-th are filled; the i-th job fills its own.
use mathlib.Core.Path.{ap, ◌∙◌}
use Prim.Native.Nat.{◌+◌, ◌*◌, ◌≤◌}
use native.Mathlib.Omega.{arith}
use lib.ListN.{length, take, drop, length-take, length-drop}
use lib.Seq.{take_all}
use Rattle.batch.specs.Call.{grids_in}
use Rattle.batch.proofs.Jobs.{sum_is}
use Rattle.batch.proofs.Rows.{none_done, marks_length, numbers_length, one_more, all_done}
use Rattle.batch.proofs.run_each.Goals as goal

pub loop-i-init : goal.loop-i-init
loop-i-init c =
    let l = c.requires in
    (l.marks_long, l.numbers_long, none_done)

pub run_one-made-requires : goal.run_one-made-requires
run_one-made-requires c =
    let i = c.loop-i.i in
    let few : i + 1 ≤ grids_in (length c.args.grids.now) = omega (arith, c.loop-i-test.true) in (
      omega (arith, c.loop-i.invariant.2.made_is, (sum_is c.args.technique c.args.order.now.entries.now c.args.grids.now c.args.ceiling i).1),
      simp (length-take, length-drop) (omega (arith, few, c.loop-i.invariant.0)),
      simp (length-take, length-drop) (omega (arith, few, c.loop-i.invariant.1)),
    )

pub loop-i-preserved : goal.loop-i-preserved
loop-i-preserved c =
    let i = c.loop-i.i in
    let n = grids_in (length c.args.grids.now) in
    let few : i + 1 ≤ n = omega (arith, c.loop-i-test.true) in
    let after = take_all _ (drop (81 * i) c.args.grids.now) (omega (arith, length-drop (81 * i) c.args.grids.now)) in
    let grid = (rw c.unwrap.ensures at c.first_chunk.ensures.cases).same ∙ ap (take 81) after in
    let u = one_more c.loop-i.invariant.2 c.run_one-made.new.marks c.run_one-made.new.numbers c.run_one-made.result (rw grid at c.run_one-made.ensures) in (
      marks_length u n few c.requires.marks_long,
      numbers_length u n few c.requires.numbers_long,
      u,
    )

pub returns : goal.returns
returns c =
    all_done c.loop-i.invariant.2 (grids_in (length c.args.grids.now)) (omega arith) c.requires.marks_long c.requires.numbers_long
