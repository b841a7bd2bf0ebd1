-- What is left of the walk gives what the whole walk gives; each turn is one step of it.
use Prim.Native.Nat.{◌+◌, ◌-◌}
use native.Mathlib.Omega.{arith}
use lib.ListN.{length, drop}
use Rattle.std.proofs.lemmas.List.{take_all, length-drop}
use Rattle.std.proofs.lemmas.Result.{err_from_is_err_and}
use Rattle.pieces.proofs.Walking.{walking_begins, walking_ends, walking_refused, walking_on}
use Rattle.pieces.proofs.piece.walk.Goals as goal

pub loop-at-init : goal.loop-at-init
loop-at-init c = walking_begins c.args.file.now c.default-found.result c.default-found.ensures

pub returns-in_err-kind : goal.returns-in_err-kind
returns-in_err-kind c =
    let left = err_from_is_err_and c.from_residual.result c.from_residual.ensures.1 in
    rw (left.1, left.2) (walking_refused _ _ _ _ c.loop-at.invariant _ c.loop-at-test.true c.in_err-kind.ensures.value)

pub loop-at-preserved : goal.loop-at-preserved
loop-at-preserved c =
    let w = c.loop-at in
    let p = c.in_ok-kind in
    let left = drop (w.at + 4) c.args.file.now in
    rw (c.add.ensures, take_all (length c.args.file.now - (w.at + 4)) left (omega (arith, length-drop (w.at + 4) c.args.file.now)))
    (walking_on _ _ _ _ w.invariant p.field-0 c.loop-at-test.true (omega (arith, p.ensures.within.0)) p.ensures.value)

pub returns : goal.returns
returns c = walking_ends _ _ _ _ c.loop-at.invariant c.loop-at-test.false
