-- Each look leaves less to do; with nothing left the marks are the unit closure.
use native.Mathlib.Omega.{arith}
use Rattle.closure.proofs.Marks.{decided_bounded}
use Rattle.propagation.specs.Steps.{state_left}
use Rattle.propagation.proofs.Looking.{stepped_more, clashes_back}
use Rattle.propagation.proofs.Closing.{comes_err, state_left_err, stepped_closes}
use Rattle.propagation.proofs.close.propagate.Goals as goal

pub look-requires : goal.look-requires
look-requires c = let v = c.loop-clause.invariant in (v.ready, v.struck, c.in-Some.ensures)

pub loop-clause-smaller : goal.loop-clause-smaller
loop-clause-smaller c = omega (arith, c.in_ok-look.ensures.1, c.look.new.state.counted, decided_bounded c.look.new.state.marks)

pub loop-clause-preserved : goal.loop-clause-preserved
loop-clause-preserved c = stepped_more c.args.set c.loop-clause.invariant c.in_ok-look.ensures.0

pub returns-in_err-look : goal.returns-in_err-look
returns-in_err-look c =
    let m = c.args.state.now.marks in
    comes_err (state_left c.look.new.state c.from_residual.result) (state_left_err c.look.new.state c.from_residual.result c.from_residual.ensures.0)
    (clashes_back c.args.set m c.loop-clause.state.marks c.loop-clause.invariant.follows c.in_err-look.ensures)

pub returns : goal.returns
returns c = stepped_closes c.args.set c.loop-clause.invariant c.in_default.ensures
