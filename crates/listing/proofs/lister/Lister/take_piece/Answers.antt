-- Each byte is a step, and what waits after the last is written.
use Rattle.std.proofs.lemmas.Result.{err_from_is_err_and}
use Rattle.listing.specs.Lister.{to_come}
use Rattle.listing.proofs.Steps.{steps_then, advances_then, advances_front, next_byte, next_front, no_more}
use Rattle.listing.proofs.lister.Lister.take_piece.Goals as goal

pub returns-in_err-take_byte-clause-step : goal.returns-in_err-take_byte-clause-step
returns-in_err-take_byte-clause-step g c =
    let l = c.loop-byte in
    let front = next_front (to_come l.self) c.args.piece.now l.byte-index c.loop-byte-test.true c.in_err-take_byte.ensures in
    let p = err_from_is_err_and c.from_residual.result c.from_residual.ensures.1 in
    rw p.1 (λ unread. advances_front l.invariant unread (front unread))

pub loop-byte-preserved : goal.loop-byte-preserved
loop-byte-preserved g c =
    let l = c.loop-byte in
    let next = next_byte (to_come l.self) (to_come c.take_byte.new.self) c.args.piece.now l.byte-index c.loop-byte-test.true c.in_ok-take_byte.ensures in
    advances_then l.invariant next

pub returns-clause-step : goal.returns-clause-step
returns-clause-step g c =
    let l = c.loop-byte in
    let all = no_more (to_come l.self) c.args.piece.now l.byte-index c.loop-byte-test.false l.invariant in
    steps_then _ (to_come c.flush.new.self) c.flush.result all c.flush.ensures.step
