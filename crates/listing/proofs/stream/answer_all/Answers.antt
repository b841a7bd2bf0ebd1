-- The header is written, then the answers to all pieces, then that to a last line with no newline.
use mathlib.Core.Path.{sym}
use mathlib.Core.List.{[]}
use Rattle.std.proofs.KnownBytes.{Consumes-nil}
use Rattle.std.proofs.lemmas.Result.{err_from_is_err_and}
use Rattle.listing.proofs.Steps.{stays, advances_then, advances_front, answered_all, answered_front}
use Rattle.listing.proofs.stream.answer_all.Goals as goal

pub returns-in_err-flush-clause-err : goal.returns-in_err-flush-clause-err
returns-in_err-flush-clause-err g c =
    let p = err_from_is_err_and c.from_residual.result c.from_residual.ensures.1 in
    rw p.1 (record { input = []; given = Consumes-nil _; holds = rw (← c.new-lister.ensures []) (c.in_err-flush.ensures.step []) })

pub returns-in_err-read-clause-err : goal.returns-in_err-read-clause-err
returns-in_err-read-clause-err g c =
    let p = err_from_is_err_and c.from_residual-in_err-read.result c.from_residual-in_err-read.ensures.1 in
    let begun = advances_then (stays _ (λ unread. sym (c.new-lister.ensures unread))) c.in_ok-flush.ensures.step in
    let over = c.in_err-read.ensures.err in
    rw p.1 (record { input = over.input; given = over.given; holds = advances_front begun over.input over.holds })

pub returns-in_err-finish-clause-err : goal.returns-in_err-finish-clause-err
returns-in_err-finish-clause-err g c =
    let p = err_from_is_err_and c.from_residual-in_err-finish.result c.from_residual-in_err-finish.ensures.1 in
    let begun = advances_then (stays _ (λ unread. sym (c.new-lister.ensures unread))) c.in_ok-flush.ensures.step in
    rw p.1 (answered_front begun c.in_ok-read.ensures.ok c.in_err-finish.ensures.err)

pub returns-clause-ok : goal.returns-clause-ok
returns-clause-ok g c =
    let begun = advances_then (stays _ (λ unread. sym (c.new-lister.ensures unread))) c.in_ok-flush.ensures.step in
    answered_all begun c.in_ok-read.ensures.ok _ c.in_ok-finish.ensures.ok
