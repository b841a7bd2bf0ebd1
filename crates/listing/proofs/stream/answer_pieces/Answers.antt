-- Each piece is answered before the next is read.
use mathlib.Core.List.{[], ◌++◌}
use lib.ListN.{take}
use Rattle.std.proofs.KnownBytes.{Consumes-trans}
use Rattle.std.proofs.lemmas.Result.{err_from_is_err_and}
use Rattle.listing.specs.Lister.{to_come}
use Rattle.listing.proofs.Steps.{front_alone, advances_front, piece_more, none_more}
use Rattle.listing.proofs.stream.answer_pieces.Goals as goal
use Rattle.listing.proofs.stream.answer_pieces.Goals.{in-Ok+in_ok-take_piece-in-Ok, in-Err}

pub returns-in_err-take_piece-in-Ok-clause-err : goal.returns-in_err-take_piece-in-Ok-clause-err
returns-in_err-take_piece-in-Ok-clause-err g c =
    let p = err_from_is_err_and c.from_residual.result c.from_residual.ensures.1 in
    let so_far = c.reads.invariant.answered in
    let piece = take c.in-Ok.n c.read.new.buf in
    let front = advances_front so_far.holds (piece ++ []) (c.in_err-take_piece-in-Ok.ensures.step []) in
    rw p.1 (record {
      input = so_far.input ++ piece;
      given = Consumes-trans _ _ _ _ _ so_far.given c.in-Ok.ensures.bytes.0;
      holds = front_alone (λ bs. to_come c.args.lister.now (so_far.input ++ bs)) piece front;
    })

pub reads-preserved : goal.reads-preserved
reads-preserved g c =
    let so_far = c.reads.invariant in
    record {
      empty = elim c.match-read.branch [
        | in-Ok+in_ok-take_piece-in-Ok w ↦ rw w.lister-is w.in_ok-take_piece-in-Ok.ensures.empty
        | in-Err w ↦ rw w.lister-is so_far.empty
      ];
      answered = elim c.match-read.branch [
        | in-Ok+in_ok-take_piece-in-Ok w ↦
            let piece = take w.in-Ok.n c.read.new.buf in
            let answered = w.in_ok-take_piece-in-Ok.ensures.step in
            rw (w.writer-is, w.lister-is) (piece_more (to_come c.args.lister.now) _ piece so_far.answered w.in-Ok.ensures.bytes.0 answered)
        | in-Err w ↦ rw (w.writer-is, w.lister-is) (none_more _ so_far.answered w.in-Err.ensures.bytes)
      ];
    }
