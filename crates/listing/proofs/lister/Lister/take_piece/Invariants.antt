-- What is written, and what is still to come after the rest of the piece, is what was to come after all of it.
use Rattle.std.specs.Prelude.{◌++◌, drop}
use Rattle.listing.specs.Stream.{Advances}
use Rattle.listing.specs.Lister.{to_come}
use Rattle.listing.proofs.lister.Lister.take_piece.Given as goal

abbrev pub invariant-loop-byte : goal.invariant-loop-byte
invariant-loop-byte g l =
    Advances (g.W.Write.contents l.fn.writer) (g.W.Write.contents l.writer)
    (λ unread. to_come l.fn.self (l.piece ++ unread)) (λ unread. to_come l.self (drop l.byte-index l.piece ++ unread))
