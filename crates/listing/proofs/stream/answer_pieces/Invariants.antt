-- Nothing waits between two pieces, and what is written and what is to come after what is read are what was to come.
use Rattle.std.specs.Prelude.{◌≡◌, [], ◌++◌}
use Rattle.listing.specs.Stream.{Reads, Advances}
use Rattle.listing.specs.Lister.{to_come}
use Rattle.listing.proofs.stream.answer_pieces.Given as goal

abbrev pub invariant-reads : goal.invariant-reads
invariant-reads g l =
    record {
      empty : l.lister.waiting.items ≡ [];
      answered : Reads (g.R.Read.remaining l.fn.reader) (g.R.Read.remaining l.reader) (λ input.
          Advances (g.W.Write.contents l.fn.writer) (g.W.Write.contents l.writer) (λ unread. to_come l.fn.lister (input ++ unread)) (to_come l.lister));
    }
