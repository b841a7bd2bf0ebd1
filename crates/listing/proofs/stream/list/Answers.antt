-- A reader that is at its end has given all that it had.
use Rattle.std.specs.Io.KnownBytes.{Appends}
use Rattle.std.proofs.KnownBytes.{Consumes-whole}
use Rattle.listing.specs.Listing.{listing}
use Rattle.listing.proofs.stream.list.Goals as goal

pub returns-in-Ok-Ok-clause-ok : goal.returns-in-Ok-Ok-clause-ok
returns-in-Ok-Ok-clause-ok g c =
    let all = c.in-Ok-Ok.ensures.ok in
    Consumes-whole _ _ all.input (λ input. Appends _ _ (listing input)) all.given (rw c.in-Ok-Ok.field-0-is at c.in-Ok-Ok.ensures.end) all.holds
