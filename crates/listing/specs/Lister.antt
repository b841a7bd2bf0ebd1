-- What a listing in the making has still to write.
use Rattle.std.specs.Prelude.{List, ◌++◌, ℕ}
use Rattle.listing.specs.declared.lister.Lister.{Lister}
use Rattle.listing.specs.Listing.{lines_of, listed_from}

-- the output that is still to come where `unread` is still to be read: what waits, the output line of the line that is begun, and those of the lines after it
abbrev pub to_come : Lister → List ℕ → List ℕ
to_come l unread = l.waiting.items ++ listed_from l.number (lines_of (l.line.items ++ unread))
