-- The newline ends the line, and its output line waits.
use mathlib.Core.Path.{◌≡◌, ap}
use mathlib.Core.List.{List, ◌++◌, append_assoc}
use Prim.Native.Nat.{ℕ, ◌<◌, ◌^◌}
use native.Mathlib.Omega.{arith}
use Rattle.std.proofs.Common.{rules}
use Rattle.listing.specs.Listing.{listed}
use Rattle.listing.proofs.Lines.{listed_ended}
use Rattle.listing.proofs.lister.Lister.end_line.Goals as goal

pub returns-clause-listed : goal.returns-clause-listed
returns-clause-listed c unread =
    let l = c.args.self.now in
    let waits : c.try_extend_from_slice.new.self.items ≡ l.waiting.items ++ listed l.number l.line.items = search rules in
    let fits : l.number < 2 ^ 64 = omega arith in
    rw (c.clear.ensures, waits, c.saturating_add-self.ensures, append_assoc)
    (ap (λ (rest : List ℕ). l.waiting.items ++ rest) (listed_ended l.number l.line.items unread l.unended fits))
