-- A byte joins the line, or is passed over.
use mathlib.Core.Path.{ap}
use mathlib.Core.List.{List, ◌++◌}
use Prim.Native.Nat.{ℕ, ◌≤◌}
use native.Mathlib.Omega.{arith}
use lib.ListN.{length}
use Rattle.std.proofs.lemmas.Grind.{common_steps}
use Rattle.listing.proofs.Lines.{passed_over}
use Rattle.listing.proofs.lister.Lister.keep.Goals as goal

pub returns-else-not-is_full : goal.returns-else-not-is_full
returns-else-not-is_full c unread =
    let l = c.args.self.now in
    let full : 82 ≤ length l.line.items = grind (arith, common_steps) in
    ap (λ (rest : List ℕ). l.waiting.items ++ rest) (passed_over l.number c.args.byte l.line.items unread l.unended c.requires full)
