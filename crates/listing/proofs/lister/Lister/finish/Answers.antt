-- The end of the input ends a line that is begun, as a newline does.
use mathlib.Core.Path.{◌≡◌, refl, ap, sym, ◌∙◌, subst}
use mathlib.Core.List.{List, [], ◌∷◌, ◌++◌}
use Prim.Native.Nat.{ℕ, ◌<◌}
use native.Mathlib.Omega.{arith}
use lib.ListN.{length}
use Rattle.std.specs.Io.KnownBytes.{Appends}
use Rattle.std.proofs.KnownBytes.{Appends-nil}
use Rattle.std.proofs.lemmas.Grind.{common_steps}
use Rattle.std.proofs.lemmas.List.{append-nil}
use Rattle.std.proofs.lemmas.Result.{on_ok_weaker, on_err_weaker}
use Rattle.listing.specs.Stream.{AppendsFront}
use Rattle.listing.specs.Lister.{to_come}
use Rattle.listing.specs.Listing.{lines_of, listed_from}
use Rattle.listing.specs.declared.lister.Lister.{Lister}
use Rattle.listing.proofs.Lines.{lines_last}
use Rattle.listing.proofs.lister.Lister.finish.Goals as goal

-- what waits when the line is ended is all that is to come
due : (l l' : Lister) → 0 < length l.line.items → ((unread : List ℕ) → to_come l (10 ∷ unread) ≡ to_come l' unread) → l'.line.items ≡ []
    → l'.waiting.items ≡ to_come l []
unfolding lines_of listed_from
due l l' long ended begun =
    let last = ap (λ ls. l.waiting.items ++ listed_from l.number ls) (lines_last l.line.items long l.unended) in
    sym (last ∙ ended [] ∙ rw begun (append-nil l'.waiting.items))

pub returns-then-is_empty-clause-ok : goal.returns-then-is_empty-clause-ok
unfolding lines_of listed_from
returns-then-is_empty-clause-ok g c =
    let l = c.args.self.now in
    let empty : l.line.items ≡ [] = grind (arith, common_steps) in
    let none : to_come l [] ≡ [] = rw (c.requires, empty) refl in
    subst (Appends _ _) (sym none) (Appends-nil _)

pub returns-clause-ok : goal.returns-clause-ok
returns-clause-ok g c =
    let long : 0 < length c.args.self.now.line.items = grind (arith, common_steps) in
    let all = due c.args.self.now c.end_line.new.self long c.end_line.ensures.listed c.end_line.ensures.begun in
    on_ok_weaker c.write_all.result (subst (Appends _ _) (c.deref.ensures.0 ∙ all)) c.write_all.ensures.ok

pub returns-clause-err : goal.returns-clause-err
returns-clause-err g c =
    let long : 0 < length c.args.self.now.line.items = grind (arith, common_steps) in
    let all = due c.args.self.now c.end_line.new.self long c.end_line.ensures.listed c.end_line.ensures.begun in
    on_err_weaker c.write_all.result (subst (AppendsFront _ _) (c.deref.ensures.0 ∙ all)) c.write_all.ensures.err
