use mathlib.Core.Path.{◌≡◌, sym, ap, ◌∙◌, subst}
use mathlib.Core.List.{List, ◌++◌}
use Prim.Native.Nat.{ℕ, ◌+◌, ◌-◌}
use native.Mathlib.Omega.{arith}
use lib.ListN.{length, take, drop}
use lib.Seq.{take-add}
use Rattle.std.specs.Io.KnownBytes.{Appends}
use Rattle.std.proofs.KnownBytes.{Appends-trans, Appends-kept}
use Rattle.std.proofs.lemmas.List.{take_rest}
use Rattle.listing.proofs.lister.write_all.Goals as goal
use Rattle.listing.proofs.lister.write_all.Goals.{in-Ok, in-Err}

-- n bytes more of the rest
next : (at n : ℕ) (bytes : List ℕ) → take (at + n) bytes ≡ take at bytes ++ take n (take (length bytes - at) (drop at bytes))
next at n bytes = take-add at n bytes ∙ ap (λ l. take at bytes ++ take n l) (sym (take_rest bytes at))

pub writes-preserved : goal.writes-preserved
writes-preserved g c =
    let bytes = c.args.bytes.now in
    let so_far = c.writes.invariant in
    record {
      within = elim c.match-write.branch [
        | in-Ok w ↦ omega (arith, w.written-is, w.in-Ok.ensures.bound)
        | in-Err w ↦ omega (arith, w.written-is)
      ];
      front = elim c.match-write.branch [
        | in-Ok w ↦
            let more = ap (λ k. take k bytes) w.written-is ∙ next c.writes.written w.in-Ok.n bytes in
            subst (Appends _ _) (sym more) (Appends-trans _ _ _ _ _ so_far.front w.in-Ok.ensures.bytes)
        | in-Err w ↦ subst (Appends _ _) (sym (ap (λ k. take k bytes) w.written-is)) (Appends-kept _ _ _ _ so_far.front w.in-Err.ensures.bytes)
      ];
    }
