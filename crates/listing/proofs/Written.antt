-- Bytes that are written one by one at the start of a buffer with room for them stand there in their order, and what is past them stays.
-- Assumes nothing.
use mathlib.Core.Path.{◌≡◌, refl, ap, ◌∙◌}
use mathlib.Core.List.{List, [], ◌∷◌, ◌++◌}
use Prim.Native.Nat.{ℕ, suc, ◌≤◌}
use native.Mathlib.Omega.{arith}
use lib.ListN.{length, set, drop}
use Rattle.listing.specs.Listing.{written_at}

-- bytes written at the start of a buffer that has room for them
written_next : (at : ℕ) (bs out : List ℕ) (x : ℕ) → written_at (suc at) bs (x ∷ out) ≡ x ∷ written_at at bs out
unfolding written_at
written_next at [] out x = refl
written_next at (b ∷ bs) out x = written_next (suc at) bs (set out at b) x

pub written_copies : (bs out : List ℕ) → length bs ≤ length out → written_at 0 bs out ≡ bs ++ drop (length bs) out
unfolding written_at
written_copies [] out h = refl
written_copies (b ∷ bs) [] h = absurd (omega (arith, h))
written_copies (b ∷ bs) (x ∷ out) h = written_next 0 bs out b ∙ ap (λ l. b ∷ l) (written_copies bs out (omega (arith, h)))
