-- An array that is made of a closure, called for each place in turn: where the closure stays as it is, each place has what it gives there.
-- Assumes nothing.
use mathlib.Core.Path.{◌≡◌, ap, sym, subst, ◌∙◌}
use mathlib.Core.List.{List, map}
use Prim.Native.Nat.{ℕ, zero, suc, ◌+◌, ◌≤◌, ◌<◌}
use native.Mathlib.Decide.{ℕ_discrete}
use native.Mathlib.Omega.{arith}
use denote.Param.Members.{Mut, Called}
use lib.ListN.{get_or}
use Rattle.std.specs.Array.{IsFromFnResult, IsFromFnResultFrom}
use Rattle.std.specs.List.{range_with_len}
use Rattle.std.proofs.lemmas.List.FromFn.{fill_by_all}

module _ {F X : Type 0} (g : Mut F (ℕ × Unit {0}) X) (f : ℕ → X) (d : X) (p : F) (so : (x : ℕ) (y : X) (q : F) → Called g p (x, tt) y q → (q ≡ p) × (y ≡ f x)) where
  from : (ys : List X) (i n : ℕ) → IsFromFnResultFrom g p ys i n → (k : ℕ) → i ≤ k → k < i + n → get_or ys k d ≡ f k
  from ys i zero w k a b = absurd (omega arith)
  from ys i (suc n) w k a b =
      let v = so i w.1 w.0 w.3 in
      elim (ℕ_discrete k i) [
        | yes e ↦ ap (λ j. get_or ys j d) e ∙ w.2.1 d ∙ v.1 ∙ ap f (sym e)
        | no u ↦ from ys (i + 1) n (subst (λ q. IsFromFnResultFrom g q ys (i + 1) n) v.0 w.4) k (omega arith) (omega arith)
      ]

  pub made_at : (ys : List X) (n : ℕ) → IsFromFnResult g p ys n → (k : ℕ) → k < n → get_or ys k d ≡ f k
  made_at ys n w k h = from ys 0 n w.each k (omega arith) (omega arith)

  pub made : (ys : List X) (n : ℕ) → IsFromFnResult g p ys n → ys ≡ map f (range_with_len 0 n)
  made ys n w = fill_by_all f ys n d w.long (made_at ys n w)
