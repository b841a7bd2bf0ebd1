-- A rule of a table, shown at all of its entries by one test that is computed. The entries may be of any type, rows too.
-- Assumes nothing.
use mathlib.Core.Path.{◌≡◌, ◌∙◌, refl, subst, sym}
use mathlib.Core.Logic.{◌↔◌}
use mathlib.Core.Bool.{Bool, true, false, ◌&&◌, not}
use mathlib.Core.List.{List, [], ◌∷◌}
use Prim.Native.Nat.{ℕ, zero, suc, ◌+◌, ◌<◌}
use native.Mathlib.Nat.{add-zero, zero-add, add-suc, suc-add, le_of_suc-le-suc, not-suc-le-zero}
use lib.Dec.{T}
use lib.ListN.{length, get_or}

pub and_iff : (a b : Bool) → T (a && b) ↔ (T a × T b)
and_iff true b = ((λ x. (tt, x)), λ x. x.1)
and_iff false b = ((λ x. absurd x), λ x. x.0)

pub true_is : (b : Bool) → T b → b ≡ true
true_is true t = refl
true_is false t = absurd t

pub false_is : (b : Bool) → (T b → ⊥) → b ≡ false
false_is true n = absurd (n tt)
false_is false n = refl

pub not_fails : (b : Bool) → not b ≡ false → T b
not_fails true e = tt
not_fails false e = absurd (subst T e tt)

pub not_passes : (b : Bool) → not b ≡ true → T b → ⊥
not_passes true e t = subst T (sym e) tt
not_passes false e t = t

pub fails_not : (b : Bool) → T b → not b ≡ false
fails_not true t = refl
fails_not false t = absurd t

module _ {A : Type 0} where
  -- the test passes at each entry and its place, counted from i
  abbrev pub every : (ℕ → A → Bool) → ℕ → List A → Bool
  every f i [] = true
  every f i (x ∷ xs) = f i x && every f (suc i) xs

  from : (f : ℕ → A → Bool) (d : A) (xs : List A) (i : ℕ) → T (every f i xs) → (k : ℕ) → k < length xs → T (f (i + k) (get_or xs k d))
  from f d [] i t k h = absurd (not-suc-le-zero h)
  from f d (x ∷ xs) i t zero h = rw (add-zero i) ((and_iff (f i x) (every f (suc i) xs)).0 t).0
  from f d (x ∷ xs) i t (suc k) h =
      subst (λ m. T (f m (get_or xs k d))) (suc-add i k ∙ sym (add-suc i k))
      (from f d xs (suc i) ((and_iff (f i x) (every f (suc i) xs)).0 t).1 k (le_of_suc-le-suc h))

  pub at : (f : ℕ → A → Bool) (d : A) (xs : List A) → T (every f 0 xs) → (k : ℕ) → k < length xs → T (f k (get_or xs k d))
  at f d xs t k h = rw (zero-add k) at (from f d xs 0 t k h)
