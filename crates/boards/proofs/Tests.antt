-- Tests that are joined.
-- Assumes nothing.
use mathlib.Core.Path.{◌≡◌, refl, sym, subst}
use mathlib.Core.Bool.{Bool, true, false, not, ◌&&◌, ◌||◌}
use Prim.Native.Nat.{ℕ}
use lib.Dec.{T, eqb, eqb→eq}

-- the test that passes, of two
pub by_test : {A : Type 0} → (x y : Bool) → T (x || y) → (T x → A) → (T y → A) → A
by_test true y t f g = f tt
by_test false y t f g = g t

-- of two tests the second, where the first asks for what holds
pub then : (x y : Bool) → T (not x || y) → T x → T y
then true y t u = t
then false y t u = absurd u

pub both : (x y : Bool) → T x → T y → T (x && y)
both true y t u = u
both false y t u = absurd t

pub differ : (x y : ℕ) → (x ≡ y → ⊥) → T (not (eqb x y))
differ x y n = go (eqb x y) refl
  where
    go : (b : Bool) → eqb x y ≡ b → T (not b)
    go true e = absurd (n (eqb→eq x y (subst T (sym e) tt)))
    go false e = tt

-- a test that is true holds
pub holds : {x : Bool} → x ≡ true → T x
holds e = subst T (sym e) tt
