-- What is found in a list of completions and in what comes after it: a law for each case, whether none, one or several are found in the list. After
-- several, the others change nothing.
-- Assumes nothing.
use mathlib.Core.Path.{◌≡◌, refl, sym}
use mathlib.Core.Bool.{true}
use mathlib.Core.List.{List, [], ◌∷◌, ◌++◌}
use Prim.Native.Nat.{ℕ}
use lib.Dec.{eqb}
use Rattle.exploration.specs.Search.{found_of, count_of}
use Rattle.exploration.specs.declared.Found.{Found}
use Rattle.exploration.specs.declared.Found.TheVariants.{Nothing, One, Several}

-- one after none, and after one
pub one_first : (a : List (List ℕ)) (x : List ℕ) → found_of a ≡ Nothing → found_of (a ++ x ∷ []) ≡ One x
unfolding found_of
one_first [] x e = refl
one_first (v ∷ []) x e = cc
one_first (v ∷ w ∷ a) x e = cc

pub one_second : (a : List (List ℕ)) (v x : List ℕ) → found_of a ≡ One v → found_of (a ++ x ∷ []) ≡ Several v x
unfolding found_of
one_second [] v x e = cc
one_second (u ∷ []) v x e = cc
one_second (u ∷ w ∷ a) v x e = cc

-- after two no more counts
pub several_first : (a b : List (List ℕ)) (x y : List ℕ) → found_of a ≡ Several x y → found_of (a ++ b) ≡ Several x y
unfolding found_of
several_first [] b x y e = cc
several_first (v ∷ []) b x y e = cc
several_first (v ∷ w ∷ a) b x y e = cc

pub enough : (a b : List (List ℕ)) (f : Found) → f ≡ found_of a → eqb (count_of f) 2 ≡ true → f ≡ found_of (a ++ b)
enough a b Nothing p e = cc
enough a b (One x) p e = cc
enough a b (Several x y) p e = sym (several_first a b x y (sym p))
