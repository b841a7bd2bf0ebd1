-- Marks: the state of a job, a byte for each variable, 0 undecided, 1 true, 2 false. They stand for the set of literals that are marked.
use Rattle.std.specs.Prelude.{◌≡◌, Bool, false, ◌||◌, List, [], ◌∷◌, ℕ, zero, suc, ◌+◌, ◌≤◌, eqb, ℤ, pos, negsuc, neg_ℤ, length, get_or, replicate}
use Rattle.grid.specs.Counting.{tick}

-- the literal is marked
unfoldable pub has : List ℕ → ℤ → Bool
has m (pos zero) = false
has m (pos (suc k)) = eqb (get_or m k 0) 1
has m (negsuc k) = eqb (get_or m k 0) 2

-- the variable of the literal is decided
abbrev pub is_decided : List ℕ → ℤ → Bool
is_decided m l = has m l || has m (neg_ℤ l)

-- b at place k; a list that ends before it is filled up with zeros
unfoldable pub put : List ℕ → ℕ → ℕ → List ℕ
put [] zero b = b ∷ []
put [] (suc k) b = 0 ∷ put [] k b
put (x ∷ m) zero b = b ∷ m
put (x ∷ m) (suc k) b = x ∷ put m k b

-- the state with one literal more
unfoldable pub mark : List ℕ → ℤ → List ℕ
mark m (pos zero) = m
mark m (pos (suc k)) = put m k 1
mark m (negsuc k) = put m k 2

-- how many of the first n marks decide a variable
unfoldable pub decided_in : ℕ → List ℕ → ℕ
decided_in zero m = 0
decided_in (suc n) [] = 0
decided_in (suc n) (b ∷ m) = tick (eqb b 1 || eqb b 2) + decided_in n m

-- the number decided
abbrev pub decided : List ℕ → ℕ
decided m = decided_in 729 m

-- no variable is decided
abbrev pub blank : List ℕ
blank = replicate 729 0

-- 729 marks
pub record IsMarks (m : List ℕ) : Type 0 where
  pub long : length m ≡ 729
  pub small : (k : ℕ) → get_or m k 0 ≤ 2
