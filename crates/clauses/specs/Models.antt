-- Truth of the 729 variables, models of a clause set with a grid's givens, and their correspondence with legal completions.
use Rattle.std.specs.Prelude.{◌≡◌, Bool, true, false, not, ℕ, zero, suc, ◌+◌, ◌*◌, ◌-◌, ◌/◌, ◌%◌, ◌≤◌, T, eqb, ℤ, pos, negsuc}
use mathlib.Core.List.{List, [], ◌∷◌, Memᴰ}
use Rattle.grid.specs.Grid.{byte, is_digit, digit_of}
use Rattle.grid.specs.Completion.{Legal}
use Rattle.clauses.specs.Clauses.{Clause, range, over, clauses_of}
use Rattle.clauses.specs.declared.ClauseSet.{ClauseSet}

-- which variables are true
abbrev pub Truth : Type 0
Truth = ℕ → Bool

-- a literal under a truth of the variables
abbrev pub holds : Truth → ℤ → Bool
holds A (pos zero) = false
holds A (pos (suc k)) = A (suc k)
holds A (negsuc k) = not (A (suc k))

-- some literal of the clause is true
abbrev pub Satisfies : Truth → Clause → Type 0
Satisfies A c = (l : ℤ) × Memᴰ l c × T (holds A l)

-- the literal of a cell's byte, where it is a given
abbrev pub given_at : Bool → ℕ → ℕ → List ℤ
given_at true c z = pos (9 * c + z) ∷ []
given_at false c z = []

-- the givens of a grid as literals, in reading order
unfoldable pub givens : List ℕ → List ℤ
givens g = over (range 0 81) λ c. given_at (is_digit (byte g c)) c (digit_of (byte g c))

-- a model of a clause set and of a grid's givens
pub record Model (s : ClauseSet) (g : List ℕ) (A : Truth) : Type 0 where
  pub clauses : (c : Clause) → Memᴰ c (clauses_of s) → Satisfies A c
  pub keeps : (l : ℤ) → Memᴰ l (givens g) → T (holds A l)

-- the truth that 81 digits say: variable 9 c + z is true where cell c, counted from 0, holds z
unfoldable pub truth_of : List ℕ → Truth
truth_of b v = eqb (byte b ((v - 1) / 9)) (49 + (v - 1) % 9)

-- the greatest number below n that passes, or 0
unfoldable pub pick : ℕ → (ℕ → Bool) → ℕ
pick zero p = 0
pick (suc n) p = elim (p n) [ true ↦ n | false ↦ pick n p ]

-- f of each of n numbers from a on
unfoldable pub table : ℕ → ℕ → (ℕ → ℕ) → List ℕ
table a zero f = []
table a (suc n) f = f a ∷ table (suc a) n f

-- the 81 digits that a truth says: in each cell the digit whose variable is true
unfoldable pub completion_of : Truth → List ℕ
completion_of A = table 0 81 (λ c. 49 + pick 9 (λ d. A (9 * c + d + 1)))

-- The models are precisely the legal completions: each completion is the truth of a model, each model says a legal completion, and
-- there and back again is the same 81 digits, and the same truth of all 729 variables.
pub record Precisely (s : ClauseSet) (g : List ℕ) : Type 0 where
  pub models : (b : List ℕ) → Legal g b → Model s g (truth_of b)
  pub completions : (A : Truth) → Model s g A → Legal g (completion_of A)
  pub same_digits : (b : List ℕ) → Legal g b → completion_of (truth_of b) ≡ b
  pub same_truth : (A : Truth) → Model s g A → (v : ℕ) → 1 ≤ v → v ≤ 729 → truth_of (completion_of A) v ≡ A v

-- so of either clause set and of every grid
abbrev pub ModelsAreCompletions : Type 0
ModelsAreCompletions = (s : ClauseSet) (g : List ℕ) → Precisely s g
