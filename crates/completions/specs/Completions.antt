-- All legal completions of a grid, in byte order. The list is a definition: it is far too long to be computed.
use Rattle.std.specs.Prelude.{◌≡◌, ◌↔◌, Bool, true, false, ℕ, zero, suc, ◌<◌}
use mathlib.Core.List.{List, [], ◌∷◌, map, Memᴰ}
use Rattle.grid.specs.Grid.{byte}
use Rattle.grid.specs.Completion.{Legal, is_legal}
use Rattle.clauses.specs.Clauses.{range, over}

-- x before the others, where it is kept
abbrev pub keep_if : {A : Type 0} → Bool → A → List A → List A
keep_if true x xs = x ∷ xs
keep_if false x xs = xs

-- the entries that pass a test
unfoldable pub those : {A : Type 0} → (A → Bool) → List A → List A
those p [] = []
those p (x ∷ xs) = keep_if (p x) x (those p xs)

-- every way to fill n cells with digits 1 to 9
unfoldable pub fillings : ℕ → List (List ℕ)
fillings zero = [] ∷ []
fillings (suc n) = over (range 49 9) λ d. map (λ b. d ∷ b) (fillings n)

-- the legal completions of the grid g
unfoldable pub completions : List ℕ → List (List ℕ)
completions g = those (is_legal g) (fillings 81)

-- a comes before b in byte order: at the first place where they differ, it has the smaller byte
abbrev pub Before : List ℕ → List ℕ → Type 0
Before a b = (k : ℕ) × ((j : ℕ) → j < k → byte a j ≡ byte b j) × (byte a k < byte b k)

-- each entry comes before all that follow
abbrev pub Rising : List (List ℕ) → Type 0
Rising [] = Unit {0}
Rising (x ∷ xs) = ((y : List ℕ) → Memᴰ y xs → Before x y) × Rising xs

-- the list has just what P holds of, in byte order, and none twice
pub record InOrder (P : List ℕ → Type 0) (entries : List (List ℕ)) : Type 0 where
  pub rising : Rising entries
  pub members : (b : List ℕ) → Memᴰ b entries ↔ P b

-- the completions of every grid are just its legal completions, in byte order, and none twice
abbrev pub CompletionsInOrder : Type 0
CompletionsInOrder = (grid : List ℕ) → InOrder (Legal grid) (completions grid)
