-- A legal completion keeps all givens and has each digit once in each house.
use Rattle.std.specs.Prelude.{◌≡◌, Bool, ◌&&◌, ◌||◌, not, List, ℕ, ◌+◌, ◌<◌, T, eqb, length, Result, Ok, Err}
use Rattle.grid.specs.Counting.{tally, all}
use Rattle.grid.specs.Grid.{byte, is_digit}
use Rattle.grid.specs.House.{cell_of}
use Rattle.grid.specs.Refusals.{on_accepted, grid_check}
use Rattle.grid.specs.declared.Refusal.{Refusal}

-- at how many cells of house h the digit d + 1 stands, d from 0 to 8
unfoldable pub times : List ℕ → ℕ → ℕ → ℕ
times b h d = tally 9 (λ k. eqb (byte b (cell_of h k)) (49 + d))

-- b is a legal completion of the grid g
pub record Legal (g b : List ℕ) : Type 0 where
  pub long : length b ≡ 81
  pub digits : (c : ℕ) → c < 81 → T (is_digit (byte b c))
  pub keeps : (c : ℕ) → c < 81 → T (is_digit (byte g c)) → byte b c ≡ byte g c
  pub once : (h d : ℕ) → h < 27 → d < 9 → times b h d ≡ 1

-- 81 digits
abbrev pub is_full : List ℕ → Bool
is_full b = eqb (length b) 81 && all 81 (λ c. is_digit (byte b c))

-- where the grid has a given, the same byte stands in b
abbrev pub keeps_givens : List ℕ → List ℕ → Bool
keeps_givens g b = all 81 (λ c. not (is_digit (byte g c)) || eqb (byte b c) (byte g c))

-- each digit stands once in each house
abbrev pub each_once : List ℕ → Bool
each_once b = all 27 (λ h. all 9 (λ d. eqb (times b h d) 1))

-- the same as a test
unfoldable pub is_legal : List ℕ → List ℕ → Bool
is_legal g b = is_full b && (keeps_givens g b && each_once b)

-- the test of a grid that was keyed: the keyer's check, then whether b is a legal completion
unfoldable pub completion_call : List ℕ → List ℕ → Result Bool Refusal
completion_call g b = on_accepted (grid_check g) Err λ u. Ok (is_legal g b)
