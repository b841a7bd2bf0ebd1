-- The search: what it finds, and what it knows on the way.
use Rattle.std.specs.Prelude.{◌+◌, ◌≡◌, not, List, [], ◌∷◌, ◌++◌, ℕ, ◌≤◌, ◌<◌, replicate, T, IsTrue, Bool, Option, Some, MatchOption, ◌↔◌}
use Rattle.grid.specs.Counting.{tally}
use Rattle.grid.specs.Grid.{byte, is_digit}
use Rattle.grid.specs.Completion.{Legal}
use Rattle.boards.specs.Boards.{On, Has, Fits}
use Rattle.exploration.specs.declared.Found.{Found}
use Rattle.exploration.specs.declared.Open.{Open}
use Rattle.exploration.specs.declared.Found.TheVariants.{Nothing, One, Several}

-- 81 zero bytes: what stands for no completion
abbrev pub zeros : List ℕ
zeros = replicate 81 0

-- what a search finds of a list of completions: none, the one, or the first two of several
unfoldable pub found_of : List (List ℕ) → Found
found_of [] = Nothing
found_of (b ∷ []) = One b
found_of (a ∷ b ∷ bs) = Several a b

-- how many are found, as far as 2,
abbrev pub count_of : Found → ℕ
count_of Nothing = 0
count_of (One a) = 1
count_of (Several a b) = 2

-- the smallest,
abbrev pub first_of : Found → List ℕ
first_of Nothing = zeros
first_of (One a) = a
first_of (Several a b) = a

-- and the second
abbrev pub second_of : Found → List ℕ
second_of Nothing = zeros
second_of (One a) = zeros
second_of (Several a b) = b

-- so much more is found: after the completions of one list those of another
abbrev pub Adds : Found → Found → List (List ℕ) → Type 0
Adds old new more =
    (before : List (List ℕ)) → old ≡ found_of before → new ≡ found_of (before ++ more)

-- a cell with no digit is open
abbrev pub is_open : List ℕ → ℕ → Bool
is_open g cell = not (is_digit (byte g cell))

-- the number of open cells
unfoldable pub open_cells : List ℕ → ℕ
open_cells g = tally 81 (is_open g)

-- the cells before a cell all have digits
abbrev pub ClosedBefore : List ℕ → ℕ → Type 0
ClosedBefore g cell = (k : ℕ) → k < cell → T (is_digit (byte g k))

-- the next digit of some that are given by bits, from one on, or 9: none is passed over
pub record NextDigit (digits from r : ℕ) : Type 0 where
  pub low : from ≤ r
  pub high : r ≤ 9
  pub passed : (d : ℕ) → from ≤ d → d < r → On digits d → ⊥

-- What is known of a grid's completions: they fit the boards, and where one grid is named, none is another.
pub record Bounds (only : Option (List ℕ)) (words g : List ℕ) : Type 0 where
  pub fits : (b : List ℕ) → Legal g b → Fits words b
  pub single : (b grid : List ℕ) → Legal g b → only ≡ Some grid → grid ≡ b

-- Among the digits are all that a completion has in a cell.
abbrev pub MayHave : List ℕ → ℕ → ℕ → Type 0
MayHave g cell digits =
    (b : List ℕ) (d : ℕ) → Legal g b → d < 9 → byte b cell ≡ 49 + d → On digits d

-- Cells have got their digits, and no completion is lost. Either no cell is open then, or this is the first open cell.
pub record Fills (old new : List ℕ) (r : Option Open) : Type 0 where
  pub legal : (b : List ℕ) → Legal old b ↔ Legal new b
  pub fewer : open_cells new ≤ open_cells old
  pub first :
      MatchOption r (ClosedBefore new 81)
      (λ x. (x.cell < 81) × T (is_open new x.cell)
      × ClosedBefore new x.cell × MayHave new x.cell x.digits)

-- What fits and has the digit in the cell fits then, and its branch is entered.
abbrev pub Enters : List ℕ → List ℕ → ℕ → ℕ → ℕ → Bool → Type 0
Enters old new digit band cell entered =
    (b : List ℕ) → Fits old b → Has b digit band cell → IsTrue entered × Fits new b
