-- The 81 bytes of a grid, row by row: `1` to `9` are givens, `0` and `.` are blanks.
use Rattle.std.specs.Prelude.{Bool, cond, ◌&&◌, ◌||◌, List, map, ℕ, ◌-◌, eqb, leb, get_or}

-- the byte of cell c, counted from 0 in reading order
abbrev pub byte : List ℕ → ℕ → ℕ
byte g c = get_or g c 0

-- `1` to `9`
unfoldable pub is_digit : ℕ → Bool
is_digit b = leb 49 b && leb b 57

-- `0` and `.`
unfoldable pub is_blank : ℕ → Bool
is_blank b = eqb b 48 || eqb b 46

-- a byte that may stand in a grid
unfoldable pub has_meaning : ℕ → Bool
has_meaning b = is_digit b || is_blank b

-- the digit that a byte gives, 0 for a blank
unfoldable pub digit_of : ℕ → ℕ
digit_of b = cond (is_digit b) (b - 48) 0

-- A grid is its digits: two that differ only in their signs for a blank are one.
abbrev pub digits_of : List ℕ → List ℕ
digits_of g = map digit_of g
