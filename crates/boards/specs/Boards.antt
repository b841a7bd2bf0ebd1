-- What boards say of full grids. A band is three rows, a word has a bit for each of its 27 cells.
use Rattle.std.specs.Prelude.{◌≡◌, List, [], ℕ, ◌+◌, ◌*◌, ◌/◌, ◌%◌, ◌<◌, get_or, Option, Some, Result, Ok, Err}
use Rattle.std.specs.Int.{bit_at}
use Rattle.grid.specs.Grid.{byte}
use Rattle.grid.specs.Completion.{Legal}
use Rattle.boards.specs.declared.state.Clash.{Clash}

-- bit i of n is set
abbrev pub On : ℕ → ℕ → Type 0
On n i = bit_at n i ≡ 1

-- the full grid b has a digit in a cell of a band; digits are counted from 0, as bands and cells are
abbrev pub Has : List ℕ → ℕ → ℕ → ℕ → Type 0
Has b digit band cell = byte b (27 * band + cell) ≡ 49 + digit

-- among the cells of a word are all of a band in which b has the digit
abbrev pub Covers : List ℕ → ℕ → ℕ → ℕ → Type 0
Covers b digit band word = (cell : ℕ) → cell < 27 → Has b digit band cell → On word cell

-- b has the digit in each of these cells of the band
abbrev pub HasAll : List ℕ → ℕ → ℕ → ℕ → Type 0
HasAll b digit band cells = (cell : ℕ) → cell < 27 → On cells cell → Has b digit band cell

-- in the other bands b has the digit in none of these cells
abbrev pub Pointed : List ℕ → ℕ → ℕ → ℕ → Type 0
Pointed b digit band cells =
    (other cell : ℕ) → other < 3 → cell < 27 → ¬ (other ≡ band) → Has b digit other cell
    → ¬ On cells cell

-- the word of a digit in a band
abbrev pub word_of : List ℕ → ℕ → ℕ → ℕ
word_of words digit band = get_or words (4 * digit + band) 0

-- A legal full grid b fits the words of boards: each of its digits may stand where it does.
pub record Fits (words b : List ℕ) : Type 0 where
  pub legal : Legal [] b
  pub covered : (digit band : ℕ) → digit < 9 → band < 3 → Covers b digit band (word_of words digit band)

-- what fits still fits
abbrev pub Keeps : List ℕ → List ℕ → Type 0
Keeps old new = (b : List ℕ) → Fits old b → Fits new b

-- nothing fits
abbrev pub Empty : List ℕ → Type 0
Empty words = (b : List ℕ) → Fits words b → ⊥

-- A step loses nothing that fits, and clashes only where nothing does.
abbrev pub StepsTo : List ℕ → List ℕ → Result (Unit {0}) Clash → Type 0
StepsTo old new (Ok u) = Keeps old new
StepsTo old new (Err clash) = Empty old

-- the words of the digits have no others than the full grid r, or than none
abbrev pub Only : List ℕ → Option (List ℕ) → Type 0
Only words r = (b : List ℕ) → Fits words b → r ≡ Some b

-- s has bit 3 t + r for third t of row r, where the word has a cell of it
pub record IsThirds (word s : ℕ) : Type 0 where
  pub below : s < 512
  pub marked : (i : ℕ) → i < 27 → On word i → On s (3 * (i % 9 / 3) + i / 9)

-- c has bit k for column k, where the word has a cell of it
pub record IsColumns (word c : ℕ) : Type 0 where
  pub below : c < 512
  pub marked : (i : ℕ) → i < 27 → On word i → On c (i % 9)
