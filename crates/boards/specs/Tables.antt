-- The rules of four tables, each a test of an entry. Cell 9 r + k of a band is that in its row r and column k, third t of a row its columns 3 t to
-- 3 t + 2, and bit i of a word is for cell i.
use Rattle.std.specs.Prelude.{Bool, not, ◌&&◌, ◌||◌, ℕ, ◌+◌, ◌*◌, ◌/◌, ◌%◌, ◌^◌, eqb}
use Rattle.std.specs.Int.{bit_at}
use Rattle.grid.specs.Counting.{all}

-- bit i of n is set
abbrev pub on : ℕ → ℕ → Bool
on n i = eqb (bit_at n i) 1

-- a choice of a third in each row, in row r the digit r of x to the base 3
abbrev pub third : ℕ → ℕ → ℕ
third x r = x / 3 ^ r % 3

-- cell i is in one of the thirds of x
abbrev pub takes : ℕ → ℕ → Bool
takes x i = eqb (i % 9 / 3) (third x (i / 9))

-- they are a way through the band: no two of them are in one box
abbrev pub is_way : ℕ → Bool
is_way x =
    not (eqb (third x 0) (third x 1))
    && (not (eqb (third x 0) (third x 2)) && not (eqb (third x 1) (third x 2)))

-- the way is left: each of its thirds has a place, by bit 3 t + r of s for third t of row r
abbrev pub is_left : ℕ → ℕ → Bool
is_left s x =
    is_way x && (on s (3 * third x 0) && (on s (3 * third x 1 + 1) && on s (3 * third x 2 + 2)))

-- the cells of each way that is left are in the entry
abbrev pub some_way_rule : ℕ → ℕ → Bool
some_way_rule s cells = all 27 λ x. not (is_left s x) || all 27 λ i. not (takes x i) || on cells i

-- the cells of the entry are in each way that is left
abbrev pub every_way_rule : ℕ → ℕ → Bool
every_way_rule s cells = all 27 λ x. not (is_left s x) || all 27 λ i. not (on cells i) || takes x i

-- of the columns in the box of column k no other is among those of c
abbrev pub is_single : ℕ → ℕ → Bool
is_single c k = all 3 λ q. not (on c (3 * (k / 3) + q)) || eqb (3 * (k / 3) + q) k

-- the cells of the entry are in columns that are single
abbrev pub singles_rule : ℕ → ℕ → Bool
singles_rule c cells = all 27 λ i. not (on cells i) || is_single c (i % 9)

-- cells i and k share a row, a column or a box
abbrev pub share_house : ℕ → ℕ → Bool
share_house i k = eqb (i / 9) (k / 9) || (eqb (i % 9) (k % 9) || eqb (i % 9 / 3) (k % 9 / 3))

-- the entry has cell i, and all that share no house with it
abbrev pub placed_rule : ℕ → ℕ → Bool
placed_rule i cells = all 27 λ k. (not (eqb i k) && share_house i k) || on cells k
