-- Little-endian numbers.
use Rattle.std.specs.Prelude.{cond, List, ℕ, ◌+◌, ◌*◌, ◌-◌, ltb, ℤ, pos, negsuc}
use Rattle.grid.specs.Grid.{byte}

-- the number of the two bytes at a place
abbrev pub word_at : List ℕ → ℕ → ℕ
word_at f p = byte f p + 256 * byte f (p + 1)

-- the number of the four bytes at a place
abbrev pub double_at : List ℕ → ℕ → ℕ
double_at f p = word_at f p + 65536 * word_at f (p + 2)

-- the two's complement number of 16 bits: from 32,768 on, 65,536 less
unfoldable pub signed_of : ℕ → ℤ
signed_of n = cond (ltb n 32768) (pos n) (negsuc (65535 - n))
