-- Where a literal stands in a table of the numbers from −729 on.
use Rattle.std.specs.Prelude.{ℕ, ◌+◌, ◌-◌, ℤ, pos, negsuc}

-- 0 would stand at 729
abbrev pub table_place : ℤ → ℕ
table_place (pos v) = 729 + v
table_place (negsuc k) = 728 - k
