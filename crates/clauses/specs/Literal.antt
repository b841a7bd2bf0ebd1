-- Literals as signed numbers: +v is `pos v` and −v is `negsuc (v - 1)`, v from 1 to 729.
use Rattle.std.specs.Prelude.{Bool, cond, ◌&&◌, ℕ, zero, suc, ◌-◌, ◌<◌, leb, ℤ, pos, negsuc, nat_abs, neg_ℤ}

-- what a literal is; 0 is none
abbrev pub Literal : ℤ → Type 0
Literal (pos zero) = ⊥
Literal (pos (suc k)) = k < 729
Literal (negsuc k) = k < 729

-- the same as a test of its magnitude
unfoldable pub is_literal : ℤ → Bool
is_literal l = leb 1 (nat_abs l) && leb (nat_abs l) 729

-- the negation of a literal; 0 for what is none
unfoldable pub negation : ℤ → ℤ
negation l = cond (is_literal l) (neg_ℤ l) (pos 0)

-- the place of its variable's mark, counted from 0
abbrev pub mark_index : ℤ → ℕ
mark_index l = nat_abs l - 1
