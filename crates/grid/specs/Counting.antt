-- Counting, testing and finding among the numbers below a bound.
use Rattle.std.specs.Prelude.{Bool, true, false, cond, ◌&&◌, ℕ, zero, suc, ◌+◌}

-- 1 for true, 0 for false
abbrev pub tick : Bool → ℕ
tick true = 1
tick false = 0

-- f 0 + f 1 + .. + f (n - 1)
unfoldable pub total : ℕ → (ℕ → ℕ) → ℕ
total zero f = 0
total (suc n) f = f n + total n f

-- how many of the numbers below n pass the test
abbrev pub tally : ℕ → (ℕ → Bool) → ℕ
tally n p = total n (λ k. tick (p k))

-- every number below n passes the test
unfoldable pub all : ℕ → (ℕ → Bool) → Bool
all zero p = true
all (suc n) p = p n && all n p

-- the least number that passes, of n numbers from a on, or the number after them
unfoldable pub least_from : ℕ → ℕ → (ℕ → Bool) → ℕ
least_from a zero p = a
least_from a (suc n) p = cond (p a) a (least_from (suc a) n p)
