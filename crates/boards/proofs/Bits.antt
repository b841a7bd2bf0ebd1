-- Bits that are set.
-- Assumes nothing.
use mathlib.Core.Path.{◌≡◌, ap, ◌∙◌}
use mathlib.Core.Logic.{◌⊎◌, inl, inr, ⊎_elim}
use Prim.Native.Nat.{ℕ, ◌+◌, ◌-◌, ◌*◌, ◌/◌, ◌%◌, ◌^◌, ◌<◌}
use native.Mathlib.Decide.{ℕ_discrete}
use native.Mathlib.Omega.{arith}
use mir.Syntax.{w32}
use Rattle.std.specs.Prelude.{bit_and, bit_or}
use Rattle.std.specs.Int.{bit_at, bit_not}
use Rattle.std.proofs.lemmas.Nat.{shr-shr, and_le_r}
use Rattle.std.proofs.lemmas.Nat.Bits.{bit_at_and, bit_at_or, bit_at_not, bit_at-lt, bit_at-zero, bit_at_set_same, bit_at_set_other}
use Rattle.boards.specs.Boards.{On}

pub on_left : (a b i : ℕ) → On a i → On (bit_or a b) i
on_left a b i h = omega (arith, bit_at_or a b i, h, bit_at-lt b i)

pub on_right : (a b i : ℕ) → On b i → On (bit_or a b) i
on_right a b i h = omega (arith, bit_at_or a b i, h, bit_at-lt a i)

pub on_both : (a b i : ℕ) → On a i → On b i → On (bit_and a b) i
on_both a b i h k = omega (arith, bit_at_and a b i, h, k)

pub of_both : (a b i : ℕ) → On (bit_and a b) i → On a i × On b i
of_both a b i h = (omega (arith, bit_at_and a b i, h, bit_at-lt a i, bit_at-lt b i), omega (arith, bit_at_and a b i, h, bit_at-lt a i, bit_at-lt b i))

pub on_shifted : (n k i : ℕ) → On n (k + i) → On (n / 2 ^ k) i
on_shifted n k i h = ap (λ x. x % 2) (shr-shr n k i) ∙ h

-- no bit of 0 is set
pub none_on : (i : ℕ) → On 0 i → ⊥
none_on i h = omega (arith, bit_at-zero i, h)

-- a bit stays where another word without it is taken away
pub on_without : (a b i : ℕ) → b < 2 ^ 32 → i < 32 → On a i → (On b i → ⊥) → On (bit_and a (bit_not w32 b)) i
on_without a b i h k x n = on_both a (bit_not w32 b) i x (omega (arith, bit_at_not w32 b i h k, bit_at-lt b i, n))

-- a power of 2 has one bit
pub lone : (k i : ℕ) → k < 32 → On (1 * 2 ^ k % 4294967296) i → i ≡ k
lone k i h y = elim (ℕ_discrete i k) [
  | yes e ↦ e
  | no n ↦ absurd (omega (arith, on_right 0 (1 * 2 ^ k % 4294967296) i y, bit_at_set_other w32 0 k h i n, bit_at-zero i))
]

pub of_either : (a b i : ℕ) → On (bit_or a b) i → On a i ⊎ On b i
of_either a b i h = elim (ℕ_discrete (bit_at a i) 1) [
  | yes e ↦ inl e
  | no n ↦ inr (omega (arith, bit_at_or a b i, h, bit_at-lt a i, bit_at-lt b i, n))
]

-- without its lowest bit a word is less
pub fewer : (n : ℕ) → (n ≡ 0 → ⊥) → bit_and n (n - 1) < n
fewer n h = omega (arith, and_le_r n (n - 1))

pub lone_on : (k : ℕ) → k < 32 → On (1 * 2 ^ k % 4294967296) k
lone_on k h = ⊎_elim (λ y. absurd (none_on k y)) (λ y. y) (of_either 0 (1 * 2 ^ k % 4294967296) k (bit_at_set_same w32 0 k h))
