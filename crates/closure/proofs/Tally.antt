-- Tallies of two tests, where what passes the first passes the second: number by number the first counts no more, so that they are the
-- same where the second counts no more either.
-- Assumes nothing.
use mathlib.Core.Path.{◌≡◌, refl}
use mathlib.Core.Bool.{Bool, true, false}
use Prim.Native.Nat.{ℕ, zero, suc, ◌+◌, ◌≤◌, ◌<◌}
use native.Mathlib.Omega.{arith}
use lib.Dec.{T}
use Rattle.grid.specs.Counting.{tick, total, tally}

pub tick_compare : (a b : Bool) → (T a → T b) → (tick a ≤ tick b) × (tick b ≤ tick a → T b → T a)
tick_compare true true h = (omega arith, λ e t. tt)
tick_compare true false h = absurd (h tt)
tick_compare false true h = (omega arith, λ e t. absurd (omega arith))
tick_compare false false h = (omega arith, λ e t. t)

-- a tally by its first number
pub tally_first : (n : ℕ) (p : ℕ → Bool) → tally (suc n) p ≡ tick (p 0) + tally n (λ k. p (suc k))
unfolding total
tally_first zero p = refl
tally_first (suc n) p = omega (arith, tally_first n p)

-- numbers that all pass a second test pass it at least as often, and where just as often they are all that pass it
pub tally_compare : (n : ℕ) (p q : ℕ → Bool) → ((k : ℕ) → k < n → T (p k) → T (q k))
    → (tally n p ≤ tally n q) × (tally n q ≤ tally n p → (k : ℕ) → k < n → T (q k) → T (p k))
tally_compare zero p q h = (unfold total in omega arith, λ e k b. absurd (omega arith))
tally_compare (suc n) p q h =
    let s = tick_compare (p 0) (q 0) (h 0 (omega arith)) in
    let r = tally_compare n (λ k. p (suc k)) (λ k. q (suc k)) (λ k b. h (suc k) (omega arith)) in
    let u = tally_first n p in
    let v = tally_first n q in
    (omega arith, λ e. elim [ zero ↦ λ b. s.1 (omega arith) | suc k ↦ λ b. r.1 (omega arith) k (omega arith) ])

-- a number that passes the second test alone makes it pass more often
pub tally_less : (n : ℕ) (p q : ℕ → Bool) → ((k : ℕ) → k < n → T (p k) → T (q k)) → (i : ℕ) → i < n → T (q i) → (T (p i) → ⊥) → tally n p < tally n q
tally_less n p q h i b t u = let c = tally_compare n p q h in let more : ¬ (tally n q ≤ tally n p) = λ e. u (c.1 e i b t) in omega arith

-- of n numbers at most n pass one of two tests that no number passes both
pub tally_apart : (n : ℕ) (p q : ℕ → Bool) → ((k : ℕ) → k < n → T (p k) → T (q k) → ⊥) → tally n p + tally n q ≤ n
unfolding total
tally_apart zero p q h = omega arith
tally_apart (suc n) p q h = omega (arith, one (p n) (q n) (h n (omega arith)), tally_apart n p q (λ k b. h k (omega arith)))
  where
    one : (a b : Bool) → (T a → T b → ⊥) → tick a + tick b ≤ 1
    one true true h = absurd (h tt tt)
    one true false h = omega arith
    one false true h = omega arith
    one false false h = omega arith

-- of n numbers n pass a test that all pass
pub tally_true : (n : ℕ) → tally n (λ k. true) ≡ n
unfolding total
tally_true zero = refl
tally_true (suc n) = omega (arith, tally_true n)
