-- The least number below n that passes a test, or n: nothing before it passes, and it passes unless it is n. There is only one, since of two the
-- smaller would both pass and fail; and a walk up from 0 to the first that passes finds it.
-- Assumes nothing.
use mathlib.Core.Path.{◌≡◌, refl}
use mathlib.Core.Bool.{Bool, true, false}
use Prim.Native.Nat.{ℕ, zero, suc, ◌+◌, ◌≤◌, ◌<◌}
use native.Mathlib.Decide.{dec_lt}
use native.Mathlib.Omega.{arith}
use borrow.Author.Count.{below_more}
use Rattle.grid.specs.Counting.{least_from}

module _ (p : ℕ → Bool) where
  -- r is the least number below n that passes, or n
  pub record Least (n r : ℕ) : Type 0 where
    pub most : r ≤ n
    pub before : (j : ℕ) → j < r → p j ≡ false
    pub here : r < n → p r ≡ true

  one_answer : (n r s : ℕ) → Least n r → Least n s → r < s → ⊥
  one_answer n r s x y b =
      let t : p r ≡ true = x.here (omega (arith, y.most)) in
      let f : p r ≡ false = y.before r b in
      let z : ◌≡◌ {A = ℕ} 0 1 = cc in omega arith

  unique : (n r s : ℕ) → Least n r → Least n s → r ≡ s
  unique n r s x y = go (dec_lt r s) (dec_lt s r)
    where
      go : Dec (r < s) → Dec (s < r) → r ≡ s
      go (yes a) b = absurd (one_answer n r s x y a)
      go (no a) (yes b) = absurd (one_answer n s r y x b)
      go (no a) (no b) = omega arith

  -- `least_from` gives it, where what comes before its start fails
  from : (a n b : ℕ) → a + n ≡ b → ((j : ℕ) → j < a → p j ≡ false) → Least b (least_from a n p)
  unfolding least_from
  from a zero b e f = record { most = omega arith; before = f; here = λ h. absurd (omega arith) }
  from a (suc n) b e f = go (p a) refl (from (suc a) n b (omega arith))
    where
      go : (x : Bool) → p a ≡ x → (((j : ℕ) → j < suc a → p j ≡ false) → Least b (least_from (suc a) n p)) → Least b (least_from a (suc n) p)
      go true t r = rw t (record { most = omega arith; before = f; here = λ h. t })
      go false t r = rw t (r (λ j h. below_more (λ j. p j ≡ false) a f t j (omega arith)))

  pub least : (n : ℕ) → Least n (least_from 0 n p)
  least n = from 0 n n (omega arith) (λ j b. absurd (omega arith))

  pub least_is : (n r : ℕ) → Least n r → r ≡ least_from 0 n p
  least_is n r l = unique n r (least_from 0 n p) l (least n)
