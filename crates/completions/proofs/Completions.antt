-- The completions are the legal ones, in byte order. The fillings of any number of cells are in order: those that begin with a smaller digit
-- come first, and those that begin with the same one are in the order of the rest.
-- Assumes nothing.
use mathlib.Core.Path.{◌≡◌, refl, ap, subst}
use mathlib.Core.Logic.{◌↔◌}
use mathlib.Core.List.Memᴰ
use mathlib.Core.List.{List, [], ◌∷◌, map, Memᴰ}
use Prim.Native.Nat.{ℕ, zero, suc, ◌<◌}
use native.Mathlib.Omega.{arith}
use lib.Dec.{T}
use lib.ListN.{length}
use Rattle.grid.specs.Grid.{byte, is_digit}
use Rattle.grid.specs.Completion.{Legal, is_legal}
use Rattle.grid.proofs.Completion.{digit_iff, legal_iff}
use Rattle.clauses.specs.Clauses.{range, over}
use Rattle.clauses.proofs.Members.{over_iff}
use Rattle.completions.specs.Completions.{those, fillings, completions, Before, Rising, InOrder}
use Rattle.completions.proofs.ByteOrder.{rising_append, in_order_those, in_order_as}

-- b is n digits
record Digits (n : ℕ) (b : List ℕ) : Type 0 where
  long : length b ≡ n
  digits : (c : ℕ) → c < n → T (is_digit (byte b c))

-- a digit before a row of digits
digits_more : (n d : ℕ) (b : List ℕ) → T (is_digit d) → Digits n b → Digits (suc n) (d ∷ b)
digits_more n d b t i = record { long = ap suc i.long; digits = at }
  where
    at : (c : ℕ) → c < suc n → T (is_digit (byte (d ∷ b) c))
    at zero h = t
    at (suc c) h = i.digits c (omega arith)

-- the rows that begin with d
abbrev begun : ℕ → ℕ → List (List ℕ)
begun n d = map (λ b. d ∷ b) (fillings n)

fillings_iff : (n : ℕ) (b : List ℕ) → Memᴰ b (fillings n) ↔ Digits n b
unfolding fillings
fillings_iff zero [] = ((λ m. record { long = refl; digits = λ c h. absurd (omega arith) }), λ i. Memᴰ.head refl)
fillings_iff zero (x ∷ b) = (
  (λ m. absurd (let e : ◌≡◌ {A = ℕ} (suc (length b)) 0 = ap length (Memᴰ.eq_of_singleton m) in omega arith)),
  λ i. absurd (omega (arith, i.long)),
)
fillings_iff (suc n) [] = (
  (λ m. let w = (over_iff 49 9 (begun n) []).0 m in let v = Memᴰ.of_map (λ b. w.0 ∷ b) (fillings n) w.3 in absurd (omega (arith, ap length v.2))),
  λ i. absurd (omega (arith, i.long)),
)
fillings_iff (suc n) (x ∷ b) = (
  (λ m.
      let w = (over_iff 49 9 (begun n) (x ∷ b)).0 m in
      let v = Memᴰ.of_map (λ b. w.0 ∷ b) (fillings n) w.3 in
      subst (Digits (suc n)) v.2 (digits_more n w.0 v.0 ((digit_iff w.0).1 (omega (arith, w.1, w.2))) ((fillings_iff n v.0).0 v.1))),
  λ i.
      let d = (digit_iff x).0 (i.digits 0 (omega arith)) in
      let rest : Digits n b = record { long = omega (arith, i.long); digits = λ c h. i.digits (suc c) (omega arith) } in
      (over_iff 49 9 (begun n) (x ∷ b)).1 (x, d.0, omega (arith, d.1), Memᴰ.map (λ b. x ∷ b) ((fillings_iff n b).1 rest)),
)

before_later : (d : ℕ) (a b : List ℕ) → Before a b → Before (d ∷ a) (d ∷ b)
before_later d a b w = (suc w.0, same, w.2)
  where
    same : (j : ℕ) → j < suc w.0 → byte (d ∷ a) j ≡ byte (d ∷ b) j
    same zero h = refl
    same (suc j) h = w.1 j (omega arith)

rising_later : (d : ℕ) (xs : List (List ℕ)) → Rising xs → Rising (map (λ b. d ∷ b) xs)
rising_later d [] r = tt
rising_later d (x ∷ xs) r = (
  (λ y m. let w = Memᴰ.of_map (λ b. d ∷ b) xs m in subst (Before (d ∷ x)) w.2 (before_later d x w.0 (r.0 w.0 w.1))),
  rising_later d xs r.1,
)

rising_digits : (xs : List (List ℕ)) → Rising xs → (a n : ℕ) → Rising (over (range a n) (λ d. map (λ b. d ∷ b) xs))
rising_digits xs r a zero = tt
rising_digits xs r a (suc n) =
    let first = map (λ b. a ∷ b) xs in
    let others = over (range (suc a) n) (λ d. map (λ b. d ∷ b) xs) in
    rising_append first others (rising_later a xs r) (rising_digits xs r (suc a) n) (λ x y i j.
    let u = Memᴰ.of_map (λ b. a ∷ b) xs i in
    let w = (over_iff (suc a) n (λ d. map (λ b. d ∷ b) xs) y).0 j in
    let v = Memᴰ.of_map (λ b. w.0 ∷ b) xs w.3 in
    subst (λ z. Before z y) u.2 (subst (Before (a ∷ u.0)) v.2 (0, (λ k h. absurd (omega arith)), w.1)))

fillings_rising : (n : ℕ) → Rising (fillings n)
unfolding fillings
fillings_rising zero = ((λ y m. absurd (Memᴰ.not-nil m)), tt)
fillings_rising (suc n) = rising_digits (fillings n) (fillings_rising n) 49 9

-- The completions of a grid are its legal completions, each once, in byte order.
pub completions_in_order : (g : List ℕ) → InOrder (Legal g) (completions g)
unfolding completions
completions_in_order g =
    in_order_as (λ b. Digits 81 b × T (is_legal g b)) (Legal g) (those (is_legal g) (fillings 81))
    (in_order_those (is_legal g) (Digits 81) (fillings 81) (record { rising = fillings_rising 81; members = fillings_iff 81 }))
    (λ b. ((λ w. (legal_iff g b).0 w.1), λ l. (record { long = l.long; digits = l.digits }, (legal_iff g b).1 l)))
