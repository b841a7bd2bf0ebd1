-- Laws of counting and of testing below a bound, and the pigeonhole on a square, which has one sum by rows and by columns: n things that each have
-- some of n places, where no place has two things, have one place each, and each place has one thing; and so many of the things need as many places.
-- Assumes nothing.
use mathlib.Core.Path.{◌≡◌, refl, ap, sym, ◌∙◌, subst}
use mathlib.Core.Logic.{◌↔◌}
use mathlib.Core.Bool.{Bool, true, false, ◌&&◌}
use mathlib.Core.List.{List, ◌∷◌, [], ◌++◌}
use Prim.Native.Nat.{ℕ, zero, suc, ◌+◌, ◌≤◌, ◌<◌}
use native.Mathlib.Decide.{ℕ_discrete, dec_lt}
use native.Mathlib.Nat.{zero-add}
use native.Mathlib.Omega.{arith}
use native.Mathlib.Numerals.{add-one}
use lib.Dec.{T}
use lib.ListN.{length, get_or}
use Rattle.std.specs.List.{list_all, range_with_len}
use Rattle.std.proofs.lemmas.List.Folds.{list_all-append, list_all-map}
use Rattle.std.proofs.lemmas.List.FromFn.{fill_by_all}
use Rattle.grid.specs.Counting.{tick, total, tally, all}
use Rattle.grid.proofs.Table.{and_iff}

-- a number below suc n is n or below n
last : {P : ℕ → Type 0} (n : ℕ) → P n → ((k : ℕ) → k < n → P k) → (k : ℕ) → k < suc n → P k
last {P} n here below k h = go (ℕ_discrete k n)
  where
    go : Dec (k ≡ n) → P k
    go (yes e) = subst P (sym e) here
    go (no ne) = below k (omega arith)

pub all_iff : (n : ℕ) (p : ℕ → Bool) → T (all n p) ↔ ((k : ℕ) → k < n → T (p k))
unfolding all
all_iff zero p = ((λ x k h. absurd (omega arith)), λ x. tt)
all_iff (suc n) p =
    let r = all_iff n p in
    let c = and_iff (p n) (all n p) in
    ((λ x. last {P = λ k. T (p k)} n (c.0 x).0 (r.0 (c.0 x).1)), λ x. c.1 (x n (omega arith), r.1 (λ k h. x k (omega arith))))

-- one number more comes last
last_of : (a n : ℕ) → range_with_len a (suc n) ≡ range_with_len a n ++ (a + n) ∷ []
last_of a zero = grind arith
last_of a (suc n) =
    let e : a + 1 + n ≡ a + suc n = omega arith in
    rw (last_of (a + 1) n, e)

-- each number of a range from 0 on passes, where each below its end does
pub all_of : (p : ℕ → Bool) (n : ℕ) → list_all p (range_with_len 0 n) ≡ all n p
unfolding all
all_of p zero = refl
all_of p (suc n) =
    ap (list_all p) (last_of 0 n) ∙ list_all-append p (range_with_len 0 n) ((0 + n) ∷ []) ∙ rw (zero-add n, all_of p n) (one (all n p) (p n))
  where
    one : (a b : Bool) → (a && (b && true)) ≡ (b && a)
    one true true = refl
    one true false = refl
    one false true = refl
    one false false = refl

-- each of a list passes, where that at each place does
pub all_in : (p : ℕ → Bool) (l : List ℕ) (n : ℕ) → length l ≡ n → list_all p l ≡ all n (λ k. p (get_or l k 0))
all_in p l n e =
    let f : ℕ → ℕ = λ k. get_or l k 0 in
    ap (list_all p) (fill_by_all f l n 0 e (λ k h. refl)) ∙ list_all-map p f (range_with_len 0 n) ∙ all_of (λ k. p (f k)) n

pub all_same : (n : ℕ) (p q : ℕ → Bool) → ((k : ℕ) → k < n → p k ≡ q k) → all n p ≡ all n q
unfolding all
all_same zero p q h = refl
all_same (suc n) p q h = rw (h n (omega arith), all_same n p q (λ k b. h k (omega arith)))

pub total_same : (n : ℕ) (f g : ℕ → ℕ) → ((k : ℕ) → k < n → f k ≡ g k) → total n f ≡ total n g
unfolding total
total_same zero f g h = refl
total_same (suc n) f g h = omega (arith, h n (omega arith), total_same n f g (λ k b. h k (omega arith)))

-- one number more: its tick is added
pub tally_more : (n : ℕ) (p : ℕ → Bool) → tally (n + 1) p ≡ tick (p n) + tally n p
unfolding total
tally_more n p = rw (add-one n)

pub tally_same : (n : ℕ) (p q : ℕ → Bool) → ((k : ℕ) → k < n → p k ≡ q k) → tally n p ≡ tally n q
tally_same n p q h = total_same n (λ k. tick (p k)) (λ k. tick (q k)) (λ k b. ap tick (h k b))

total_zero : (n : ℕ) → total n (λ k. 0) ≡ 0
unfolding total
total_zero zero = refl
total_zero (suc n) = omega (arith, total_zero n)

total_add : (n : ℕ) (f g : ℕ → ℕ) → total n (λ k. f k + g k) ≡ total n f + total n g
unfolding total
total_add zero f g = refl
total_add (suc n) f g = omega (arith, total_add n f g)

total_most : (n : ℕ) (f g : ℕ → ℕ) → ((k : ℕ) → k < n → f k ≤ g k) → total n f ≤ total n g
unfolding total
total_most zero f g h = omega arith
total_most (suc n) f g h = omega (arith, h n (omega arith), total_most n f g (λ k b. h k (omega arith)))

-- by rows or by columns, the sum of a square is one
turned : (n m : ℕ) (f : ℕ → ℕ → ℕ) → total n (λ i. total m (f i)) ≡ total m (λ j. total n (λ i. f i j))
unfolding total
turned zero m f = sym (total_zero m)
turned (suc n) m f = ap (λ x. total m (f n) + x) (turned n m f) ∙ sym (total_add m (f n) (λ j. total n (λ i. f i j)))

module _ (f : ℕ → ℕ) where
  low : (n : ℕ) → ((i : ℕ) → i < n → 1 ≤ f i) → n ≤ total n f
  unfolding total
  low zero h = omega arith
  low (suc n) h = omega (arith, h n (omega arith), low n (λ i b. h i (omega arith)))

  high : (n : ℕ) → ((i : ℕ) → i < n → f i ≤ 1) → total n f ≤ n
  unfolding total
  high zero h = omega arith
  high (suc n) h = omega (arith, h n (omega arith), high n (λ i b. h i (omega arith)))

  -- where each is at least one and all together are no more than n, each is one; and likewise from above
  low_tight : (n : ℕ) → ((i : ℕ) → i < n → 1 ≤ f i) → total n f ≤ n → (i : ℕ) → i < n → f i ≡ 1
  unfolding total
  low_tight zero h t = λ i b. absurd (omega arith)
  low_tight (suc n) h t =
      let l = low n (λ i b. h i (omega arith)) in
      last {P = λ i. f i ≡ 1} n (omega (arith, h n (omega arith))) (low_tight n (λ i b. h i (omega arith)) (omega (arith, h n (omega arith))))

  high_tight : (n : ℕ) → ((i : ℕ) → i < n → f i ≤ 1) → n ≤ total n f → (i : ℕ) → i < n → f i ≡ 1
  unfolding total
  high_tight zero h t = λ i b. absurd (omega arith)
  high_tight (suc n) h t =
      let l = high n (λ i b. h i (omega arith)) in
      last {P = λ i. f i ≡ 1} n (omega (arith, h n (omega arith))) (high_tight n (λ i b. h i (omega arith)) (omega (arith, h n (omega arith))))

pub tally_bound : (n : ℕ) (p : ℕ → Bool) → tally n p ≤ n
tally_bound n p = high (λ k. tick (p k)) n (λ i b. most (p i))
  where
    most : (x : Bool) → tick x ≤ 1
    most true = omega arith
    most false = omega arith

-- where things that are chosen have at least one place each, and only places that are chosen have a thing, and one each, no more things are
-- chosen than places
pub chosen_fit : (n : ℕ) (R : ℕ → ℕ → Bool) (S D : ℕ → Bool) → ((i : ℕ) → i < n → tick (S i) ≤ tally n (R i))
    → ((j : ℕ) → j < n → tally n (λ i. R i j) ≤ tick (D j)) → tally n S ≤ tally n D
chosen_fit n R S D some most =
    omega (arith, total_most n (λ i. tick (S i)) (λ i. tally n (R i)) some, turned n n (λ i j. tick (R i j)), total_most n (λ j. tally n (λ i. R i j)) (λ j. tick (D j)) most)

module _ (n : ℕ) (R : ℕ → ℕ → Bool) (some : (i : ℕ) → i < n → 1 ≤ tally n (R i)) (most : (j : ℕ) → j < n → tally n (λ i. R i j) ≤ 1) where
  pub square_rows : (i : ℕ) → i < n → tally n (R i) ≡ 1
  square_rows =
      low_tight (λ i. tally n (R i)) n some (omega (arith, turned n n (λ i j. tick (R i j)), high (λ j. tally n (λ i. R i j)) n most))

  pub square_columns : (j : ℕ) → j < n → tally n (λ i. R i j) ≡ 1
  square_columns =
      high_tight (λ j. tally n (λ i. R i j)) n most (omega (arith, turned n n (λ i j. tick (R i j)), low (λ i. tally n (R i)) n some))

module _ (p : ℕ → Bool) where
  pub tally_some : (n i : ℕ) → i < n → T (p i) → 1 ≤ tally n p
  unfolding total
  tally_some zero i b t = absurd (omega arith)
  tally_some (suc n) i b t = last {P = λ k. T (p k) → 1 ≤ tick (p n) + tally n p} n (here (p n)) (λ k h u. omega (arith, tally_some n k h u)) i b t
    where
      here : (x : Bool) → T x → 1 ≤ tick x + tally n p
      here true u = omega arith
      here false u = absurd u

  pub tally_find : (n : ℕ) → 1 ≤ tally n p → (i : ℕ) × (i < n) × T (p i)
  unfolding total
  tally_find zero h = absurd (omega arith)
  tally_find (suc n) h = go (p n) refl h (tally_find n)
    where
      go : (x : Bool) → p n ≡ x → 1 ≤ tick x + tally n p → (1 ≤ tally n p → (i : ℕ) × (i < n) × T (p i)) → (i : ℕ) × (i < suc n) × T (p i)
      go true e u r = (n, omega arith, subst T (sym e) tt)
      go false e u r = let w = r (omega arith) in (w.0, omega (arith, w.1), w.2)

  pub tally_pair : (n : ℕ) → tally n p ≤ 1 → (i j : ℕ) → i < j → j < n → T (p i) → T (p j) → ⊥
  unfolding total
  tally_pair zero h i j a b t u = omega arith
  tally_pair (suc n) h i j a b t u =
      last {P = λ k. i < k → T (p k) → ⊥} n
      (λ c v. omega (arith, tally_some n i c t, here (p n) v))
      (λ k c d v. tally_pair n (omega arith) i k d c t v) j b a u
    where
      here : (x : Bool) → T x → tick x ≡ 1
      here true v = refl
      here false v = absurd v

  pub tally_most : (n : ℕ) → ((i j : ℕ) → i < j → j < n → T (p i) → T (p j) → ⊥) → tally n p ≤ 1
  unfolding total
  tally_most zero h = omega arith
  tally_most (suc n) h = go (p n) refl (tally_most n (λ i j a b. h i j a (omega arith)))
    where
      go : (x : Bool) → p n ≡ x → tally n p ≤ 1 → tick x + tally n p ≤ 1
      go false e r = omega arith
      go true e r = elim (dec_lt 0 (tally n p)) [
        | yes q ↦ (let w = tally_find n q in absurd (h w.0 n w.1 (omega arith) w.2 (subst T (sym e) tt)))
        | no q ↦ omega arith
      ]
