-- What is in a clause set: the clauses of the shapes that it has. What is in a grid's givens: a literal for each cell whose byte is a digit.
-- Both follow from membership in a list by place, and in a list made of one for each number of a range.
-- Assumes nothing.
use mathlib.Core.Path.{◌≡◌, refl, ap, sym, subst, ◌∙◌}
use mathlib.Core.Logic.{◌↔◌, ⊎_elim}
use mathlib.Core.Bool.{Bool, true, false, cond}
use mathlib.Core.List.Memᴰ
use mathlib.Core.List.{List, [], ◌∷◌, Memᴰ}
use Prim.Native.Nat.{ℕ, zero, suc, ◌+◌, ◌*◌, ◌-◌, ◌/◌, ◌%◌, ◌≤◌, ◌<◌}
use native.Mathlib.Decide.{ℕ_discrete, dec_lt}
use native.Mathlib.Omega.{arith}
use lib.Dec.{T, ltb}
use lib.IntN.{ℤ, pos}
use lib.ListN.{length, get_or}
use borrow.Author.Tests.{le-leb}
use Rattle.grid.specs.Grid.{byte, is_digit, digit_of}
use Rattle.grid.proofs.Completion.{digit_iff}
use Rattle.clauses.specs.Literal.{Literal}
use Rattle.clauses.specs.Clauses.{Clause, range, over, clauses_of}
use Rattle.clauses.specs.Models.{Truth, holds, given_at, givens}
use Rattle.clauses.specs.Numbers.{ShapeNumbers}
use Rattle.clauses.specs.Shape.{IsShape, InSet, clause_of, shape_of, box_of, rows_pair, number_of}
use Rattle.clauses.specs.declared.ClauseSet.{ClauseSet}
use Rattle.clauses.specs.declared.ClauseSet.TheVariants.{Minimal, Extended}
use Rattle.clauses.specs.declared.Shape.{Shape}
use Rattle.clauses.specs.declared.Shape.TheVariants.{NotBoth}
use Rattle.clauses.proofs.Families.{shape_F1, shape_F2, shape_F3, shape_F4, shape_F5}
use Rattle.clauses.proofs.Numbers.{size_of, sizes, set_long, clause_at, shape_is}
use Rattle.clauses.proofs.ShapeNumber.{shape_number}

module _ {A : Type 0} (d : A) where
  -- a member stands at some place,
  pub place_of : {x : A} (xs : List A) → Memᴰ x xs → (n : ℕ) × (n < length xs) × (get_or xs n d ≡ x)
  place_of xs (Memᴰ.head e) = (0, omega arith, sym e)
  place_of xs (Memᴰ.tail {xs = ys} m) = let w = place_of ys m in (suc w.0, omega (arith, w.1), w.2)

  -- and what stands at a place is a member
  pub member_at : (xs : List A) (n : ℕ) → n < length xs → Memᴰ (get_or xs n d) xs
  member_at [] n h = absurd (omega arith)
  member_at (x ∷ xs) zero h = Memᴰ.head refl
  member_at (x ∷ xs) (suc n) h = Memᴰ.tail (member_at xs n (omega arith))

-- the members of a list made of one for each number of a range are those of the numbers' lists
pub over_iff : {B : Type 0} (a n : ℕ) (f : ℕ → List B) (y : B)
    → Memᴰ y (over (range a n) f) ↔ ((k : ℕ) × (a ≤ k) × (k < a + n) × Memᴰ y (f k))
over_iff a zero f y = ((λ m. absurd (Memᴰ.not-nil m)), λ w. absurd (omega arith))
over_iff a (suc n) f y = let r = over_iff (suc a) n f y in (
  (λ m. ⊎_elim
      (λ t. (a, omega arith, omega arith, t))
      (λ t. let w = r.0 t in (w.0, omega (arith, w.1), omega (arith, w.2), w.3)) (Memᴰ.append_cases (f a) m)),
  λ w. elim (ℕ_discrete w.0 a) [
    | yes e ↦ Memᴰ.append_left (over (range (suc a) n) f) (rw e at w.3)
    | no e ↦ Memᴰ.append_right (f a) (r.1 (w.0, omega arith, omega arith, w.3))
  ],
)

box_pair_in : (q t : ℕ) → InSet Minimal (rows_pair (box_of q) t)
box_pair_in q t = go (ltb t 18)
  where
    go : (b : Bool) → InSet Minimal (cond b (NotBoth (box_of q) (t / 6) (3 + t % 6)) (NotBoth (box_of q) (3 + (t - 18) / 3) (6 + t % 3)))
    go true = tt
    go false = tt

-- the shape of a number of a set is one that the set has
pub shape_in : (t : ClauseSet) (n : ℕ) → n < size_of t → InSet t (shape_of n)
shape_in Extended n h = tt
shape_in Minimal n h = go (dec_lt n 81) (dec_lt n 2997) (dec_lt n 5913) (dec_lt n 6642)
  where
    go : Dec (n < 81) → Dec (n < 2997) → Dec (n < 5913) → Dec (n < 6642) → InSet Minimal (shape_of n)
    go (yes a) b c d = rw (shape_F1 n a) tt
    go (no a) (yes b) c d = rw (shape_F2 n (omega arith) b) tt
    go (no a) (no b) (yes c) d = rw (shape_F3 n (omega arith) c) tt
    go (no a) (no b) (no c) (yes d) = rw (shape_F4 n (omega arith) d) tt
    go (no a) (no b) (no c) (no d) = rw (shape_F5 n (omega arith) h) (box_pair_in ((n - 6642) / 27) ((n - 6642) % 27))

-- so numbers and shapes belong together
pub shape_numbers : (t : ClauseSet) → ShapeNumbers t
shape_numbers t = record {
  shape = λ n h. let b : n < size_of t = omega (arith, h, set_long t) in (shape_is n (omega (arith, sizes t)), shape_in t n b);
  clause = λ n h. clause_at t n (omega (arith, h, set_long t));
  number = λ x h i. let w = shape_number t x h i in (omega (arith, w.0, set_long t), w.1);
}

-- the clauses of a set are those of the shapes that it has
pub member_iff : (t : ClauseSet) (c : Clause) → Memᴰ c (clauses_of t) ↔ ((s : Shape) × IsShape s × InSet t s × (clause_of s ≡ c))
member_iff t c = (
  (λ m.
      let w = place_of [] (clauses_of t) m in
      let b : w.0 < size_of t = omega (arith, w.1, set_long t) in
      (shape_of w.0, shape_is w.0 (omega (arith, sizes t)), shape_in t w.0 b, sym (clause_at t w.0 b) ∙ w.2)),
  λ w.
      let v = shape_number t w.0 w.1 w.2 in
      subst (λ d. Memᴰ d (clauses_of t)) (clause_at t (number_of w.0) v.0 ∙ ap clause_of v.1 ∙ w.3)
      (member_at [] (clauses_of t) (number_of w.0) (omega (arith, v.0, set_long t))),
)

given_iff : (x c : ℕ) (l : ℤ) → Memᴰ l (given_at (is_digit x) c (digit_of x)) ↔ (T (is_digit x) × (l ≡ pos (9 * c + digit_of x)))
given_iff x c l = go (is_digit x)
  where
    go : (b : Bool) → Memᴰ l (given_at b c (digit_of x)) ↔ (T b × (l ≡ pos (9 * c + digit_of x)))
    go true = ((λ m. (tt, Memᴰ.eq_of_singleton m)), λ h. Memᴰ.head h.1)
    go false = ((λ m. absurd (Memᴰ.not-nil m)), λ h. absurd h.0)

-- the givens are the literals of the cells that have a digit
pub givens_iff : (g : List ℕ) (l : ℤ) → Memᴰ l (givens g) ↔ ((c : ℕ) × (c < 81) × T (is_digit (byte g c)) × (l ≡ pos (9 * c + digit_of (byte g c))))
unfolding givens
givens_iff g l = let o = over_iff 0 81 (λ c. given_at (is_digit (byte g c)) c (digit_of (byte g c))) l in (
  (λ m. let w = o.0 m in let v = (given_iff (byte g w.0) w.0 l).0 w.3 in (w.0, w.2, v.0, v.1)),
  λ w. o.1 (w.0, omega arith, w.1, (given_iff (byte g w.0) w.0 l).1 (w.2, w.3)),
)

-- the variable of a cell's digit
pub given_variable : (c x : ℕ) → T (is_digit x) → 9 * c + digit_of x ≡ suc (9 * c + (x - 49))
unfolding digit_of is_digit
given_variable c x t = let h = (digit_iff x).0 t in rw (le-leb 49 x h.0, le-leb x 57 h.1) (omega arith)

-- they are literals
pub given_literal : (g : List ℕ) (l : ℤ) → Memᴰ l (givens g) → Literal l
given_literal g l i =
    let w = (givens_iff g l).0 i in
    let d = (digit_iff (byte g w.0)).0 w.2 in
    let bound : 9 * w.0 + (byte g w.0 - 49) < 729 = omega (arith, w.1) in
    subst Literal (sym (w.3 ∙ ap pos (given_variable w.0 (byte g w.0) w.2))) bound

-- the givens are true where each cell that has a digit has the variable of it true
pub givens_true_iff : (A : Truth) (g : List ℕ)
    → ((l : ℤ) → Memᴰ l (givens g) → T (holds A l)) ↔ ((c : ℕ) → c < 81 → T (is_digit (byte g c)) → T (A (suc (9 * c + (byte g c - 49)))))
givens_true_iff A g = (
  (λ k c h t. rw (given_variable c (byte g c) t) at (k (pos (9 * c + digit_of (byte g c))) ((givens_iff g _).1 (c, h, t, refl)))),
  λ f l m. let w = (givens_iff g l).0 m in rw (w.3, given_variable w.0 (byte g w.0) w.2) (f w.0 w.1 w.2),
)
