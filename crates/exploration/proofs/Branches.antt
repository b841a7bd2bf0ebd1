-- The branches of a node. The completions of a grid agree on the cells before the first open one, so that those with a smaller digit in it come first:
-- they are those of the grid with the digits 1 to 9 in that cell, one after the other.
-- Assumes nothing.
use mathlib.Core.Path.{◌≡◌, sym, subst, ◌∙◌}
use mathlib.Core.Logic.{◌⊎◌, inl, inr, ⊎_elim, ◌↔◌}
use mathlib.Core.List.{List, [], ◌∷◌, ◌++◌}
use Prim.Native.Nat.{ℕ, ◌+◌, ◌-◌, ◌≤◌, ◌<◌}
use native.Mathlib.Decide.{ℕ_discrete, dec_lt}
use native.Mathlib.Omega.{arith}
use lib.Dec.{T, ltb, leb, ltb→lt, lt→ltb, leb→le, le→leb, T_not}
use lib.ListN.{length, set}
use lib.Seq.{get_or-set_same, get_or-set_other, ext_get_or}
use Rattle.grid.specs.Grid.{byte, is_digit}
use Rattle.grid.specs.Completion.{Legal}
use Rattle.grid.proofs.Completion.{digit_iff}
use Rattle.completions.specs.Completions.{those, completions, Before, InOrder}
use Rattle.completions.proofs.ByteOrder.{in_order_same, in_order_as, in_order_none, in_order_one, in_order_those, in_order_append}
use Rattle.completions.proofs.Completions.{completions_in_order}
use Rattle.exploration.specs.Search.{ClosedBefore, is_open}

-- the completions with one of the first d digits in a cell,
abbrev pub below : List ℕ → ℕ → ℕ → List (List ℕ)
below g c d = those (λ b. ltb (byte b c) (49 + d)) (completions g)

-- and the others
abbrev pub above : List ℕ → ℕ → ℕ → List (List ℕ)
above g c d = those (λ b. leb (49 + d) (byte b c)) (completions g)

module _ (g : List ℕ) (c : ℕ) (h : c < 81) where
  abbrev Below : ℕ → List ℕ → Type 0
  Below d b = Legal g b × (byte b c < 49 + d)

  abbrev Above : ℕ → List ℕ → Type 0
  Above d b = Legal g b × (49 + d ≤ byte b c)

  below_in_order : (d : ℕ) → InOrder (Below d) (below g c d)
  below_in_order d =
      in_order_as (λ b. Legal g b × T (ltb (byte b c) (49 + d))) (Below d) (below g c d)
      (in_order_those (λ b. ltb (byte b c) (49 + d)) (Legal g) (completions g) (completions_in_order g))
      (λ b. ((λ w. (w.0, ltb→lt (byte b c) (49 + d) w.1)), λ w. (w.0, lt→ltb (byte b c) (49 + d) w.1)))

  above_in_order : (d : ℕ) → InOrder (Above d) (above g c d)
  above_in_order d =
      in_order_as (λ b. Legal g b × T (leb (49 + d) (byte b c))) (Above d) (above g c d)
      (in_order_those (λ b. leb (49 + d) (byte b c)) (Legal g) (completions g) (completions_in_order g))
      (λ b. ((λ w. (w.0, leb→le (49 + d) (byte b c) w.1)), λ w. (w.0, le→leb (49 + d) (byte b c) w.1)))

  -- none is below the first digit, and all are below the tenth
  pub below_none : below g c 0 ≡ []
  below_none =
      in_order_same (Below 0) (Below 0) (below g c 0) [] (below_in_order 0)
      (in_order_none (Below 0) (λ b w. omega (arith, w.1, (digit_iff (byte b c)).0 (w.0.digits c h)))) (λ b. ((λ w. w), λ w. w))

  pub below_all : below g c 9 ≡ completions g
  below_all =
      in_order_same (Below 9) (Legal g) (below g c 9) (completions g) (below_in_order 9) (completions_in_order g)
      (λ b. ((λ w. w.0), λ l. (l, omega (arith, (digit_iff (byte b c)).0 (l.digits c h)))))

  -- digits that no completion has add nothing
  pub below_same : (d e : ℕ) → d ≤ e → ((b : List ℕ) (k : ℕ) → Legal g b → d ≤ k → k < e → byte b c ≡ 49 + k → ⊥) → below g c e ≡ below g c d
  below_same d e m n =
      in_order_same (Below e) (Below d) (below g c e) (below g c d) (below_in_order e) (below_in_order d)
      (λ b. (
        (λ w. elim (dec_lt (byte b c) (49 + d)) [
          | yes l ↦ (w.0, l)
          | no u ↦ absurd
              (let k : byte b c ≡ 49 + (byte b c - 49) = omega arith in n b (byte b c - 49) w.0 (omega arith) (omega (arith, w.1)) k)
        ]),
        λ w. (w.0, omega (arith, w.1)),
      ))

  -- where the cells before have their digits, a completion with a smaller digit comes first
  module _ (before : ClosedBefore g c) where
    smaller_before : (a b : List ℕ) → Legal g a → Legal g b → byte a c < byte b c → Before a b
    smaller_before a b l m s = (c, (λ k u. l.keeps k (omega arith) (before k u) ∙ sym (m.keeps k (omega arith) (before k u))), s)

    pub below_above : (d : ℕ) → completions g ≡ below g c d ++ above g c d
    below_above d =
        in_order_same (Legal g) (λ b. Below d b ⊎ Above d b) (completions g) (below g c d ++ above g c d) (completions_in_order g)
        (in_order_append (Below d) (Above d) (below g c d) (above g c d) (below_in_order d) (above_in_order d)
        (λ a b v w. smaller_before a b v.0 w.0 (omega (arith, v.1, w.1))))
        (λ b. (
          (λ l. elim (dec_lt (byte b c) (49 + d)) [ yes s ↦ inl (l, s) | no n ↦ inr (l, omega arith) ]),
          λ w. ⊎_elim (λ v. v.0) (λ v. v.0) w,
        ))

    -- the grid with a digit in the cell, which is open
    module _ (long : length g ≡ 81) (no_digit : T (is_open g c)) (d : ℕ) (few : d < 9) where
      abbrev pub with : List ℕ
      with = set g c (49 + d)

      with_here : byte with c ≡ 49 + d
      with_here = get_or-set_same g c (49 + d) 0 (omega arith)

      pub with_other : (k : ℕ) → (k ≡ c → ⊥) → byte with k ≡ byte g k
      with_other k n = get_or-set_other g c k (49 + d) 0 n

      pub is_set : T (is_digit (byte with c))
      is_set = (digit_iff (byte with c)).1 (omega (arith, with_here), omega (arith, with_here))

      -- its completions are those with the digit
      pub with_iff : (b : List ℕ) → Legal with b ↔ (Legal g b × (byte b c ≡ 49 + d))
      with_iff b = (
        (λ l. (
          record {
            long = l.long;
            digits = l.digits;
            keeps = λ k u t. elim (ℕ_discrete k c) [
              | yes e ↦ absurd (T_not (is_digit (byte g c)) no_digit (subst (λ x. T (is_digit (byte g x))) e t))
              | no n ↦ (let o = with_other k n in l.keeps k u (subst (λ x. T (is_digit x)) (sym o) t) ∙ o)
            ];
            once = l.once;
          },
          l.keeps c h is_set ∙ with_here,
        )),
        λ w. record {
          long = w.0.long;
          digits = w.0.digits;
          keeps = λ k u t. elim (ℕ_discrete k c) [
            | yes e ↦ subst (λ x. byte b x ≡ byte with x) (sym e) (w.1 ∙ sym with_here)
            | no n ↦ (let o = with_other k n in w.0.keeps k u (subst (λ x. T (is_digit x)) o t) ∙ sym o)
          ];
          once = w.0.once;
        },
      )

      -- and come next
      pub below_more : below g c (d + 1) ≡ below g c d ++ completions with
      below_more =
          in_order_same (Below (d + 1)) (λ b. Below d b ⊎ Legal with b) (below g c (d + 1)) (below g c d ++ completions with) (below_in_order (d + 1))
          (in_order_append (Below d) (Legal with) (below g c d) (completions with) (below_in_order d) (completions_in_order with)
          (λ a b v l. let w = (with_iff b).0 l in smaller_before a b v.0 w.0 (omega (arith, v.1, w.1))))
          (λ b. (
            (λ w. elim (dec_lt (byte b c) (49 + d)) [ yes l ↦ inl (w.0, l) | no n ↦ inr ((with_iff b).1 (w.0, omega (arith, w.1))) ]),
            λ w. ⊎_elim (λ v. (v.0, omega (arith, v.1))) (λ l. let v = (with_iff b).0 l in (v.0, omega (arith, v.1))) w,
          ))

      -- one cell more has its digit
      pub closed_more : ClosedBefore with (c + 1)
      closed_more k u = elim (ℕ_discrete k c) [
        | yes e ↦ subst (λ x. T (is_digit (byte with x))) (sym e) is_set
        | no n ↦ subst (λ x. T (is_digit x)) (sym (with_other k n)) (before k (omega arith))
      ]

-- a grid with no open cell is its only completion, or has none
module _ (g : List ℕ) (long : length g ≡ 81) (full : ClosedBefore g 81) where
  itself : (b : List ℕ) → Legal g b → b ≡ g
  itself b l = ext_get_or 0 b g (l.long ∙ sym long) (λ k u. l.keeps k (omega (arith, l.long)) (full k (omega (arith, l.long))))

  pub solved_one : Legal g g → completions g ≡ g ∷ []
  solved_one l =
      in_order_same (Legal g) (Legal g) (completions g) (g ∷ []) (completions_in_order g) (in_order_one (Legal g) g l itself) (λ b. ((λ m. m), λ m. m))

  pub unsolved_none : (Legal g g → ⊥) → completions g ≡ []
  unsolved_none n =
      in_order_same (Legal g) (Legal g) (completions g) [] (completions_in_order g)
      (in_order_none (Legal g) (λ b l. n (subst (Legal g) (itself b l) l))) (λ b. ((λ m. m), λ m. m))
