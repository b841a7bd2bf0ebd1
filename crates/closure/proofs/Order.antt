-- An order of 1,458 literals, none twice, has every literal. The literals have the numbers below 1,458; each place of the order has some
-- number and no number has two places, so that by the pigeonhole each number has a place.
-- Assumes nothing.
use mathlib.Core.Path.{◌≡◌, ap, sym, ◌∙◌}
use mathlib.Core.Logic.{◌↔◌}
use mathlib.Core.Bool.{Bool}
use mathlib.Core.List.{List, Memᴰ}
use Prim.Native.Nat.{ℕ, zero, suc, ◌+◌, ◌*◌, ◌<◌}
use native.Mathlib.Omega.{arith}
use lib.Dec.{eqb, eqb→eq, eqb_refl}
use lib.IntN.{ℤ, pos, negsuc}
use lib.ListN.{length, get_or}
use Rattle.grid.specs.Counting.{tally}
use Rattle.grid.proofs.Counting.{tally_some, tally_find, tally_most, square_columns}
use Rattle.clauses.specs.Literal.{Literal}
use Rattle.clauses.proofs.Members.{member_at}
use Rattle.closure.specs.Laws.{NoneTwice}

-- the literals numbered: +1, -1, +2, -2 and so on
abbrev number : ℤ → ℕ
number (pos zero) = 1458
number (pos (suc k)) = 2 * k
number (negsuc k) = 2 * k + 1

number_below : (l : ℤ) → Literal l → number l < 1458
number_below (pos zero) v = absurd v
number_below (pos (suc k)) v = omega arith
number_below (negsuc k) v = omega arith

number_same : (l m : ℤ) → Literal l → Literal m → number l ≡ number m → l ≡ m
number_same (pos zero) m v w e = absurd v
number_same (pos (suc k)) (pos zero) v w e = absurd w
number_same (pos (suc k)) (pos (suc j)) v w e = ap (λ x. pos (suc x)) (omega arith)
number_same (pos (suc k)) (negsuc j) v w e = absurd (omega arith)
number_same (negsuc k) (pos zero) v w e = absurd w
number_same (negsuc k) (pos (suc j)) v w e = absurd (omega arith)
number_same (negsuc k) (negsuc j) v w e = ap negsuc (omega arith)

-- the literal at a place
abbrev at : List ℤ → ℕ → ℤ
at ls i = get_or ls i (pos 0)

-- the literal at place i has number j
abbrev stands : List ℤ → ℕ → ℕ → Bool
stands ls i j = eqb (number (at ls i)) j

module _ (ls : List ℤ) (long : length ls ≡ 1458) (lits : (l : ℤ) → Memᴰ l ls → Literal l) (once : NoneTwice ls) where
  literal_at_lem : (i : ℕ) → i < 1458 → Literal (at ls i)
  literal_at_lem i h = lits (at ls i) (member_at (pos 0) ls i (omega arith))

  each_number : (j : ℕ) → j < 1458 → tally 1458 (λ i. stands ls i j) ≡ 1
  each_number = square_columns 1458 (stands ls)
      (λ i h. tally_some (stands ls i) 1458 (number (at ls i)) (number_below (at ls i) (literal_at_lem i h)) (eqb_refl (number (at ls i))))
      (λ j h. tally_most (λ i. stands ls i j) 1458 (λ i k a b t u.
      let e = eqb→eq (number (at ls i)) j t ∙ sym (eqb→eq (number (at ls k)) j u) in
      once i k a (omega arith) (number_same (at ls i) (at ls k) (literal_at_lem i (omega arith)) (literal_at_lem k b) e)))

  -- the order has just the literals
  pub order_covers : (l : ℤ) → Literal l ↔ Memᴰ l ls
  order_covers l = (find, lits l)
    where
      find : Literal l → Memᴰ l ls
      find v =
          let w = tally_find (λ i. stands ls i (number l)) 1458 (omega (arith, each_number (number l) (number_below l v))) in
          let e = number_same (at ls w.0) l (literal_at_lem w.0 w.1) v (eqb→eq (number (at ls w.0)) (number l) w.2) in
          rw e at (member_at (pos 0) ls w.0 (omega (arith, w.1)))
