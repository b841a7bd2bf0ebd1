-- The shape of a clause by its family. `shape_of` compares a number with where one family after the other ends; from a family's first number on and
-- before the next one's, the answers are known.
-- Assumes nothing.
use mathlib.Core.Path.{◌≡◌, ◌∙◌}
use mathlib.Core.Bool.{cond}
use Prim.Native.Nat.{ℕ, ◌-◌, ◌/◌, ◌%◌, ◌≤◌, ◌<◌}
use native.Mathlib.Omega.{arith}
use lib.Dec.{ltb}
use borrow.Author.Tests.{lt-ltb, le-ltb}
use Rattle.clauses.specs.Shape.{shape_of, pair_of, row_pair, rows_pair, column_of, row_of, box_of}
use Rattle.clauses.specs.declared.Group.TheVariants.{Cell}
use Rattle.clauses.specs.declared.Shape.{Shape}
use Rattle.clauses.specs.declared.Shape.TheVariants.{OneOf}

abbrev late_of : ℕ → Shape
late_of n =
    cond (ltb n 11745) (pair_of (Cell ((n - 8829) / 36)) ((n - 8829) % 36))
    (cond (ltb n 11826) (OneOf (column_of (n - 11745))) (cond (ltb n 11907) (OneOf (row_of (n - 11826))) (OneOf (box_of (n - 11907)))))

module _ (n : ℕ) where
  pub shape_F1 : n < 81 → shape_of n ≡ OneOf (Cell n)
  unfolding shape_of
  shape_F1 h = rw (lt-ltb n 81 h)

  pub shape_F2 : 81 ≤ n → n < 2997 → shape_of n ≡ pair_of (column_of ((n - 81) / 36)) ((n - 81) % 36)
  unfolding shape_of
  shape_F2 l h = rw (le-ltb n 81 l, lt-ltb n 2997 h)

  pub shape_F3 : 2997 ≤ n → n < 5913 → shape_of n ≡ pair_of (row_of ((n - 2997) / 36)) ((n - 2997) % 36)
  unfolding shape_of
  shape_F3 l h = rw (le-ltb n 81 (omega arith), le-ltb n 2997 l, lt-ltb n 5913 h)

  pub shape_F4 : 5913 ≤ n → n < 6642 → shape_of n ≡ row_pair (box_of ((n - 5913) / 9)) ((n - 5913) % 9)
  unfolding shape_of
  shape_F4 l h = rw (le-ltb n 81 (omega arith), le-ltb n 2997 (omega arith), le-ltb n 5913 l, lt-ltb n 6642 h)

  pub shape_F5 : 6642 ≤ n → n < 8829 → shape_of n ≡ rows_pair (box_of ((n - 6642) / 27)) ((n - 6642) % 27)
  unfolding shape_of
  shape_F5 l h = rw (le-ltb n 81 (omega arith), le-ltb n 2997 (omega arith), le-ltb n 5913 (omega arith), le-ltb n 6642 l, lt-ltb n 8829 h)

  -- past set 1
  late : 8829 ≤ n → shape_of n ≡ late_of n
  unfolding shape_of
  late l =
      rw (le-ltb n 81 (omega arith), le-ltb n 2997 (omega arith), le-ltb n 5913 (omega arith), le-ltb n 6642 (omega arith), le-ltb n 8829 l)

  pub shape_F6 : 8829 ≤ n → n < 11745 → shape_of n ≡ pair_of (Cell ((n - 8829) / 36)) ((n - 8829) % 36)
  shape_F6 l h = late l ∙ rw (lt-ltb n 11745 h)

  pub shape_F7 : 11745 ≤ n → n < 11826 → shape_of n ≡ OneOf (column_of (n - 11745))
  shape_F7 l h = late (omega arith) ∙ rw (le-ltb n 11745 l, lt-ltb n 11826 h)

  pub shape_F8 : 11826 ≤ n → n < 11907 → shape_of n ≡ OneOf (row_of (n - 11826))
  shape_F8 l h = late (omega arith) ∙ rw (le-ltb n 11745 (omega arith), le-ltb n 11826 l, lt-ltb n 11907 h)

  pub shape_F9 : 11907 ≤ n → shape_of n ≡ OneOf (box_of (n - 11907))
  shape_F9 l = late (omega arith) ∙ rw (le-ltb n 11745 (omega arith), le-ltb n 11826 (omega arith), le-ltb n 11907 l)
