-- A word folded upon its thirds, and upon its columns.
-- Assumes nothing.
use mathlib.Core.Path.{◌≡◌, refl, subst}
use Prim.Native.Nat.{ℕ, zero, suc, ◌+◌, ◌*◌, ◌/◌, ◌%◌, ◌<◌}
use native.Mathlib.Omega.{arith}
use Rattle.std.specs.Prelude.{bit_and, bit_or}
use Rattle.std.proofs.lemmas.Nat.{and_le_r}
use Rattle.std.proofs.lemmas.Nat.Bits.{bit_at_ones}
use Rattle.boards.specs.Boards.{On, IsThirds, IsColumns}
use Rattle.boards.proofs.Bits.{on_left, on_right, on_both, on_shifted}

-- the mask has the first cell of every third
first_cells : (x : ℕ) → x < 9 → On 19173961 (3 * x)
first_cells zero h = refl
first_cells (suc zero) h = refl
first_cells (suc (suc zero)) h = refl
first_cells (suc (suc (suc zero))) h = refl
first_cells (suc (suc (suc (suc zero)))) h = refl
first_cells (suc (suc (suc (suc (suc zero))))) h = refl
first_cells (suc (suc (suc (suc (suc (suc zero)))))) h = refl
first_cells (suc (suc (suc (suc (suc (suc (suc zero))))))) h = refl
first_cells (suc (suc (suc (suc (suc (suc (suc (suc zero)))))))) h = refl
first_cells (suc (suc (suc (suc (suc (suc (suc (suc (suc x))))))))) h = absurd (omega arith)

module _ (a : ℕ) where
  abbrev gathered : ℕ
  gathered = bit_or (bit_or a (a / 2)) (a / 4)

  abbrev marked : ℕ
  marked = bit_and gathered 19173961

  -- a third has a cell where one of its three cells is there
  gather : (i u : ℕ) → u < 3 → On a (i + u) → On gathered i
  gather i zero h y = on_left (bit_or a (a / 2)) (a / 4) i (on_left a (a / 2) i (subst (On a) (omega arith) y))
  gather i (suc zero) h y = on_left (bit_or a (a / 2)) (a / 4) i (on_right a (a / 2) i (on_shifted a 1 i (subst (On a) (omega arith) y)))
  gather i (suc (suc zero)) h y = on_right (bit_or a (a / 2)) (a / 4) i (on_shifted a 2 i (subst (On a) (omega arith) y))
  gather i (suc (suc (suc u))) h y = absurd (omega arith)

  mark : (x u : ℕ) → x < 9 → u < 3 → On a (3 * x + u) → On marked (3 * x)
  mark x u h k y = on_both gathered 19173961 (3 * x) (gather (3 * x) u k y) (first_cells x h)

  abbrev pub folded : ℕ
  folded = bit_or (bit_or marked (marked / 256)) (marked / 65536)

  fold : (r t : ℕ) → r < 3 → On marked (9 * r + 3 * t) → On folded (3 * t + r)
  fold zero t h y =
      on_left (bit_or marked (marked / 256)) (marked / 65536) (3 * t + 0) (on_left marked (marked / 256) (3 * t + 0) (subst (On marked) (omega arith) y))
  fold (suc zero) t h y =
      on_left (bit_or marked (marked / 256)) (marked / 65536) (3 * t + 1)
      (on_right marked (marked / 256) (3 * t + 1) (on_shifted marked 8 (3 * t + 1) (subst (On marked) (omega arith) y)))
  fold (suc (suc zero)) t h y =
      on_right (bit_or marked (marked / 256)) (marked / 65536) (3 * t + 2) (on_shifted marked 16 (3 * t + 2) (subst (On marked) (omega arith) y))
  fold (suc (suc (suc r))) t h y = absurd (omega arith)

  pub is_thirds : IsThirds a (bit_and folded 511)
  is_thirds = record {
    below = omega (arith, and_le_r folded 511);
    marked = λ i h y.
        let e : i ≡ 3 * (i / 3) + i % 3 = omega arith in
        let m = mark (i / 3) (i % 3) (omega arith) (omega arith) (subst (On a) e y) in
        on_both folded 511 (3 * (i % 9 / 3) + i / 9) (fold (i / 9) (i % 9 / 3) (omega arith) (subst (On marked) (omega arith) m))
        (bit_at_ones 9 (3 * (i % 9 / 3) + i / 9) (omega arith));
  }

  abbrev columns : ℕ
  columns = bit_or (bit_or a (a / 512)) (a / 262144)

  column : (r k : ℕ) → r < 3 → On a (9 * r + k) → On columns k
  column zero k h y = on_left (bit_or a (a / 512)) (a / 262144) k (on_left a (a / 512) k (subst (On a) (omega arith) y))
  column (suc zero) k h y = on_left (bit_or a (a / 512)) (a / 262144) k (on_right a (a / 512) k (on_shifted a 9 k (subst (On a) (omega arith) y)))
  column (suc (suc zero)) k h y = on_right (bit_or a (a / 512)) (a / 262144) k (on_shifted a 18 k (subst (On a) (omega arith) y))
  column (suc (suc (suc r))) k h y = absurd (omega arith)

  pub is_columns : IsColumns a (bit_and columns 511)
  is_columns = record {
    below = omega (arith, and_le_r columns 511);
    marked = λ i h y.
        let e : i ≡ 9 * (i / 9) + i % 9 = omega arith in
        on_both columns 511 (i % 9) (column (i / 9) (i % 9) (omega arith) (subst (On a) e y)) (bit_at_ones 9 (i % 9) (omega arith));
  }
