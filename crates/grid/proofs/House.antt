-- The cells of a house by its kind: row x, column y, or the box in band a and stack b. What holds of every row, column and box holds of
-- every house, such as that its cells are below 81.
-- Assumes nothing.
use mathlib.Core.Path.{◌≡◌, subst}
use Prim.Native.Nat.{ℕ, ◌+◌, ◌*◌, ◌-◌, ◌/◌, ◌%◌, ◌<◌}
use native.Mathlib.Omega.{arith}
use native.Mathlib.Decide.{dec_lt}
use borrow.Author.Tests.{lt-ltb, le-ltb}
use Rattle.grid.specs.House.{cell_of}

module _ (k : ℕ) where
  pub row_cell : (x : ℕ) → x < 9 → cell_of x k ≡ 9 * x + k
  unfolding cell_of
  row_cell x h = rw (lt-ltb x 9 h)

  pub column_cell : (y : ℕ) → y < 9 → cell_of (9 + y) k ≡ 9 * k + y
  unfolding cell_of
  column_cell y h = rw (le-ltb (9 + y) 9 (omega arith), lt-ltb (9 + y) 18 (omega arith)) (omega arith)

  pub box_cell : (a b : ℕ) → a < 3 → b < 3 → cell_of (18 + (3 * a + b)) k ≡ 9 * (3 * a + k / 3) + (3 * b + k % 3)
  unfolding cell_of
  box_cell a b h i = rw (le-ltb (18 + (3 * a + b)) 9 (omega arith), le-ltb (18 + (3 * a + b)) 18 (omega arith)) (omega arith)

-- what holds of every row, column and box holds of every house
pub by_house : {P : ℕ → Type 0} → ((x : ℕ) → x < 9 → P x) → ((y : ℕ) → y < 9 → P (9 + y)) → ((a b : ℕ) → a < 3 → b < 3 → P (18 + (3 * a + b)))
    → (h : ℕ) → h < 27 → P h
by_house {P} row column box h i = go (dec_lt h 9) (dec_lt h 18)
  where
    go : Dec (h < 9) → Dec (h < 18) → P h
    go (yes u) v = row h u
    go (no u) (yes v) = let e : 9 + (h - 9) ≡ h = omega arith in subst P e (column (h - 9) (omega arith))
    go (no u) (no v) =
        let e : 18 + (3 * ((h - 18) / 3) + (h - 18) % 3) ≡ h = omega arith in
        subst P e (box ((h - 18) / 3) ((h - 18) % 3) (omega arith) (omega arith))

pub cell_below : (h k : ℕ) → h < 27 → k < 9 → cell_of h k < 81
cell_below h k i j = by_house {P = λ h. cell_of h k < 81}
    (λ x u. omega (arith, row_cell k x u))
    (λ y u. omega (arith, column_cell k y u))
    (λ a b u v. omega (arith, box_cell k a b u v)) h i
