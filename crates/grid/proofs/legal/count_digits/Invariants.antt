-- One pass over the house: after k cells, place d has the number of those where the digit d + 1 stands.
use mathlib.Core.Path.{◌≡◌}
use mathlib.Core.List.{List}
use Prim.Native.Nat.{ℕ, ◌+◌, ◌≤◌, ◌<◌}
use lib.Dec.{eqb}
use lib.ListN.{length, get_or}
use Rattle.grid.specs.Counting.{tally}
use Rattle.grid.specs.Grid.{byte}
use Rattle.grid.specs.House.{cell_of}
use Rattle.grid.proofs.legal.count_digits.Given as goal

-- the counts of k bytes, f 0 to f (k - 1): place d has that of the digit d + 1
pub record Counted (f : ℕ → ℕ) (k : ℕ) (counts : List ℕ) : Type 0 where
  pub nine : length counts ≡ 9
  pub right : (d : ℕ) → d < 9 → get_or counts d 0 ≡ tally k (λ j. eqb (f j) (49 + d))

abbrev pub invariant-loop-k : goal.invariant-loop-k
invariant-loop-k l = (l.k ≤ 9) × Counted (λ j. byte l.candidate (cell_of l.house j)) l.k l.counts
