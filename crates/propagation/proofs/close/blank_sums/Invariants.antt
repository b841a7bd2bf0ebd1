-- The first q sums of each kind are those of nothing decided.
use mathlib.Core.Path.{◌≡◌}
use mathlib.Core.List.{List}
use Prim.Native.Nat.{ℕ, ◌+◌, ◌*◌, ◌<◌}
use lib.ListN.{length, get_or}
use Rattle.propagation.proofs.Givens.{blank_sum}
use Rattle.propagation.proofs.close.blank_sums.Given as goal

-- the first q sums of each kind
pub record Filled (q : ℕ) (a : List ℕ) : Type 0 where
  pub long : length a ≡ 324
  pub sums : (i p : ℕ) → i < 4 → p < q → get_or a (81 * i + p) 0 ≡ blank_sum i p

-- the q-th sums of the kinds before n too
pub record Filling (q n : ℕ) (a : List ℕ) : Type 0 where
  pub long : length a ≡ 324
  pub before : (i p : ℕ) → i < 4 → p < q → get_or a (81 * i + p) 0 ≡ blank_sum i p
  pub here : (i : ℕ) → i < n → get_or a (81 * i + q) 0 ≡ blank_sum i q

abbrev pub invariant-loop-q : goal.invariant-loop-q
invariant-loop-q l = Filled l.q l.sums
