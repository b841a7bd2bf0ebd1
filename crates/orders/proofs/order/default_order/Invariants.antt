-- The first 2 k entries are the default order's; after 729 turns all are.
use mathlib.Core.Path.{◌≡◌}
use mathlib.Core.List.{List}
use Prim.Native.Nat.{ℕ, ◌*◌, ◌<◌}
use lib.IntN.{ℤ}
use lib.ListN.{length}
use Rattle.orders.specs.Order.{default_order}
use Rattle.orders.proofs.Orders.{entry}
use Rattle.orders.proofs.order.default_order.Given as goal

-- the first n entries are the default order's
pub record Begun (n : ℕ) (o : List ℤ) : Type 0 where
  pub long : length o ≡ 1458
  pub same : (j : ℕ) → j < n → entry o j ≡ entry default_order j

abbrev pub invariant-loop-k : goal.invariant-loop-k
invariant-loop-k l = Begun (2 * l.k) l.order
