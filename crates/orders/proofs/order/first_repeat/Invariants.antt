-- The entries before the next one have come by, and none of them is a repeat.
use mathlib.Core.Path.{◌≡◌}
use mathlib.Core.Bool.{false}
use Prim.Native.Nat.{ℕ, ◌<◌}
use Rattle.orders.specs.Order.{repeats}
use Rattle.orders.proofs.Seen.{Seen}
use Rattle.orders.proofs.order.first_repeat.Given as goal

abbrev pub invariant-loop-i : goal.invariant-loop-i
invariant-loop-i l = Seen l.order l.i l.seen × ((k : ℕ) → k < l.i → repeats l.order k ≡ false)
