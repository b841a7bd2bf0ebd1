-- What it is to make an order of literals that are lent.
use Rattle.std.specs.Prelude.{◌≡◌, List, ℤ, Result, Ok, Err, MatchResult}
use Rattle.grid.specs.declared.Refusal.{Refusal}
use Rattle.orders.specs.Order.{order_check}
use Rattle.orders.specs.declared.order.Order.{Order}

-- the order has these literals, which the check accepts, or the refusal is the check's
abbrev pub Checks : List ℤ → Result Order Refusal → Type 0
Checks o r = MatchResult r (λ order. (order.entries.now ≡ o) × (order_check o ≡ Ok tt)) (λ e. order_check o ≡ Err e)
