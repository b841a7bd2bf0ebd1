-- What the bodies say: ceiling and order.
use Rattle.std.specs.Prelude.{List, map, ℕ, ◌*◌, ℤ, Option, None, Some}
use Rattle.clauses.specs.Clauses.{range}
use Rattle.orders.specs.Order.{default_order, default_ceiling}
use Rattle.pieces.specs.Number.{signed_of, word_at}

-- the ceiling, 1,062,882 where none is named
abbrev pub ceiling_in : Option ℕ → ℕ
ceiling_in None = default_ceiling
ceiling_in (Some ceiling) = ceiling

-- the entry of an order at a place: two bytes, two's complement
abbrev pub entry_at : List ℕ → ℕ → ℤ
entry_at f p = signed_of (word_at f p)

-- the 1,458 entries of an order
unfoldable pub entries_in : List ℕ → List ℤ
entries_in f = map (λ k. entry_at f (2 * k)) (range 0 1458)

-- the order, +1, −1, +2, −2 to −729 where none is named
unfoldable pub order_in : Option (List ℕ) → List ℤ
order_in None = default_order
order_in (Some body) = entries_in body
