-- The table of the literals that have come by while an order is scanned: after n entries a literal's place tells whether it is one of
-- them. No two literals share a place, so a literal that is read changes what is told of itself alone.
-- Assumes nothing.
use mathlib.Core.Path.{◌≡◌, refl, ap, sym, ◌∙◌}
use mathlib.Core.Bool.{Bool, true, false, ◌||◌}
use mathlib.Core.List.{List}
use Prim.Native.Nat.{ℕ, ◌+◌}
use native.Mathlib.Decide.{ℕ_discrete}
use native.Mathlib.Numerals.{add-one}
use native.Mathlib.Omega.{arith}
use lib.IntN.{ℤ}
use lib.ListN.{length, get_or, set, replicate, get_or-replicate, length-set}
use lib.Seq.{get_or-set_same, get_or-set_other}
use Rattle.grid.proofs.Table.{true_is, false_is}
use Rattle.clauses.specs.Literal.{Literal}
use Rattle.orders.specs.Order.{same, repeats}
use Rattle.orders.specs.Place.{table_place}
use Rattle.orders.proofs.Orders.{entry, among, among_none, among_more, same_iff, place_below, place_once}

module _ (o : List ℤ) where
  -- what the table has after n entries
  pub record Seen (n : ℕ) (seen : List Bool) : Type 0 where
    pub long : length seen ≡ 1459
    pub told : (l : ℤ) → Literal l → get_or seen (table_place l) false ≡ among o n l

  pub seen_none : Seen 0 (replicate 1459 false)
  seen_none = record { long = refl; told = λ l h. rw (among_none o l) (get_or-replicate 1459 (table_place l) false false (place_below l h)) }

  -- entry n is read, whose place is `at`: the table tells whether it is a repeat, and then has it too
  pub record Read (n : ℕ) (seen : List Bool) (at : ℕ) : Type 0 where
    pub is : get_or seen at false ≡ repeats o n
    pub more : Seen (n + 1) (set seen at true)

  module _ (n : ℕ) (seen : List Bool) (s : Seen n seen) (h : Literal (entry o n)) (at : ℕ) (e : at ≡ table_place (entry o n)) where
    here : get_or seen at false ≡ repeats o n
    unfolding repeats
    here = rw e (s.told (entry o n) h)

    each : (l : ℤ) → Literal l → Dec (table_place l ≡ at) → get_or (set seen at true) (table_place l) false ≡ same (entry o n) l || among o n l
    each l i (yes q) =
        let t = true_is (same (entry o n) l) ((same_iff (entry o n) l).1 (place_once (entry o n) l h i (sym (q ∙ e)))) in
        rw (q, get_or-set_same seen at true false (omega (arith, s.long, place_below (entry o n) h)), t)
    each l i (no q) =
        let f = false_is (same (entry o n) l) (λ t. q (ap table_place (sym ((same_iff (entry o n) l).0 t)) ∙ sym e)) in
        get_or-set_other seen at (table_place l) true false q ∙ s.told l i ∙ ap (λ b. b || among o n l) (sym f)

    more : Seen (n + 1) (set seen at true)
    more = record {
      long = length-set seen at true ∙ s.long;
      told = λ l i. rw (add-one n, among_more o l n) (each l i (ℕ_discrete (table_place l) at));
    }

    pub entry_read : Read n seen at
    entry_read = record { is = here; more = more }
