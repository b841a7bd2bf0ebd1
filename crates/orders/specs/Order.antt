-- The order of trials: its default, and the operator's check of it.
use Rattle.std.specs.Prelude.{◌≡◌, ◌≢◌, ◌↔◌, ◌==◌, Bool, false, cond, not, List, [], ◌∷◌, ℕ, suc, ◌<◌, eqb, ltb, ℤ, pos, negsuc, length, get_or, Option, None, Some, Result, Ok, Err}
use Rattle.std.specs.List.{Contains, position, position_or_len}
use Rattle.std.specs.Option.{option_map}
use Rattle.grid.specs.Counting.{all, least_from}
use Rattle.grid.specs.Refusals.{rule}
use Rattle.grid.specs.declared.Refusal.{Refusal}
use Rattle.grid.specs.declared.Refusal.TheVariants.{OrderLength, OrderEntry, OrderRepeat}
use Rattle.clauses.specs.Literal.{Literal, is_literal}
use Rattle.clauses.specs.Clauses.{range, over}

-- +1, −1, +2, −2 to −729
abbrev pub default_order : List ℤ
default_order = over (range 0 729) λ k. pos (suc k) ∷ negsuc k ∷ []

-- the ceiling where none is named: no job makes more trials
abbrev pub default_ceiling : ℕ
default_ceiling = 1062882

-- the place of the first entry that is zero or outside −729 to 729, or the length
unfoldable pub first_no_literal : List ℤ → ℕ
first_no_literal o = position_or_len (λ l. not (is_literal l)) o

-- two numbers are the same
abbrev pub same : ℤ → ℤ → Bool
same (pos a) (pos b) = eqb a b
same (negsuc a) (negsuc b) = eqb a b
same (pos a) (negsuc b) = false
same (negsuc a) (pos b) = false

-- the entry at place i equals an earlier one
unfoldable pub repeats : List ℤ → ℕ → Bool
repeats o i = not (all i (λ j. not (same (get_or o j (pos 0)) (get_or o i (pos 0)))))

-- the place of the first entry equal to an earlier one, or the length
unfoldable pub first_repeat : List ℤ → ℕ
first_repeat o = least_from 0 (length o) (repeats o)

-- place r, if it is one before n
abbrev pub before : ℕ → ℕ → Option ℕ
before n r = cond (ltb r n) (Some r) None

-- the rules of an order: 22, that it has 1,458 entries; 23, that each is a literal; 24, that none equals an earlier one
unfoldable pub order_rules : List ℤ → List (Option Refusal)
order_rules o =
    rule (length o == 1458) OrderLength
    ∷ option_map OrderEntry (position (λ l. not (is_literal l)) o)
    ∷ option_map OrderRepeat (before (length o) (first_repeat o)) ∷ []

-- 22: not 1,458 entries; 23: the first that is no literal; 24: the first that is a repeat
unfoldable pub order_check : List ℤ → Result (Unit {0}) Refusal
order_check o =
    cond (eqb (length o) 1458)
    (cond (ltb (first_no_literal o) 1458) (Err (OrderEntry (first_no_literal o)))
    (cond (ltb (first_repeat o) 1458) (Err (OrderRepeat (first_repeat o))) (Ok tt)))
    (Err OrderLength)

-- every entry of an order is a literal
abbrev pub Literals : List ℤ → Type 0
Literals o = (i : ℕ) → i < length o → Literal (get_or o i (pos 0))

-- 1,458 literals, each once: just the literals are its entries, and no two entries are the same
pub record EachOnce (o : List ℤ) : Type 0 where
  pub long : length o ≡ 1458
  pub literals : (l : ℤ) → Literal l ↔ Contains o l
  pub once : (i j : ℕ) → i < j → j < length o → get_or o i (pos 0) ≢ get_or o j (pos 0)
