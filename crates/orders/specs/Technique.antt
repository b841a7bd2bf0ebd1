-- The four techniques, and which is at least as strong as which.
use Rattle.std.specs.Prelude.{◌≡◌, ◌↔◌, Bool, true, false, cond, ◌&&◌, ◌||◌, ℕ, nat_le, ◌==◌, T, eqb, IsTrue, Option, Result, Ok, Err}
use Rattle.grid.specs.Refusals.{rule}
use Rattle.grid.specs.declared.Refusal.{Refusal}
use Rattle.grid.specs.declared.Refusal.TheVariants as refusal
use Rattle.clauses.specs.declared.ClauseSet.{ClauseSet}
use Rattle.clauses.specs.declared.ClauseSet.TheVariants.{Minimal, Extended}
use Rattle.orders.specs.declared.technique.Technique.{Technique}

-- 1: unit on set 1
abbrev pub unit_minimal : Technique
unit_minimal = record { set = Minimal; trials = false }

-- 2: unit on set 2
abbrev pub unit_extended : Technique
unit_extended = record { set = Extended; trials = false }

-- 3: trials on set 1
abbrev pub trials_minimal : Technique
trials_minimal = record { set = Minimal; trials = true }

-- 4: trials on set 2
abbrev pub trials_extended : Technique
trials_extended = record { set = Extended; trials = true }

-- the number of the technique with that set, and with trials or without
abbrev pub number_in : ClauseSet → Bool → ℕ
number_in Minimal false = 1
number_in Extended false = 2
number_in Minimal true = 3
number_in Extended true = 4

-- the number of a technique
abbrev pub number_of : Technique → ℕ
number_of t = number_in t.set t.trials

-- the technique of a number
unfoldable pub technique_of : ℕ → Result Technique Refusal
technique_of n =
    cond (eqb n 1) (Ok unit_minimal)
    (cond (eqb n 2) (Ok unit_extended) (cond (eqb n 3) (Ok trials_minimal) (cond (eqb n 4) (Ok trials_extended) (Err refusal.Technique))))

-- the rule of a technique's number: 21, that it is 1 to 4
abbrev pub technique_rule : ℕ → Option Refusal
technique_rule n = rule (nat_le 1 n && nat_le n 4) refusal.Technique

-- the clauses of one set are among those of the other
abbrev pub SetWithin : ClauseSet → ClauseSet → Type 0
SetWithin Minimal t = Unit {0}
SetWithin Extended Minimal = ⊥
SetWithin Extended Extended = Unit {0}

-- u is at least as strong as t: no fewer clauses, and trials where t has them
abbrev pub AtLeast : Technique → Technique → Type 0
AtLeast t u = SetWithin t.set u.set × (T t.trials → T u.trials)

-- the table of the numbers: each with itself, 1 below 2, 3 and 4, 2 below 4, 3 below 4
abbrev pub is_same_or_below : ℕ → ℕ → Bool
is_same_or_below m n = (m == n) || ((m == 1) && ((n == 2) || ((n == 3) || (n == 4)))) || ((m == 2) && (n == 4)) || ((m == 3) && (n == 4))

-- of two techniques with these numbers the second is at least as strong exactly where the table has them; 2 and 3 are not compared
abbrev pub AtLeastTable : Type 0
AtLeastTable = (m n : ℕ) (t u : Technique) → technique_of m ≡ Ok t → technique_of n ≡ Ok u → AtLeast t u ↔ IsTrue (is_same_or_below m n)
