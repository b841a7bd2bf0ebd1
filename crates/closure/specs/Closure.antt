-- Unit closure and trial closure over a clause set, as least sets: the rules of a technique are those that its closure is closed under.
use Rattle.std.specs.Prelude.{◌≡◌, ◌⊎◌, Bool, true, false, ℕ, suc, T, ℤ, pos, negsuc, neg_ℤ}
use mathlib.Core.List.{List, Memᴰ}
use Rattle.clauses.specs.Literal.{Literal}
use Rattle.clauses.specs.Clauses.{Clause}
use Rattle.closure.specs.Sets.{LiteralSet, Least}

-- some variable has both signs
abbrev pub Contradiction : (ℤ → Type 0) → Type 0
Contradiction G = (k : ℕ) × G (pos (suc k)) × G (negsuc k)

-- the set with one literal more
abbrev pub With : LiteralSet → ℤ → ℤ → Type 0
With S l m = T (S m) ⊎ (m ≡ l)

-- for each clause whose other literals all have their negations in the set, the set has the remaining literal
abbrev pub UnitClosed : List Clause → LiteralSet → Type 0
UnitClosed cs S =
    (c : Clause) → Memᴰ c cs → (l : ℤ) → Memᴰ l c
    → ((m : ℤ) → Memᴰ m c → (m ≡ l → ⊥) → T (S (neg_ℤ m))) → T (S l)

-- the set has −l whenever the unit closure of the set with l is a contradiction
abbrev pub TrialClosed : List Clause → LiteralSet → Type 0
TrialClosed cs S = (l : ℤ) → Literal l → Contradiction (Least (UnitClosed cs) (With S l)) → T (S (neg_ℤ l))

-- the rules of a technique over a clause set: the unit rule, and with trials the trial rule too
abbrev pub Rules : List Clause → Bool → LiteralSet → Type 0
Rules cs false S = UnitClosed cs S
Rules cs true S = UnitClosed cs S × TrialClosed cs S
