-- Literals whose trials are known to succeed, so that they are only counted: those of the closure of a trial that succeeded at the same marks, and
-- those of a legal completion of the grid.
use Rattle.std.specs.Prelude.{◌≡◌, ℕ, ◌%◌, ◌≤◌, T, ℤ, pos, negsuc, length, get_or}
use mathlib.Core.List.{List, Memᴰ}
use Rattle.grid.specs.Completion.{Legal}
use Rattle.clauses.specs.Literal.{Literal, mark_index}
use Rattle.clauses.specs.Clauses.{Clause, clauses_of}
use Rattle.clauses.specs.Models.{Truth, holds, Satisfies, truth_of}
use Rattle.clauses.specs.declared.ClauseSet.{ClauseSet}
use Rattle.closure.specs.Sets.{Least}
use Rattle.closure.specs.Closure.{Contradiction, With, UnitClosed}
use Rattle.closure.specs.Marks.{has}

-- a variable's byte names a literal: an odd one the positive literal, one of 2 or more the negative, so that a mark names the literal that it marks
abbrev pub Names : ℕ → ℤ → Type 0
Names b (pos v) = b % 2 ≡ 1
Names b (negsuc v) = 2 ≤ b

-- a byte for each variable: the literals that they name
abbrev pub Named : List ℕ → ℤ → Type 0
Named bs l = Names (get_or bs (mark_index l) 0) l

-- a byte for each variable, and P holds of every literal that the bytes name
pub record EachNamed (P : ℤ → Type 0) (bs : List ℕ) : Type 0 where
  pub long : length bs ≡ 729
  pub each : (l : ℤ) → Literal l → Named bs l → P l

-- a trial of l at marks m does not fail
abbrev pub Succeeds : ClauseSet → List ℕ → ℤ → Type 0
Succeeds s m l = Contradiction (Least (UnitClosed (clauses_of s)) (With (has m) l)) → ⊥

-- some truth of the variables satisfies the clauses and has the marks and l
abbrev pub Possible : ClauseSet → List ℕ → ℤ → Type 0
Possible s m l = (A : Truth) × ((c : Clause) → Memᴰ c (clauses_of s) → Satisfies A c) × ((k : ℤ) → T (has m k) → T (holds A k)) × T (holds A l)

-- l is a literal of a legal completion of the grid
abbrev pub Completes : List ℕ → ℤ → Type 0
Completes g l = (b : List ℕ) × Legal g b × T (holds (truth_of b) l)

-- every literal that is named succeeds at marks m
abbrev pub KnownOk : ClauseSet → List ℕ → List ℕ → Type 0
KnownOk s m = EachNamed (Succeeds s m)

-- every literal that is named is possible with marks m
abbrev pub PossibleOk : ClauseSet → List ℕ → List ℕ → Type 0
PossibleOk s m = EachNamed (Possible s m)

-- every literal that is named is one of a legal completion of the grid
abbrev pub CompletionOk : List ℕ → List ℕ → Type 0
CompletionOk g = EachNamed (Completes g)
