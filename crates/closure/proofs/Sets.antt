-- Laws of least sets. A literal of a least set is in every set that the rules close and that holds the givens, so that a closure grows
-- with its rules and its givens, and what it has already may be added to its givens. Nothing here knows of clauses.
-- Assumes nothing.
use mathlib.Core.Logic.{◌↔◌}
use lib.Dec.{T}
use lib.IntN.{ℤ}
use Rattle.closure.specs.Sets.{LiteralSet, Least, IsLeast}

-- a given is in the closure
pub least_given : (R : LiteralSet → Type 0) {G : ℤ → Type 0} (l : ℤ) → G l → Least R G l
least_given R l g S r h = h l g

-- the closure of what is in a closure under stronger rules is in that closure
pub least_within : {R R' : LiteralSet → Type 0} {G G' : ℤ → Type 0}
    → ((S : LiteralSet) → R' S → R S) → ((l : ℤ) → G l → Least R' G' l) → (l : ℤ) → Least R G l → Least R' G' l
least_within rules givens l d S r h = d S (rules S r) (λ m p. givens m p S r h)

-- the one law of strength: weaker rules and fewer givens have a smaller closure
pub least_mono : {R R' : LiteralSet → Type 0} {G G' : ℤ → Type 0}
    → ((S : LiteralSet) → R' S → R S) → ((l : ℤ) → G l → G' l) → (l : ℤ) → Least R G l → Least R' G' l
least_mono {R' = R'} rules givens = least_within rules (λ m p. least_given R' m (givens m p))

-- a set that is the closure has just the literals of the closure
pub least_iff : {R : LiteralSet → Type 0} {G : ℤ → Type 0} {S : LiteralSet} → IsLeast R G S → (l : ℤ) → T (S l) ↔ Least R G l
least_iff {S = S} i l = (i.within l, λ d. d S i.closed i.holds)
