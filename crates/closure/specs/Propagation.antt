-- Unit closure, computed: the clauses are swept again and again until a sweep decides nothing.
use Rattle.std.specs.Prelude.{Bool, true, false, List, [], ◌∷◌, ℕ, zero, suc, eqb, ℤ, neg_ℤ}
use Rattle.clauses.specs.Clauses.{Clause}
use Rattle.closure.specs.Sets.{LiteralSet, Least, IsLeast}
use Rattle.closure.specs.Closure.{Contradiction}
use Rattle.closure.specs.Marks.{has, mark, decided}

-- a contradiction, or a state
pub data Answer : Type 0 where
  clash : Answer
  closed : List ℕ → Answer

-- go on from a state
abbrev pub bind : Answer → (List ℕ → Answer) → Answer
bind clash k = clash
bind (closed m) k = k m

-- the literals of a clause whose negations are not marked
unfoldable pub remaining : List ℕ → Clause → List ℤ
remaining m [] = []
remaining m (l ∷ c) = elim (has m (neg_ℤ l)) [ true ↦ remaining m c | false ↦ l ∷ remaining m c ]

-- what the unit rule does where these literals remain of a clause
abbrev pub unit : List ℕ → List ℤ → Answer
unit m [] = clash
unit m (l ∷ []) = closed (mark m l)
unit m (l ∷ k ∷ ls) = closed m

-- the unit rule along some clauses
unfoldable pub sweep : List ℕ → List Clause → Answer
sweep m [] = closed m
sweep m (c ∷ cs) = bind (unit m (remaining m c)) (λ m'. sweep m' cs)

-- stop where a sweep has decided nothing
abbrev pub again : Bool → List ℕ → (List ℕ → Answer) → Answer
again true m k = closed m
again false m k = k m

-- at most so many sweeps
unfoldable pub sweeps : ℕ → List Clause → List ℕ → Answer
sweeps zero cs m = closed m
sweeps (suc n) cs m = bind (sweep m cs) (λ m'. again (eqb (decided m') (decided m)) m' (λ t. sweeps n cs t))

-- the unit closure of a state: each sweep but the last decides a variable
unfoldable pub unit_closure : List Clause → List ℕ → Answer
unit_closure cs m = sweeps 730 cs m

-- a literal joins the state; a contradiction where its negation is there
abbrev pub joined : Bool → List ℕ → ℤ → Answer
joined true m l = clash
joined false m l = closed (mark m l)

-- some literals join the state, one after the other
unfoldable pub join : List ℕ → List ℤ → Answer
join m [] = closed m
join m (l ∷ ls) = bind (joined (has m (neg_ℤ l)) m l) (λ m'. join m' ls)

-- the answer is the closure of G under the rules R: a clash where that is a contradiction, else a state with just its literals
abbrev pub Closes : (LiteralSet → Type 0) → (ℤ → Type 0) → Answer → Type 0
Closes R G clash = Contradiction (Least R G)
Closes R G (closed m) = IsLeast R G (has m)
