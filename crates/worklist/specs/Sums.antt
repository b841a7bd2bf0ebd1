-- Sums of weights. Each place of a nine-literal clause weighs nothing where it is false, some 1,024 where it is undecided, and some 2,048 where
-- it is true, so that the sum tells what the clause says: 0, that all places are false; less than 2,048, that one is left, and which.
use Rattle.std.specs.Prelude.{◌≡◌, List, ℕ, zero, suc, ◌+◌, ◌*◌, ◌<◌, length, get_or}
use Rattle.grid.specs.Counting.{total}
use Rattle.clauses.specs.Shape.{place_of}
use Rattle.clauses.specs.declared.ClauseSet.{ClauseSet}
use Rattle.clauses.specs.declared.Group.{Group}
use Rattle.groups.specs.Groups.{nine_kinds, group_in}

-- what place p weighs by its mark
abbrev pub weight : ℕ → ℕ → ℕ
weight zero p = 1024 + p
weight (suc zero) p = 2048 + p
weight (suc (suc b)) p = 0

-- what the nine places of a group weigh
unfoldable pub sum_of : List ℕ → Group → ℕ
sum_of m g = total 9 (λ k. weight (get_or m (place_of g k) 0) (place_of g k))

-- slot x is one of the set's
abbrev pub InSlots : ClauseSet → ℕ → Type 0
InSlots s x = x < 81 * nine_kinds s

-- the sums of marks m: one for each slot of the set
pub record SumsOk (s : ClauseSet) (m a : List ℕ) : Type 0 where
  pub long : length a ≡ 324
  pub sums : (x : ℕ) → InSlots s x → get_or a x 0 ≡ sum_of m (group_in x)
