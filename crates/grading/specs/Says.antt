-- What a grading that is not refused says, by the number of its verdict: 0 no completion, 1 to 4 the technique that finishes, 5 none does, 6 stopped, 7
-- several completions.
use Rattle.std.specs.Prelude.{◌≡◌, ◌⊎◌, ◌↔◌, Bool, if◌then◌else◌, ◌==◌, ◌||◌, List, [], ◌∷◌, ℕ, ◌+◌, ◌*◌, ◌-◌, ◌≤◌, ℤ, Option, None}
use Rattle.std.specs.List.{find}
use Rattle.std.specs.Option.{IsSomeAnd}
use Rattle.grid.specs.Completion.{Legal}
use Rattle.closure.specs.Job.{End, count_of, outcome_of}
use Rattle.orders.specs.Technique as technique
use Rattle.orders.specs.declared.technique.Technique.{Technique}
use Rattle.inference.specs.Call.{job_end_of}
use Rattle.exploration.specs.Search.{zeros}
use Rattle.grading.specs.Grade.{ladder}

-- b is the only legal completion of g
abbrev pub IsOnly : List ℕ → List ℕ → Type 0
IsOnly g b = Legal g b × ((d : List ℕ) → Legal g d → d ≡ b)

-- g has just one legal completion
abbrev pub HasOne : List ℕ → Type 0
HasOne g = (b : List ℕ) × IsOnly g b

-- g has several
abbrev pub HasSeveral : List ℕ → Type 0
HasSeveral g = (b : List ℕ) × (d : List ℕ) × Legal g b × Legal g d × (b ≡ d → ⊥)

-- a technique, and how its job ends
pub record Run : Type 0 where
  pub technique : Technique
  pub end : End

-- the job is solved or stopped, and so ends the grading
abbrev pub ends_grading : Run → Bool
ends_grading r = (outcome_of r.end == 1) || (outcome_of r.end == 3)

-- the trials of the jobs up to the first that ends the grading
abbrev pub made_in : List Run → ℕ
made_in [] = 0
made_in (r ∷ rs) = count_of r.end + (if ends_grading r then 0 else made_in rs)

module _ (g : List ℕ) (o : List ℤ) (ceiling : ℕ) where
  -- the jobs of some techniques, one after the other, each with what the earlier ones left of the ceiling
  abbrev pub runs_from : List Technique → ℕ → List Run
  runs_from [] made = []
  runs_from (t ∷ ts) made =
      record { technique = t; end = job_end_of t o g (ceiling - made) }
      ∷ runs_from ts (made + count_of (job_end_of t o g (ceiling - made)))

  -- those of a grading
  abbrev pub runs : List Run
  runs = runs_from ladder 0

  -- the first of them that is solved or stopped
  abbrev pub deciding_run : Option Run
  deciding_run = find ends_grading runs

-- the trials that a technique makes at most where some variable is decided at its start, 2 · 728 + 2 · 727 + .. + 2: a pass makes at most two for each
-- variable that is undecided at its start, and each pass but the last decides one
abbrev pub technique_most : ℕ
technique_most = 728 * 729

-- What is said of the completions: verdict 0 comes exactly if there is none and 7 exactly if there are several, and then no technique is run and the buffer
-- is zeros; else the buffer is the only completion.
pub record SaysCompletions (g : List ℕ) (verdict trials : ℕ) (b : List ℕ) : Type 0 where
  pub none : (verdict ≡ 0) ↔ ((d : List ℕ) → Legal g d → ⊥)
  pub several : (verdict ≡ 7) ↔ HasSeveral g
  pub only : (verdict ≡ 0 → ⊥) → (verdict ≡ 7 → ⊥) → IsOnly g b
  pub unused : (verdict ≡ 0) ⊎ (verdict ≡ 7) → (b ≡ zeros) × (trials ≡ 0)

-- What is said of the techniques, where there is one completion: verdict 1 to 4 is the first technique whose job solves, and none before it is stopped; 5
-- comes exactly if none solves and none is stopped, and 6 exactly if one is stopped before any solves. The trial total is the sum of the counts.
pub record SaysTechniques (g : List ℕ) (o : List ℤ) (ceiling verdict trials : ℕ) : Type 0 where
  pub solved : (t : Technique) → (verdict ≡ technique.number_of t) ↔ (HasOne g × IsSomeAnd (deciding_run g o ceiling) (λ r. (outcome_of r.end ≡ 1) × (r.technique ≡ t)))
  pub unfinished : (verdict ≡ 5) ↔ (HasOne g × (deciding_run g o ceiling ≡ None))
  pub stopped : (verdict ≡ 6) ↔ (HasOne g × IsSomeAnd (deciding_run g o ceiling) (λ r. outcome_of r.end ≡ 3))
  pub made : (verdict ≡ 0 → ⊥) → (verdict ≡ 7 → ⊥) → trials ≡ made_in (runs g o ceiling)

-- What is said of the ceiling: the trial total is within it, and at it where the verdict is 6, which comes under no ceiling that has room for both
-- techniques with trials, from 1,061,424 on.
pub record SaysCeiling (ceiling verdict trials : ℕ) : Type 0 where
  pub within : trials ≤ ceiling
  pub reached : verdict ≡ 6 → trials ≡ ceiling
  pub enough : 2 * technique_most ≤ ceiling → verdict ≡ 6 → ⊥

-- what a grading says, of the grid g, along the order o, under a ceiling, with that verdict, trial total and buffer
pub record GradingSays (g : List ℕ) (o : List ℤ) (ceiling verdict trials : ℕ) (b : List ℕ) : Type 0 where
  pub completions : SaysCompletions g verdict trials b
  pub techniques : SaysTechniques g o ceiling verdict trials
  pub total : SaysCeiling ceiling verdict trials
