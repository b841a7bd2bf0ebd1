-- The search call: its answer, and what it leaves in the two lent buffers.
use Rattle.std.specs.Prelude.{cond, ◌&&◌, List, ◌∷◌, ℕ, eqb, ◌==◌, length, Option, Result, Ok, Err}
use Rattle.grid.specs.Refusals.{rule, grid_rules, on_accepted, grid_check}
use Rattle.grid.specs.declared.Refusal.{Refusal}
use Rattle.grid.specs.declared.Refusal.TheVariants.{BufferLength}
use Rattle.completions.specs.Completions.{completions}
use Rattle.exploration.specs.Search.{found_of, count_of, first_of, second_of}
use Rattle.exploration.specs.declared.Found.{Found}

-- the rules of a search call: 42, that both buffers are 81 bytes long; then the grid's
unfoldable pub search_rules : List ℕ → List ℕ → List ℕ → List (Option Refusal)
search_rules grid first second = rule ((length first == 81) && (length second == 81)) BufferLength ∷ grid_rules grid

-- what a search call gives back: how many completions, or a refusal, and the two lent buffers at its return
abbrev pub Given : Type 0
Given = Result ℕ Refusal × List ℕ × List ℕ

-- the number of completions as far as 2, and the smallest two, in byte order; zero bytes where there is none
abbrev pub counted : Found → Given
counted f = (Ok (count_of f), first_of f, second_of f)

-- a refusal changes nothing
abbrev pub refused : List ℕ → List ℕ → Refusal → Given
refused a b r = (Err r, a, b)

-- 42: a buffer that is not 81 long; then the keyer's check
unfoldable pub search_call : List ℕ → List ℕ → List ℕ → Given
search_call g a b =
    cond (eqb (length a) 81 && eqb (length b) 81)
    (on_accepted (grid_check g) (refused a b) λ u. counted (found_of (completions g)))
    (refused a b BufferLength)
