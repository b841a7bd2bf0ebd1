-- The search call by its checks: it is refused by the first broken rule.
-- Assumes nothing.
use mathlib.Core.Path.{◌≡◌, refl}
use mathlib.Core.Bool.{◌&&◌}
use mathlib.Core.List.{List}
use Prim.Native.Nat.{ℕ}
use lib.Dec.{eqb}
use lib.ListN.{length}
use Rattle.std.specs.Prelude.{Option}
use Rattle.std.specs.Result.{result_err}
use Rattle.grid.specs.Refusals.{first_broken, grid_rules, grid_check}
use Rattle.grid.specs.declared.Refusal.{Refusal}
use Rattle.grid.specs.declared.Refusal.TheVariants.{BufferLength}
use Rattle.grid.proofs.Checks.{tested_first, last_first, grid_broken}
use Rattle.search.specs.Call.{search_rules, Given, refused, search_call}

module _ (g a b : List ℕ) where
  abbrev told : Given → Option Refusal
  told y = result_err y.0

  pub search_broken : told (search_call g a b) ≡ first_broken (search_rules g a b)
  unfolding search_call search_rules
  search_broken =
      tested_first (refused a b) told (λ f. refl) (eqb (length a) 81 && eqb (length b) 81) BufferLength _ _ λ long.
      last_first (refused a b) told (λ f. refl) (grid_check g) _ (grid_rules g) (grid_broken g) λ u grid. refl
