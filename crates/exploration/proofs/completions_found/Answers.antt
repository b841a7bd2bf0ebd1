-- All completions fit the boards of the grid, so that the grids that may fit them are all that may complete it.
use mathlib.Core.Path.{◌≡◌, refl, ap, sym, ◌∙◌}
use mathlib.Core.List.{List, []}
use Prim.Native.Nat.{ℕ}
use mathlib.Core.Bool.{false}
use Rattle.std.specs.Prelude.{Result, Ok, Err, IsOk, OnOk, is_err}
use Rattle.counting.specs.declared.attempts.Stop.{Stop}
use Rattle.grid.specs.Completion.{Legal}
use Rattle.completions.specs.Completions.{completions}
use Rattle.completions.proofs.ByteOrder.{in_order_same, in_order_none}
use Rattle.completions.proofs.Completions.{completions_in_order}
use Rattle.exploration.specs.Search.{found_of}
use Rattle.exploration.proofs.completions_found.Goals as goal

-- where no grid may complete it, it has no completion
none : (g : List ℕ) → ((b : List ℕ) → Legal g b → ⊥) → completions g ≡ []
none g n = in_order_same (Legal g) (Legal g) (completions g) [] (completions_in_order g) (in_order_none (Legal g) n) (λ b. ((λ l. l), λ l. l))

pub returns-in-Ok-None : goal.returns-in-Ok-None
unfolding found_of
returns-in-Ok-None c =
    let nothing : (b : List ℕ) → Legal c.args.grid.now b → ⊥ = λ b l.
    let e = sym c.in-Ok-None.field-0-is ∙ c.in-Ok-None.ensures b (c.start-boards.ensures b l) in cc in
    ap found_of (sym (none c.args.grid.now nothing))

-- what holds of a search that has not been stopped
unstopped : {P : Type 0} (r : Result (Unit {0}) Stop) → OnOk r P → is_err r ≡ false → P
unstopped (Ok u) p e = p
unstopped (Err s) p e = cc

kept_going : {P : Type 0} (r : Result (Unit {0}) Stop) → OnOk r P → IsOk r → P
kept_going (Ok u) p i = p
kept_going (Err s) p i = cc

pub returns-then-is_err : goal.returns-then-is_err
unfolding found_of
returns-then-is_err c =
    let e = c.explore-then-is_err.ensures in
    kept_going c.explore-then-is_err.result e.found (e.ok refl) [] refl

pub returns-else-is_err : goal.returns-else-is_err
unfolding found_of
returns-else-is_err c = unstopped c.explore.result c.explore.ensures.found (sym c.is_err.ensures.value ∙ c.if-is_err.false) [] refl
