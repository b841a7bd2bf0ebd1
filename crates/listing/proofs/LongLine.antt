-- A line longer than a grid is refused for its length, whatever its bytes. So of such a line its first 82 bytes tell the output line.
-- Assumes nothing.
use mathlib.Core.Path.{◌≡◌, refl, sym, ◌∙◌}
use mathlib.Core.List.{List, ◌++◌}
use Prim.Native.Nat.{ℕ, ◌≤◌}
use native.Mathlib.Omega.{arith}
use lib.ListN.{length}
use Rattle.std.proofs.lemmas.Bool.{ne_eqb}
use Rattle.std.proofs.lemmas.List.{length-append}
use Rattle.std.specs.Prelude.{Err}
use Rattle.grid.specs.Refusals.{grid_check}
use Rattle.grid.specs.declared.Refusal.TheVariants.{GridLength}
use Rattle.grading.specs.Grade.{grade_call}
use Rattle.listing.specs.Listing.{shown, listed}

too_long : (n : ℕ) (line : List ℕ) → 82 ≤ length line → listed n line ≡ shown n (Err GridLength)
unfolding listed grade_call grid_check
too_long n line h = rw (ne_eqb (length line) 81 (λ e. omega arith)) refl

pub long_line : (n : ℕ) (line more : List ℕ) → 82 ≤ length line → listed n (line ++ more) ≡ listed n line
long_line n line more h = too_long n (line ++ more) (omega (arith, length-append line more)) ∙ sym (too_long n line h)
