-- A place's digit stands in its cell or does not.
use mathlib.Core.Path.{◌≡◌, ap, ◌∙◌}
use mathlib.Core.List.{List}
use Prim.Native.Nat.{ℕ, suc, ◌+◌, ◌*◌, ◌/◌, ◌%◌}
use native.Mathlib.Omega.{arith}
use borrow.Author.Tests.{eq-eqb, ne_eqb}
use lib.Dec.{eqb}
use Rattle.grid.specs.Grid.{byte}
use Rattle.clauses.specs.Models.{truth_of}
use Rattle.clauses.proofs.ModelsAreCompletions.{truth_at}
use Rattle.grading.proofs.mark_of.Goals as goal

-- the truth of a place's variable
is_truth : (b : List ℕ) (p : ℕ) → truth_of b (suc p) ≡ eqb (byte b (p / 9)) (49 + p % 9)
is_truth b p = let e : p ≡ 9 * (p / 9) + p % 9 = omega arith in ap (λ x. truth_of b (suc x)) e ∙ truth_at b (p / 9) (p % 9) (omega arith)

pub returns-then-completion-p : goal.returns-then-completion-p
returns-then-completion-p c = rw (is_truth c.args.completion.now c.args.p ∙ eq-eqb _ _ c.if-completion-p.true)

pub returns-else-completion-p : goal.returns-else-completion-p
returns-else-completion-p c = rw (is_truth c.args.completion.now c.args.p ∙ ne_eqb _ _ c.if-completion-p.false)
