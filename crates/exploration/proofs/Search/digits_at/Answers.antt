-- A completion is the one grid that is known, or fits the boards.
use mathlib.Core.Path.{◌≡◌, sym, subst, ap, ◌∙◌}
use Prim.Native.Nat.{ℕ, ◌+◌, ◌*◌, ◌-◌, ◌/◌, ◌%◌, ◌%◌, ◌^◌, ◌≤◌}
use native.Mathlib.Omega.{arith}
use lib.Dec.{T}
use Rattle.grid.specs.Grid.{byte, is_digit}
use Rattle.grid.proofs.Completion.{digit_iff}
use Rattle.boards.specs.Boards.{On}
use Rattle.boards.proofs.Tests.{holds}
use Rattle.boards.proofs.Bits.{lone_on}
use Rattle.exploration.proofs.Search.digits_at.Goals as goal

bounds : (b : ℕ) → T (is_digit b) → (49 ≤ b) × (b ≤ 57)
bounds b t = (digit_iff b).0 t

pub overflow_sub-result : goal.overflow_sub-result
overflow_sub-result c = (bounds _ (holds (sym c.is_digit.ensures ∙ c.if-is_digit.true))).0

pub overflow_shl-result : goal.overflow_shl-result
overflow_shl-result c = omega (arith, bounds _ (holds (sym c.is_digit.ensures ∙ c.if-is_digit.true)))

pub returns-in-Some : goal.returns-in-Some
returns-in-Some c g k b d l few e =
    let same : byte c.in-Some.only c.args.cell ≡ 49 + d = ap (λ g. byte g c.args.cell) (k.single b c.in-Some.only l c.in-Some.is) ∙ e in
    let here : byte c.in-Some.only c.args.cell - 49 ≡ d = omega (arith, same) in
    subst (λ x. On (1 * 2 ^ x % 4294967296) d) (sym here) (lone_on d (omega arith))

pub returns-in-Some-2 : goal.returns-in-Some-2
returns-in-Some-2 c g k b d l few e =
    let same : byte c.in-Some.only c.args.cell ≡ 49 + d = ap (λ g. byte g c.args.cell) (k.single b c.in-Some.only l c.in-Some.is) ∙ e in
    absurd (subst T (sym c.is_digit.ensures ∙ c.if-is_digit.false) ((digit_iff (byte c.in-Some.only c.args.cell)).1 (omega (arith, same), omega (arith, same))))

pub returns-in-None : goal.returns-in-None
returns-in-None c g k b d l few e =
    let cell = c.args.cell in
    let q : 27 * (cell / 27) + cell % 27 ≡ cell = omega arith in
    c.digits_at.ensures d few ((k.fits b l).covered d (cell / 27) few (omega arith) (cell % 27) (omega arith) (ap (byte b) q ∙ e))
