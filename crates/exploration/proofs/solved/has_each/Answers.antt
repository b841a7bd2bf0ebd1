-- Each cell sets the bit of its digit.
use mathlib.Core.Path.{◌≡◌, refl, subst}
use mathlib.Core.List.{List}
use Prim.Native.Nat.{ℕ, ◌≤◌, ◌<◌}
use native.Mathlib.Omega.{arith}
use borrow.Author.Tests.{eqb-true, eq-eqb}
use Rattle.std.specs.Prelude.{bit_and}
use Rattle.grid.specs.Grid.{byte}
use Rattle.grid.specs.House.{cell_of}
use Rattle.grid.specs.Completion.{times}
use Rattle.grid.proofs.House.{cell_below}
use Rattle.grid.proofs.Completion.{digit_iff}
use Rattle.exploration.specs.Search.{ClosedBefore}
use Rattle.exploration.proofs.AllDigits.{HasBits, no_bits, one_bit, all_bits}
use Rattle.exploration.proofs.solved.has_each.Goals as goal

pub loop-k-init : goal.loop-k-init
loop-k-init c = (omega arith, no_bits (λ k. byte c.args.grid.now (cell_of c.args.house k)))

pub bounds-grid-house_cell : goal.bounds-grid-house_cell
bounds-grid-house_cell c = omega (arith, c.house_cell.ensures, cell_below c.args.house c.loop-k.k c.requires.1 c.loop-k-test.true)

-- the byte of a cell of a house is a digit
in_house : (g : List ℕ) (h k cell : ℕ) → ClosedBefore g 81 → h < 27 → k < 9 → cell ≡ cell_of h k → (49 ≤ byte g cell) × (byte g cell ≤ 57)
in_house g h k cell full u v e = (digit_iff (byte g cell)).0 (full cell (omega (arith, e, cell_below h k u v)))

pub overflow_sub-digits : goal.overflow_sub-digits
overflow_sub-digits c =
    (in_house c.args.grid.now c.args.house c.loop-k.k c.house_cell.result c.requires.0 c.requires.1 c.loop-k-test.true c.house_cell.ensures).0

pub overflow_shl-digits : goal.overflow_shl-digits
overflow_shl-digits c =
    omega (arith, in_house c.args.grid.now c.args.house c.loop-k.k c.house_cell.result c.requires.0 c.requires.1 c.loop-k-test.true c.house_cell.ensures)

pub loop-k-preserved : goal.loop-k-preserved
loop-k-preserved c =
    let g = c.args.grid.now in
    let f : ℕ → ℕ = λ k. byte g (cell_of c.args.house k) in
    let e = c.house_cell.ensures in
    let b = in_house g c.args.house c.loop-k.k (cell_of c.args.house c.loop-k.k) c.requires.0 c.requires.1 c.loop-k-test.true refl in
    (omega arith, rw e (one_bit f c.loop-k.k c.loop-k.digits b.0 b.1 c.loop-k.invariant.1))

pub returns : goal.returns
unfolding times
returns c =
    let nine : c.loop-k.k ≡ 9 = omega (arith, c.loop-k.invariant.0, c.loop-k-test.false) in
    let f : ℕ → ℕ = λ k. byte c.args.grid.now (cell_of c.args.house k) in
    let i : HasBits f 9 c.loop-k.digits = subst (λ k. HasBits f k c.loop-k.digits) nine c.loop-k.invariant.1 in
    let all = all_bits c.loop-k.digits in (
      λ t d few. (i d few).0 (all.0 (eqb-true (bit_and c.loop-k.digits 511) 511 t) d few),
      λ h. eq-eqb (bit_and c.loop-k.digits 511) 511 (all.1 (λ d few. (i d few).1 (h d few))),
    )
