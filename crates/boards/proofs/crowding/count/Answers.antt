-- A bit adds itself.
use mathlib.Core.Path.{◌≡◌, refl}
use Prim.Native.Nat.{ℕ, zero, suc, ◌<◌}
use native.Mathlib.Omega.{arith}
use lib.Dec.{eqb}
use Rattle.std.specs.Int.{bit_at}
use Rattle.std.proofs.lemmas.Nat.Bits.{shr_and_one, bit_at-lt}
use Rattle.grid.specs.Counting.{tick, total}
use Rattle.grid.proofs.Counting.{tally_more, tally_bound}
use Rattle.boards.specs.Tables.{on}
use Rattle.boards.proofs.crowding.count.Goals as goal

bit_ticks : (x : ℕ) → x < 2 → tick (eqb x 1) ≡ x
bit_ticks zero h = refl
bit_ticks (suc zero) h = refl
bit_ticks (suc (suc x)) h = absurd (omega arith)

pub loop-d-init : goal.loop-d-init
unfolding total
loop-d-init c = (omega arith, refl)

pub overflow_add-count : goal.overflow_add-count
overflow_add-count c =
    omega (arith, c.loop-d.invariant.1, tally_bound c.loop-d.d (on c.args.digits), shr_and_one c.args.digits c.loop-d.d, bit_at-lt c.args.digits c.loop-d.d)

pub loop-d-preserved : goal.loop-d-preserved
loop-d-preserved c =
    let n = c.args.digits in
    let d = c.loop-d.d in
    (omega arith, omega (arith, c.loop-d.invariant.1, tally_more d (on n), shr_and_one n d, bit_ticks (bit_at n d) (bit_at-lt n d)))
