-- The bits from one on are shifted down to it, so that those below the lowest that is set are passed over.
use mathlib.Core.Path.{◌≡◌, subst}
use Prim.Native.Nat.{ℕ, ◌+◌, ◌-◌, ◌/◌, ◌^◌, ◌≤◌, ◌<◌}
use native.Mathlib.Decide.{ℕ_discrete}
use native.Mathlib.Omega.{arith}
use mir.Syntax.{w32}
use Rattle.std.proofs.Math.Nat.{div-le_self}
use Rattle.std.specs.Int.{trailing_zeros}
use Rattle.std.proofs.lemmas.Nat.Bits.{bit_at-trailing_zeros}
use Rattle.boards.specs.Boards.{On}
use Rattle.boards.proofs.Bits.{none_on, on_shifted}
use Rattle.exploration.proofs.digits.next_digit.Goals as goal

-- below the lowest bit of a number that is shifted none is set
passed : (digits from d : ℕ) → digits / 2 ^ from < 2 ^ 32 → from ≤ d → d - from < trailing_zeros w32 (digits / 2 ^ from) → On digits d → ⊥
passed digits from d small low less y =
    let e : d ≡ from + (d - from) = omega arith in
    let z = on_shifted digits from (d - from) (subst (On digits) e y) in
    elim (ℕ_discrete (digits / 2 ^ from) 0) [
      | yes none ↦ none_on (d - from) (subst (λ n. On n (d - from)) none z)
      | no some ↦ (let w = bit_at-trailing_zeros w32 (digits / 2 ^ from) (omega arith) small in omega (arith, w.2 (d - from) less, z))
    ]

pub returns : goal.returns
returns c =
    let digits = c.args.digits in
    let from = c.args.from in
    let small : digits / 2 ^ from < 2 ^ 32 = omega (arith, div-le_self digits (2 ^ from), c.ranges.digits) in
    record { low = omega arith; high = omega arith; passed = λ d low less y. passed digits from d small low (omega arith) y }
