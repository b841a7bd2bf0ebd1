-- All houses have all digits.
use mathlib.Core.Path.{refl}
use native.Mathlib.Omega.{arith}
use Rattle.exploration.proofs.AllDigits.{solved_iff}
use Rattle.exploration.proofs.solved.is_solved.Goals as goal

pub returns : goal.returns
returns c =
    let s = solved_iff c.args.grid.now c.told-grid c.requires in
    ((λ t. s.0 (λ h d u few. c.loop-house.invariant h d (omega arith) few)), λ l. refl)
