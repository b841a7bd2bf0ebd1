-- A digit that is looked at gets its bit, and the others keep theirs.
use mathlib.Core.Path.{subst}
use Prim.Native.Nat.{ℕ, ◌*◌, ◌+◌}
use native.Mathlib.Decide.{ℕ_discrete}
use native.Mathlib.Omega.{arith}
use mir.Syntax.{w32}
use lib.ListN.{get_or}
use Rattle.std.proofs.lemmas.Nat.Bits.{shr_and_one, bit_at_set_same}
use Rattle.boards.specs.Boards.{On}
use Rattle.boards.proofs.Bits.{on_left}
use Rattle.boards.proofs.state.Boards.digits_at.Goals as goal

pub loop-d-preserved : goal.loop-d-preserved
loop-d-preserved c =
    let d : ℕ = c.loop-d.d in
    let word : ℕ → ℕ = λ e. get_or c.args.self.now.words (4 * e + c.args.band) 0 in (
      omega arith,
      λ e h y. elim (ℕ_discrete e d) [
        | yes q ↦ (
            let set : On (word d) c.args.cell = subst (λ x. On (word x) c.args.cell) q y in
            rw (q, shr_and_one (word d) c.args.cell, set) (bit_at_set_same w32 c.loop-d.digits d (omega arith))
            )
        | no n ↦ on_left _ _ e (c.loop-d.invariant.1 e (omega arith) y)
      ],
    )

pub returns : goal.returns
returns c = λ d h. c.loop-d.invariant.1 d (omega arith)
