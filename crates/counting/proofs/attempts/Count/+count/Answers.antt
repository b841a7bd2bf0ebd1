-- What fits has the digit in the place, and is what is found with it, or fits with the place struck.
use mathlib.Core.Logic.{inl, inr, ⊎_elim}
use mathlib.Core.List.{List}
use Prim.Native.Nat.{ℕ, ◌+◌, ◌*◌}
use native.Mathlib.Decide.{ℕ_discrete}
use native.Mathlib.Omega.{arith}
use Rattle.std.specs.Prelude.{Option, Result, Ok, Err, IfOk}
use Rattle.grid.specs.Grid.{byte}
use Rattle.counting.specs.declared.attempts.Stop.{Stop}
use Rattle.counting.proofs.attempts.Count.+count.Goals as goal

if_ok_more : {P Q : Option (List ℕ) → Type 0} (r : Result (Option (List ℕ)) Stop) → ((x : Option (List ℕ)) → P x → Q x) → IfOk r P → IfOk r Q
if_ok_more (Ok x) more p = more x p
if_ok_more (Err e) more p = tt

pub returns-in_default-clause-only : goal.returns-in_default-clause-only
returns-in_default-clause-only t c =
    if_ok_more c.joined.result
    (λ only p b f. p b (⊎_elim inl (λ g. inr (c.in-Some-only.ensures b (c.in-Ok.ensures b g))) (c.loop-self.invariant.1 b f))) c.joined.ensures

pub loop-self-preserved : goal.loop-self-preserved
loop-self-preserved t c =
    let p = c.in-Some.place in (
      omega (arith, c.in_ok-more.ensures.falls, c.loop-self.invariant.0),
      λ b f. ⊎_elim
          (λ e. inl (c.in_ok-found.ensures b (inl e)))
          (λ g.
          let settled = c.in-Ok.ensures b g in
          elim (ℕ_discrete (byte b (27 * p.band + p.cell)) (49 + p.digit)) [
            | yes h ↦ inl (c.in_ok-found.ensures b (inr (c.in_ok-more.ensures.only b (c.place.ensures b settled h))))
            | no n ↦ inr (c.strike.ensures b settled n)
          ])
          (c.loop-self.invariant.1 b f),
    )
