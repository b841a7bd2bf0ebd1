-- The two bounds, then the step.
use borrow.Author.Tests.{le-leb, lt-leb}
use mathlib.Core.Path.{◌∙◌}
use Prim.Native.Nat.{◌<◌}
use mathlib.Core.Logic.{inl, inr}
use native.Mathlib.Omega.{arith}
use Rattle.batch.specs.Call.{is_batch}
use Rattle.batch.proofs.is_batch.Goals as goal
use Rattle.batch.proofs.is_batch.Goals.{then-bytes-ge81, else-bytes-ge81}

pub returns-then-bytes-le5184 : goal.returns-then-bytes-le5184
unfolding is_batch
returns-then-bytes-le5184 c = let t = c.if-bytes-le5184.true in rw (le-leb 81 c.args.bytes t.0, le-leb c.args.bytes 5184 t.1)

pub returns-else-bytes-le5184 : goal.returns-else-bytes-le5184
unfolding is_batch
returns-else-bytes-le5184 c =
    let b = c.args.bytes in
    elim c.if-bytes-ge81.branch [
      | then-bytes-ge81 w ↦
          let high : 5184 < b = elim c.if-bytes-le5184.either [ inl h ↦ h.1 | inr h ↦ omega (arith, h, w.if-bytes-ge81.true) ] in
          let f = lt-leb b 5184 high in rw (le-leb 81 b w.if-bytes-ge81.true, f) (w.t-3-is ∙ f)
      | else-bytes-ge81 w ↦ let f = lt-leb 81 b w.if-bytes-ge81.false in rw f (w.t-3-is ∙ f)
    ]
