-- The places beside the pairs from the next one on are struck.
use mathlib.Core.Path.{◌≡◌, sym, subst, ◌∙◌}
use mathlib.Core.Logic.{inl, inr, ⊎_elim}
use Prim.Native.Nat.{◌-◌}
use native.Mathlib.Omega.{arith}
use lib.ListN.{get_or}
use Rattle.worklist.specs.Acting.{True}
use Rattle.worklist.proofs.Sums.{byte_true}
use Rattle.worklist.proofs.Striking.{strikes_same, strikes_more, strikes_open, listed_next}
use Rattle.worklist.proofs.acting.State.strike_all.Goals as goal

pub strike-requires : goal.strike-requires
strike-requires c =
    let l = c.loop-i in
    let is_place : c.from.result ≡ get_or c.args.targets.now.places (l.i - 1) 0 = c.from.ensures in
    let o = (c.requires.1.sound (l.i - 1) (omega (arith, c.loop-i-test.true, l.auto.i))).2 in (
      l.invariant.ready,
      omega (arith, is_place, o.0),
      strikes_open c.args.set c.from.result l.invariant (subst (λ q. True c.args.self.now.marks q → ⊥) (sym is_place) (λ t. omega (arith, o.1, byte_true c.args.self.now.marks _ t))),
    )

pub loop-i-preserved : goal.loop-i-preserved
loop-i-preserved c =
    let l = c.loop-i in
    let o = c.args.targets.now.places in
    let n = c.args.targets.now.count in
    let is_place : c.from.result ≡ get_or o (l.i - 1) 0 = c.from.ensures in
    let t = c.loop-i-test.true in
    strikes_more c.args.set (λ x k. ⊎_elim inl (λ e. inr (e ∙ sym is_place)) (listed_next o l.i n x (omega (arith, t)) k)) (λ x k. (k.0, omega (arith, k.1), k.2, k.3))
    (l.i - 1, omega arith, omega (arith, t, l.auto.i), sym is_place) l.invariant c.strike.ensures

pub returns : goal.returns
returns c =
    let l = c.loop-i in
    strikes_same c.args.set (λ x k. (k.0, k.2, k.3)) (λ x k. (k.0, omega (arith, c.loop-i-test.false), k.1, k.2)) l.invariant
