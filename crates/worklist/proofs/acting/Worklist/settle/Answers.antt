-- Those that were looked at are settled.
use mathlib.Core.Path.{◌≡◌, ap, sym, subst, ◌∙◌}
use mathlib.Core.Logic.{inl, inr}
use Prim.Native.Nat.{◌<◌}
use native.Mathlib.Omega.{arith}
use lib.Dec.{T}
use Rattle.std.proofs.lemmas.Bool.{true≢false}
use lib.ListN.{get_or}
use Rattle.worklist.proofs.Lists.{lists_few}
use Rattle.worklist.proofs.Settling.{slot, is_clause, settling_none, settling_next, settling_all}
use Rattle.worklist.proofs.acting.Worklist.settle.Goals as goal
use Rattle.worklist.proofs.acting.Worklist.settle.Goals.{After-slot_of, then-sum-lt2048, else-sum-lt2048}

-- the slot that the code reads is that of the clause
is_slot : (c : After-slot_of) → c.slot_of.result ≡ slot c.args.sums.now c.args.self.now c.loop-i.i c.loop-i.self.numbers c.loop-i.n c.loop-i.clash c.requires.0 c.loop-i-test.true c.loop-i.invariant.1
is_slot c = let k = c.requires.0.sound c.loop-i.i c.loop-i-test.true in c.slot_of.ensures k.0 k.1 (c.loop-i.invariant.1.rest c.loop-i.i (omega arith) ∙ k.3)

below : (c : After-slot_of) → c.slot_of.result < 324
below c = omega (arith, is_slot c, (c.requires.0.sound c.loop-i.i c.loop-i-test.true).1)

pub loop-i-init : goal.loop-i-init
loop-i-init c = (omega arith, settling_none c.args.sums.now c.args.self.now c.requires.1)

pub offset_bounds-sums-slot_of : goal.offset_bounds-sums-slot_of
offset_bounds-sums-slot_of c = omega (arith, below c)

pub bounds-sums-slot_of : goal.bounds-sums-slot_of
bounds-sums-slot_of c = below (goal.at.bounds-sums-slot_of c).After-slot_of

pub loop-i-preserved : goal.loop-i-preserved
loop-i-preserved c =
    let l = c.loop-i in
    let a = c.args.sums.now in
    let old = c.args.self.now in
    let s = is_slot (goal.at.loop-i-preserved c).After-slot_of in
    let is_sum = ap (λ x. get_or a x 0) s in
    let next = settling_next a old l.i l.self.numbers l.n l.clash c.requires.0 c.loop-i-test.true l.invariant.1 (elim c.if-sum-lt2048.branch [
      | then-sum-lt2048 w ↦ inl (omega (arith, is_sum, w.if-sum-lt2048.true), w.n-is)
      | else-sum-lt2048 w ↦ inr (omega (arith, is_sum, w.if-sum-lt2048.false), w.n-is)
    ]) in
    rw (s, is_clause a old l.i l.self.numbers l.n l.clash c.requires.0 c.loop-i-test.true l.invariant.1) (lists_few next.lists, next)

pub returns-then-clash : goal.returns-then-clash
returns-then-clash c = settling_all c.args.sums.now c.args.self.now (omega (arith, c.loop-i.auto.i-end, c.loop-i-test.false)) (λ e. subst T (sym c.if-clash.true) tt) (λ e. absurd (true≢false (sym e))) c.loop-i.invariant.1

pub returns-else-clash : goal.returns-else-clash
returns-else-clash c = settling_all c.args.sums.now c.args.self.now (omega (arith, c.loop-i.auto.i-end, c.loop-i-test.false)) (λ e. absurd (true≢false (sym e))) (λ e t. subst T c.if-clash.false t) c.loop-i.invariant.1
