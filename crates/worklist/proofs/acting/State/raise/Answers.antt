-- The sums follow kind by kind.
use mathlib.Core.Path.{◌≡◌, refl, ap}
use Prim.Native.Nat.{◌+◌, ◌<◌}
use native.Mathlib.Omega.{arith}
use lib.ListN.{get_or, set}
use Rattle.closure.specs.Marks.{decided}
use Rattle.closure.proofs.Marks.{decided_bounded}
use Rattle.groups.specs.Groups.{kind_at, nine_kinds, slot_at}
use Rattle.groups.proofs.Slots.{nines_below, nines_long}
use Rattle.worklist.proofs.Weighing.{counted_set, turn, most, weighing_next, weighing_none, weighing_all}
use Rattle.worklist.proofs.acting.State.raise.Goals as goal
use Rattle.worklist.proofs.acting.State.raise.Goals.{After-slot_at}

-- the slot is that of the kind whose turn it is
slot_turn : (c : After-slot_at) → (c.slot_at.result ≡ slot_at (kind_at c.loop-kind.kind-index) c.args.p) × (c.loop-kind.kind-index < nine_kinds c.args.set)
slot_turn c = turn c.args.set c.loop-kind.kind-index c.args.p c.nines_of-kind-items.ensures c.loop-kind-test.true c.slot_at.ensures

pub loop-kind-init : goal.loop-kind-init
loop-kind-init c = let a = c.args in let m = a.self.now.marks in (refl, weighing_none a.set m (set m a.p 1) a.self.now.sums c.requires.1)

pub overflow_add-self : goal.overflow_add-self
overflow_add-self c =
    let a = c.args in
    let l = c.loop-kind in
    let at = (goal.at.overflow_add-self c).After-slot_at in
    let b = most (nine_kinds a.set) l.kind-index a.p 1 a.self.now.marks l.self.sums (nines_below a.set) (slot_turn at).1 c.requires.0 c.requires.2 l.invariant.1 in
    omega (arith, ap (λ x. get_or l.self.sums x 0) ((slot_turn at).0), b)

pub loop-kind-preserved : goal.loop-kind-preserved
loop-kind-preserved c =
    let a = c.args in
    let l = c.loop-kind in
    let m = a.self.now.marks in
    let at = (goal.at.loop-kind-preserved c).After-slot_at in (
      l.invariant.0,
      rw ((slot_turn at).0)
          (weighing_next (nine_kinds a.set) l.kind-index a.p 1 m l.self.sums (nines_below a.set) (slot_turn at).1 c.requires.0 c.requires.2 l.invariant.1
          (get_or l.self.sums (slot_at (kind_at l.kind-index) a.p) 0 + 1024) (omega arith)),
    )

pub overflow_add-self-2 : goal.overflow_add-self-2
overflow_add-self-2 c = omega (arith, c.loop-kind.self.counted, decided_bounded c.loop-kind.self.marks)

pub invariant_of-self-2 : goal.invariant_of-self-2
invariant_of-self-2 c = record { counted = counted_set c.args.self.now.marks c.args.p 1 c.requires.0 c.requires.2 (omega arith, omega arith) c.loop-kind.self.counted c.loop-kind.invariant.0 }

pub returns : goal.returns
returns c =
    let a = c.args in
    let l = c.loop-kind in
    let m = a.self.now.marks in
    let e = ap (λ x. set x a.p 1) l.invariant.0 in
    record {
      marks = e;
      decided = omega (arith, l.self.counted, ap decided l.invariant.0, a.self.now.counted);
      holds = rw e (weighing_all a.set m (set m a.p 1) l.self.sums (omega (arith, nines_long a.set c.nines_of-kind-items.ensures, c.loop-kind-test.false)) l.invariant.1);
    }
