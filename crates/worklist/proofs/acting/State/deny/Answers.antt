-- The sums follow kind by kind, and the list follows them.
use mathlib.Core.Path.{◌≡◌, refl, ap, ◌∙◌}
use mathlib.Core.Logic.{◌⊎◌, inl, inr}
use Prim.Native.Nat.{◌+◌, ◌-◌, ◌<◌}
use native.Mathlib.Omega.{arith}
use lib.ListN.{get_or, set, length-set}
use Rattle.closure.specs.Marks.{decided}
use Rattle.closure.proofs.Marks.{decided_bounded}
use Rattle.groups.specs.Groups.{clause_in, kind_at, nine_kinds, slot_at}
use Rattle.groups.specs.declared.Kind.TheVariants.{Cell}
use Rattle.groups.proofs.Slots.{nines_below, nines_long, nine_at}
use Rattle.worklist.proofs.Lists.{lists_few}
use Rattle.worklist.proofs.Weighing.{counted_set, turn, is_marks_set, least, weighing_next, weighing_none, weighing_all}
use Rattle.worklist.proofs.Denying.{Leaves, lists_low, ready_low, listed_next}
use Rattle.worklist.proofs.acting.State.deny.Goals as goal
use Rattle.worklist.proofs.acting.State.deny.Goals.{After-slot_at-slot, then-sum-ge1024+then-sum-lt2048, else-sum-ge1024, else-sum-ge1024-via-then-sum-ge1024+else-sum-lt2048, else-sum-ge1024-via-else-sum-ge1024}

-- the slot is that of the kind whose turn it is
slot_turn : (c : After-slot_at-slot) → (c.slot_at-slot.result ≡ slot_at (kind_at c.loop-kind.kind-index) c.args.p) × (c.loop-kind.kind-index < nine_kinds c.args.set)
slot_turn c = turn c.args.set c.loop-kind.kind-index c.args.p c.nines_of-kind-items.ensures c.loop-kind-test.true c.slot_at-slot.ensures

pub loop-kind-init : goal.loop-kind-init
loop-kind-init c =
    let a = c.args in
    let r = c.requires.0 in
    let m = a.self.now.marks in
    record {
      marks = refl;
      sums = weighing_none a.set m (set m a.p 2) a.self.now.sums r.sums;
      long = r.long;
      few = lists_few r.lists;
      lists = lists_low a.set m a.self.now.sums r.marks r.sums r.lists;
    }

pub overflow_sub-sum : goal.overflow_sub-sum
overflow_sub-sum c =
    let a = c.args in
    let l = c.loop-kind in
    let at = (goal.at.overflow_sub-sum c).After-slot_at-slot in
    let b = least (nine_kinds a.set) l.kind-index a.p 2 a.self.now.marks l.self.sums (nines_below a.set) (slot_turn at).1 c.requires.0.marks c.requires.1 l.invariant.sums in
    omega (arith, ap (λ x. get_or l.self.sums x 0) ((slot_turn at).0), b)

pub loop-kind-preserved : goal.loop-kind-preserved
loop-kind-preserved c =
    let a = c.args in
    let l = c.loop-kind in
    let i = l.kind-index in
    let m = a.self.now.marks in
    let r = c.requires.0 in
    let w = l.invariant in
    let at = (goal.at.loop-kind-preserved c).After-slot_at-slot in
    let slot = slot_at (kind_at i) a.p in
    let is_sum : get_or l.self.sums c.slot_at-slot.result 0 ≡ get_or l.self.sums slot 0 = ap (λ x. get_or l.self.sums x 0) ((slot_turn at).0) in
    let b = least (nine_kinds a.set) i a.p 2 m l.self.sums (nines_below a.set) (slot_turn at).1 r.marks c.requires.1 w.sums in
    let v = get_or l.self.sums slot 0 - (1024 + a.p) in
    let n = c.if-sum-ge1024.n in
    let branch : (Leaves v × (n ≡ l.n + 1)) ⊎ ((Leaves v → ⊥) × (n ≡ l.n)) = elim c.if-sum-ge1024.branch [
      | then-sum-ge1024+then-sum-lt2048 k ↦ inl ((omega (arith, k.if-sum-ge1024.true, is_sum), omega (arith, k.if-sum-lt2048.true, is_sum)), k.n-is)
      | else-sum-ge1024 k ↦ inr (
        (λ h. elim k.else-sum-ge1024.branch [
          | else-sum-ge1024-via-then-sum-ge1024+else-sum-lt2048 j ↦ omega (arith, j.if-sum-lt2048.false, is_sum, h.1)
          | else-sum-ge1024-via-else-sum-ge1024 j ↦ omega (arith, j.if-sum-ge1024.false, is_sum, h.0)
        ]),
        k.n-is,
      )
    ] in
    let is_clause : c.clause_at.result ≡ clause_in slot = c.clause_at.ensures ∙ ap (λ f. clause_in (slot_at f a.p)) (nine_at a.set Cell i c.nines_of-kind-items.ensures c.loop-kind-test.true) in
    let lists = listed_next a.set i a.p m l.self.sums (slot_turn at).1 r.marks c.requires.1 w.sums v (omega (arith, b)) w.long w.lists branch in
    rw ((slot_turn at).0, is_clause)
    (record {
      marks = w.marks;
      sums = weighing_next (nine_kinds a.set) i a.p 2 m l.self.sums (nines_below a.set) (slot_turn at).1 r.marks c.requires.1 w.sums v (omega (arith, b));
      long = length-set l.list.numbers l.n (clause_in slot) ∙ w.long;
      few = lists_few lists;
      lists = lists;
    })

pub overflow_add-self : goal.overflow_add-self
overflow_add-self c = omega (arith, c.loop-kind.self.counted, decided_bounded c.loop-kind.self.marks)

pub invariant_of-self-2 : goal.invariant_of-self-2
invariant_of-self-2 c = record { counted = counted_set c.args.self.now.marks c.args.p 2 c.requires.0.marks c.requires.1 (omega arith, omega arith) c.loop-kind.self.counted c.loop-kind.invariant.marks }

pub returns : goal.returns
returns c =
    let a = c.args in
    let l = c.loop-kind in
    let m = a.self.now.marks in
    let r = c.requires.0 in
    let w = l.invariant in
    let e = ap (λ x. set x a.p 2) w.marks in
    let s = weighing_all a.set m (set m a.p 2) l.self.sums (omega (arith, nines_long a.set c.nines_of-kind-items.ensures, c.loop-kind-test.false)) w.sums in
    record {
      marks = e;
      decided = omega (arith, l.self.counted, ap decided w.marks, a.self.now.counted);
      holds = ready_low a.set (set m a.p 2) e (is_marks_set m a.p 2 r.marks c.requires.1 (omega arith, omega arith)) s w.long w.lists;
    }
