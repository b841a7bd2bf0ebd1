-- The entries before the next one have come by, and none of them is a repeat.
use mathlib.Core.Path.{◌≡◌, sym, ap, subst, ◌∙◌}
use mathlib.Core.Bool.{true, false}
use mathlib.Core.List.{List}
use Prim.Native.Nat.{ℕ, ◌≤◌, ◌<◌}
use borrow.Author.Count.{below_more}
use borrow.Author.Tests.{lt-ltb, le-ltb}
use native.Mathlib.Omega.{arith}
use lib.IntN.{ℤ}
use lib.ListN.{length}
use Rattle.grid.proofs.Least.{least_is}
use Rattle.clauses.specs.Literal.{Literal}
use Rattle.clauses.proofs.Signed.{read}
use Rattle.orders.specs.Order.{repeats, first_repeat}
use Rattle.orders.specs.Place.{table_place}
use Rattle.orders.proofs.Orders.{entry, place_below}
use Rattle.orders.proofs.Seen.{seen_none, entry_read}
use Rattle.orders.proofs.order.first_repeat.Goals as goal

-- the first repeat, where none of those before place i is one
is_first : (o : List ℤ) (i : ℕ) → i ≤ length o → ((k : ℕ) → k < i → repeats o k ≡ false) → (i < length o → repeats o i ≡ true) → i ≡ first_repeat o
unfolding first_repeat
is_first o i m b h = least_is (repeats o) (length o) i (record { most = m; before = b; here = h })

pub loop-i-init : goal.loop-i-init
loop-i-init c = (seen_none c.args.order.now, λ k h. absurd (omega arith))

pub table_place-at-requires : goal.table_place-at-requires
table_place-at-requires c =
    let l = entry c.args.order.now c.loop-i.i in
    subst Literal (sym (read l (record { sfits = omega arith }))) (c.requires.1 c.loop-i.i c.loop-i-test.true)

pub bounds-seen-at : goal.bounds-seen-at
bounds-seen-at c =
    let l = entry c.args.order.now c.loop-i.i in
    let at = c.table_place-at.ensures ∙ ap table_place (read l (record { sfits = omega arith })) in
    omega (arith, at, place_below l (c.requires.1 c.loop-i.i c.loop-i-test.true))

pub returns-then-seen-at : goal.returns-then-seen-at
returns-then-seen-at c =
    let o = c.args.order.now in
    let l = c.loop-i in
    let t = c.loop-i-test.true in
    let at = c.table_place-at.ensures ∙ ap table_place (read (entry o l.i) (record { sfits = omega arith })) in
    let r = entry_read o l.i l.seen l.invariant.0 (c.requires.1 l.i t) _ at in
    let e = is_first o l.i (omega (arith, t)) l.invariant.1 (λ h. sym r.is ∙ c.if-seen-at.true) in
    rw (← e, lt-ltb l.i 1458 (omega (arith, t, c.requires.0)))

pub loop-i-preserved : goal.loop-i-preserved
loop-i-preserved c =
    let o = c.args.order.now in
    let l = c.loop-i in
    let at = c.table_place-at.ensures ∙ ap table_place (read (entry o l.i) (record { sfits = omega arith })) in
    let r = entry_read o l.i l.seen l.invariant.0 (c.requires.1 l.i c.loop-i-test.true) _ at in
    (r.more, λ k b. below_more (λ j. repeats o j ≡ false) l.i l.invariant.1 (sym r.is ∙ c.if-seen-at.false) k b)

pub returns : goal.returns
returns c =
    let o = c.args.order.now in
    let l = c.loop-i in
    let e = is_first o l.i (omega (arith, l.auto.i-end)) l.invariant.1 (λ h. absurd (omega (arith, h, c.loop-i-test.false))) in
    rw (← e, le-ltb l.i 1458 (omega (arith, c.loop-i-test.false, c.requires.0)))
