-- The clause has a slot, and the sum there tells what it says.
use mathlib.Core.Path.{◌≡◌, ap, sym, subst, ◌∙◌}
use Prim.Native.Nat.{◌-◌, ◌≤◌}
use native.Mathlib.Omega.{arith}
use lib.ListN.{get_or, set}
use Rattle.worklist.specs.Acting.{StepsTo, Undecided}
use Rattle.propagation.proofs.Looking.{slot, slot_small, is_clause, look_clash, place_left, look_place}
use Rattle.propagation.proofs.close.look.Goals as goal
use Rattle.propagation.proofs.close.look.Goals.{After-from-sum, Else-sum-eq0}

-- the sum that the code reads is that of the slot
read : (c : After-from-sum) → c.from-sum.result ≡ get_or c.args.state.now.sums (slot c.args.set c.args.state.now c.args.list.now c.args.clause c.requires.0 c.requires.2) 0
read c =
    let a = c.args in
    let r = c.requires in
    let st = a.state.now in
    let l = a.list.now in
    c.from-sum.ensures ∙ ap (λ x. get_or st.sums x 0) (c.slot_of.ensures (slot a.set st l a.clause r.0 r.2) (slot_small a.set st l a.clause r.0 r.2) (is_clause a.set st l a.clause r.0 r.2))

pub returns-then-sum-eq0 : goal.returns-then-sum-eq0
returns-then-sum-eq0 c =
    let a = c.args in
    let r = c.requires in
    look_clash a.set a.state.now a.list.now a.clause r.0 r.2 (sym (read (goal.at.returns-then-sum-eq0 c).After-from-sum) ∙ c.if-sum-eq0.true)

-- else one place is left
left : (c : Else-sum-eq0) → c.from-sum.result ≡ get_or c.args.state.now.sums (slot c.args.set c.args.state.now c.args.list.now c.args.clause c.requires.0 c.requires.2) 0
    → (1024 ≤ c.from-sum.result) × Undecided c.args.state.now.marks (c.from-sum.result - 1024)
left c e = let a = c.args in let r = c.requires in rw e (place_left a.set a.state.now a.list.now a.clause r.0 r.2 (λ z. c.if-sum-eq0.false (e ∙ z)))

pub overflow_sub-sum : goal.overflow_sub-sum
overflow_sub-sum c = let at = goal.at.overflow_sub-sum c in omega (arith, (left at.Else-sum-eq0 (read at.After-from-sum)).0)

pub affirm-requires : goal.affirm-requires
affirm-requires c = let at = goal.at.affirm-requires c in (c.requires.0, c.requires.1, (left at.Else-sum-eq0 (read at.After-from-sum)).1)

pub returns : goal.returns
returns c =
    let a = c.args in
    let r = c.requires in
    let st = a.state.now in
    let e = read (goal.at.returns c).After-from-sum in
    let t = c.affirm in
    look_place a.set st a.list.now a.clause r.0 r.2 (λ z. c.if-sum-eq0.false (e ∙ z)) t.new.self t.new.list t.result
    (subst (λ p. StepsTo a.set st (set st.marks p 1) t.new.self t.new.list t.result) (ap (λ x. x - 1024) e) t.ensures)
