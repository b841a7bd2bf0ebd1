-- The literal is marked, a true place strikes its groups, and the clauses that come to be listed are looked at.
use mathlib.Core.Path.{◌≡◌, refl, ap, sym, subst, ◌∙◌}
use mathlib.Core.Bool.{true, false}
use mathlib.Core.List.{List}
use Prim.Native.Nat.{ℕ}
use native.Mathlib.Omega.{arith}
use borrow.Author.Tests.{le-ltb}
use lib.Dec.{T}
use lib.IntN.{ℤ, pos, negsuc}
use lib.ListN.{set}
use lib.Signed.{lt_z}
use Rattle.clauses.specs.Literal.{Literal}
use Rattle.clauses.specs.declared.ClauseSet.{ClauseSet}
use Rattle.clauses.specs.Clauses.{clauses_of}
use Rattle.closure.specs.Sets.{Least}
use Rattle.closure.specs.Closure.{With, Contradiction, UnitClosed}
use Rattle.closure.specs.Marks.{has, is_decided}
use Rattle.closure.proofs.Sets.{least_mono}
use Rattle.closure.proofs.Closure.{contradiction_mono}
use Rattle.propagation.specs.Steps.{Closed, state_left}
use Rattle.clauses.proofs.Signed.{read, test_of}
use Rattle.worklist.specs.Acting.{Ready, Undecided, Struck, Clashes, Stepped}
use Rattle.worklist.specs.declared.acting.State.{State}
use Rattle.worklist.specs.declared.acting.Worklist.{Worklist}
use Rattle.worklist.proofs.Literals.{place_read, place_at, byte_of, place_below, open_byte, has_set}
use Rattle.propagation.proofs.Looking.{stepped_none}
use Rattle.propagation.proofs.Closing.{comes_err, state_left_err, state_ready, closed_struck, struck_false, closes_begun}
use Rattle.propagation.proofs.close.close_with.Goals as goal
use Rattle.propagation.proofs.close.close_with.Goals.{Joined-literal-lt0, then-literal-lt0, else-literal-lt0+in_ok-affirm}

-- the byte by the sign
below_byte : (l : ℤ) → lt_z l (pos 0) ≡ true → byte_of l ≡ 2
below_byte (pos k) e = absurd (subst T (sym e ∙ le-ltb k 0 (omega arith)) tt)
below_byte (negsuc k) e = refl

above_byte : (l : ℤ) → lt_z l (pos 0) ≡ false → byte_of l ≡ 1
above_byte (pos k) e = refl
above_byte (negsuc k) e = absurd (subst T e tt)

-- what an undecided literal l says of the marks, where p is its place
module _ (s : ClauseSet) (st : State) (l : ℤ) (ok : Closed s st) (lit : Literal l) (undone : T (is_decided st.marks l) → ⊥) (p : ℕ) (is_place : p ≡ place_at l) where
  undecided : Undecided st.marks p
  undecided = subst (Undecided st.marks) (sym is_place) (place_below l lit, open_byte st.marks ok.marks.marks l lit undone)

  struck : Struck s st.marks
  struck = closed_struck s st.marks ok.marks.closed

  -- the marks with the literal
  abbrev marked : List ℕ
  marked = set st.marks (place_at l) (byte_of l)

  is_marked : byte_of l ≡ 1 → set st.marks p 1 ≡ marked
  is_marked b = ap (λ p. set st.marks p 1) is_place ∙ ap (set st.marks (place_at l)) (sym b)

  -- a contradiction with a place that is true
  begun_clash : byte_of l ≡ 1 → Clashes s (set st.marks p 1) → Contradiction (Least (UnitClosed (clauses_of s)) (With (has st.marks) l))
  begun_clash b x =
      contradiction_mono (least_mono (λ S u. u) (λ k t. (has_set st.marks l ok.marks.marks lit (open_byte st.marks ok.marks.marks l lit undone) k).0 t))
      (subst (Clashes s) (is_marked b) x)

  module _ {st' : State} {l' : Worklist} where
    -- a place that is false
    begun_false : byte_of l ≡ 2 → st'.marks ≡ set st.marks p 2 → Ready s st' l' → Stepped s marked st' l'
    begun_false b e r =
        let q : st'.marks ≡ marked = e ∙ ap (λ p. set st.marks p 2) is_place ∙ ap (set st.marks (place_at l)) (sym b) in
        let z = subst (Undecided st.marks) is_place undecided in
        subst (λ y. Stepped s y st' l') q
        (stepped_none s r (subst (Struck s) (sym (e ∙ ap (λ p. set st.marks p 2) is_place)) (struck_false s st.marks (place_at l) ok.marks.marks z struck)))

    -- a place that is true
    begun_true : byte_of l ≡ 1 → Stepped s (set st.marks p 1) st' l' → Stepped s marked st' l'
    begun_true b v = subst (λ y. Stepped s y st' l') (is_marked b) v

pub deny-requires : goal.deny-requires
deny-requires c =
    let a = c.args in
    let r = c.requires in
    let p = place_read c.mark_index-p.ensures (read a.literal c.ranges.literal) r.1 in
    (state_ready a.set r.0 c.clear.ensures, undecided a.set a.state.now a.literal r.0 r.1 r.2 _ p)

pub affirm-requires : goal.affirm-requires
affirm-requires c =
    let a = c.args in
    let r = c.requires in
    let p = place_read c.mark_index-p.ensures (read a.literal c.ranges.literal) r.1 in (
      state_ready a.set r.0 c.clear.ensures,
      struck a.set a.state.now a.literal r.0 r.1 r.2 _ p,
      undecided a.set a.state.now a.literal r.0 r.1 r.2 _ p,
    )

-- the literal is marked, by the branch that ran
begun : (c : Joined-literal-lt0) → Stepped c.args.set (set c.args.state.now.marks (place_at c.args.literal) (byte_of c.args.literal)) c.if-literal-lt0.state c.if-literal-lt0.list
begun c =
    let a = c.args in
    let r = c.requires in
    let p = place_read c.mark_index-p.ensures (read a.literal c.ranges.literal) r.1 in
    elim c.if-literal-lt0.branch [
      | then-literal-lt0 w ↦
          rw (w.state-is, w.list-is)
          (begun_false a.set a.state.now a.literal r.0 r.1 r.2 _ p
          (below_byte a.literal (test_of (λ z. lt_z z (pos 0)) true a.literal c.ranges.literal w.if-literal-lt0.true)) w.deny.ensures.marks w.deny.ensures.holds)
      | else-literal-lt0+in_ok-affirm w ↦
          rw (w.state-is, w.list-is)
          (begun_true a.set a.state.now a.literal r.0 r.1 r.2 _ p
          (above_byte a.literal (test_of (λ z. lt_z z (pos 0)) false a.literal c.ranges.literal w.if-literal-lt0.false)) w.in_ok-affirm.ensures.0)
    ]

pub returns-in_err-affirm : goal.returns-in_err-affirm
returns-in_err-affirm c =
    let a = c.args in
    let r = c.requires in
    let p = place_read c.mark_index-p.ensures (read a.literal c.ranges.literal) r.1 in
    comes_err (state_left c.affirm.new.self c.from_residual.result) (state_left_err c.affirm.new.self c.from_residual.result c.from_residual.ensures.0)
    (begun_clash a.set a.state.now a.literal r.0 r.1 r.2 _ p (above_byte a.literal (test_of (λ z. lt_z z (pos 0)) false a.literal c.ranges.literal c.if-literal-lt0.false)) c.in_err-affirm.ensures)

pub propagate-requires : goal.propagate-requires
propagate-requires c = let v = begun (goal.at.propagate-requires c).Joined-literal-lt0 in (v.ready, v.struck)

pub returns : goal.returns
returns c =
    let a = c.args in
    let r = c.requires in
    let m = a.state.now.marks in
    closes_begun a.set m (set m (place_at a.literal) (byte_of a.literal)) (has_set m a.literal r.0.marks.marks r.1 (open_byte m r.0.marks.marks a.literal r.1 r.2)) (begun (goal.at.returns c).Joined-literal-lt0) c.propagate.ensures
