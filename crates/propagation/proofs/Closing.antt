-- The end of propagation: with no clause listed the marks are closed, so that they are the unit closure; and the start: in closed marks no clause
-- may act.
-- Assumes nothing.
use mathlib.Core.Path.{◌≡◌, ap, sym, subst, ◌∙◌}
use mathlib.Core.Logic.{inl, inr, ⊎_elim, ◌↔◌}
use mathlib.Core.Bool.{Bool, true, false}
use mathlib.Core.List.{List, Memᴰ}
use Prim.Native.Nat.{ℕ, suc, ◌<◌}
use native.Mathlib.Decide.{ℕ_discrete}
use native.Mathlib.Omega.{arith}
use lib.Dec.{T}
use lib.IntN.{ℤ, pos, negsuc, neg_ℤ}
use lib.ListN.{length, get_or, set}
use Rattle.std.specs.Prelude.{Result, Ok, Err, IsErr, IfOk}
use Rattle.clauses.specs.Clauses.{clauses_of}
use Rattle.clauses.specs.Literal.{Literal}
use Rattle.clauses.specs.Models.{givens}
use Rattle.clauses.specs.Shape.{place_of}
use Rattle.clauses.specs.declared.ClauseSet.{ClauseSet}
use Rattle.clauses.proofs.Members.{given_literal}
use Rattle.closure.specs.Sets.{LiteralSet, Least}
use Rattle.closure.specs.Closure.{With, Contradiction, UnitClosed}
use Rattle.closure.specs.Marks.{has, is_decided, mark, blank, IsMarks}
use Rattle.closure.specs.Propagation.{Answer, clash, closed, bind, join, unit_closure, Closes}
use Rattle.closure.proofs.Sets.{least_mono, least_within}
use Rattle.closure.proofs.Closure.{contradiction_mono}
use Rattle.closure.proofs.Marks.{has_mark, is_marks_mark, or_iff}
use Rattle.closure.proofs.ClauseSets.{well_formed}
use Rattle.closure.proofs.Propagation.{InMarks, unit_closure_ok, unit_closure_marks, closes_same, closes_unique, givens_closed}
use Rattle.groups.specs.Groups.{group_at, group_in, index_at, kind_at, number_of, slot_at, PairKind}
use Rattle.worklist.specs.Sums.{InSlots}
use Rattle.worklist.specs.Acting.{True, False, AllBut, Acts, Undecided, Ready, Struck, Stepped}
use Rattle.worklist.specs.declared.acting.State.{State}
use Rattle.worklist.specs.declared.acting.Worklist.{Worklist}
use Rattle.groups.proofs.Slots.{number_at, at_number, number_below, index_at_lem, place_at_lem, group_same, slot_group, slot_in, place_once}
use Rattle.worklist.proofs.Sums.{true_byte, byte_true}
use Rattle.worklist.proofs.Rules.{closed_strikes, groups_closed, slot_lasts}
use Rattle.worklist.proofs.Literals.{has_set}
use Rattle.worklist.proofs.Striking.{signs_differ}
use Rattle.propagation.specs.Steps.{Closed, answer_of, ComesTo, state_left}
use Rattle.worklist.specs.declared.acting.Clash.{Clash}

-- the answer for some literals is that for others, where each are of the closure of the other
pub closes_between : {R : LiteralSet → Type 0} {G H : ℤ → Type 0} → ((l : ℤ) → G l → H l) → ((l : ℤ) → H l → Least R G l) → (a : Answer) → Closes R H a → Closes R G a
closes_between f g clash c = contradiction_mono (λ l d. least_within (λ S r. r) g l d) c
closes_between f g (closed m) c = record { holds = λ l x. c.holds l (f l x); closed = c.closed; within = λ l t. least_within (λ S r. r) g l (c.within l t) }

-- a true place has struck its groups in closed marks
pub closed_struck : (s : ClauseSet) (m : List ℕ) → UnitClosed (clauses_of s) (has m) → Struck s m
closed_struck s m u p h t q w d =
    let f = kind_at w.0 in
    let i = index_at_lem p h f in
    let b : PairKind s f = omega (arith, w.1, number_at w.0 w.2) in
    subst (λ y. T (has m (negsuc y))) (sym w.5)
    (closed_strikes s (has m) u f b p h (index_at f p) w.3 i.0 w.4 (λ j. d (w.5 ∙ ap (place_of (group_at f p)) (sym j) ∙ i.1)) (subst (λ y. T (has m (pos (suc y)))) (sym i.1) t))

-- and no clause may act
pub closed_quiet : (s : ClauseSet) (m : List ℕ) → UnitClosed (clauses_of s) (has m) → (x : ℕ) → InSlots s x → Acts m x → ⊥
closed_quiet s m u x h w = w.3 (slot_lasts s (has m) u x h w.0 w.1 w.2)

pub state_ready : (s : ClauseSet) {st : State} {l : Worklist} → Closed s st → (l.listed ≡ 0) × (length l.numbers ≡ 361) → Ready s st l
state_ready s {st} ok none =
    record {
      marks = ok.marks.marks;
      sums = ok.sums;
      long = none.1;
      lists = record { sound = λ i h. absurd (omega (arith, none.0)); once = λ i j h k. absurd (omega (arith, none.0, k)); complete = λ x h w. absurd (closed_quiet s st.marks ok.marks.closed x h w) };
    }

-- with no clause listed the marks are closed
module _ (s : ClauseSet) {st : State} {l : Worklist} (r : Ready s st l) (none : l.listed ≡ 0) (struck : Struck s st.marks) where
  abbrev m : List ℕ
  m = st.marks

  ready_closed : UnitClosed (clauses_of s) (has m)
  ready_closed =
      groups_closed s (has m)
      (λ f n p b i j c d e t.
      let q = (place_at_lem p b f i c).0 in
      let g : group_at (kind_at (number_of f)) (place_of (group_at f p) i) ≡ group_at f p = ap (λ y. group_at y (place_of (group_at f p) i)) (at_number f) ∙ group_same f p b i c in
      struck (place_of (group_at f p) i) q t (place_of (group_at f p) j) (number_of f, n, number_below f, j, d, ap (λ y. place_of y j) (sym g))
      (λ y. e (sym (place_once p b f j i d c y))))
      (λ f n p b k c all.
      let e = slot_group p b f in
      subst (λ g. True m (place_of g k)) e
      (lasts (slot_at f p) (slot_in p b s f n) k c (λ j d y. subst (λ g. False m (place_of g j)) (sym e) (all j d y))))
    where
      lasts : (x : ℕ) → InSlots s x → (k : ℕ) → k < 9 → AllBut m (group_in x) k → True m (place_of (group_in x) k)
      lasts x h k c all = elim (ℕ_discrete (get_or m (place_of (group_in x) k) 0) 1) [
        | yes e ↦ true_byte m (place_of (group_in x) k) e
        | no e ↦ (let w = r.lists.complete x h (k, c, all, (λ t. e (byte_true m (place_of (group_in x) k) t))) in absurd (omega (arith, none, w.1)))
      ]

  pub ready_state : Closed s st
  ready_state = record { marks = record { marks = r.marks; closed = ready_closed }; sums = r.sums }

pub stepped_closes : (s : ClauseSet) {m : List ℕ} {st : State} {l : Worklist} → Stepped s m st l → l.listed ≡ 0 → ComesTo s (λ k. T (has m k)) (Ok st)
stepped_closes s v none =
    let st = ready_state s v.ready none v.struck in
    record { answer = record { holds = v.keeps; closed = st.marks.closed; within = v.follows }; state = st }

-- an error is a contradiction
pub comes_err : {s : ClauseSet} {G : ℤ → Type 0} (r : Result State Clash) → IsErr r → Contradiction (Least (UnitClosed (clauses_of s)) G) → ComesTo s G r
comes_err (Ok st) e x = absurd (let z : ◌≡◌ {A = Bool} false true = e in cc)
comes_err (Err c) e x = record { answer = x; state = tt }

pub state_left_err : (st : State) (r : Result (Unit {0}) Clash) → IsErr r → IsErr (state_left st r)
state_left_err st (Ok u) e = e
state_left_err st (Err c) e = e

-- a place that becomes false leaves nothing to be struck
pub struck_false : (s : ClauseSet) (m : List ℕ) (p : ℕ) → IsMarks m → Undecided m p → Struck s m → Struck s (set m p 2)
struck_false s m p i u h y b t q w d =
    let e = has_set m (negsuc p) i u.0 u.1 in
    ⊎_elim (λ x. (e (negsuc q)).1 (inl (h y b x q w d))) (λ x. absurd (signs_differ y p x)) ((e (pos (suc y))).0 t)

-- the closure from steps on is that from the start on, the marks with one literal more
pub closes_begun : (s : ClauseSet) (m m₀ : List ℕ) {st : State} {ls : Worklist} {l : ℤ} {r : Result State Clash}
    → ((k : ℤ) → T (has m₀ k) ↔ With (has m) l k) → Stepped s m₀ st ls → ComesTo s (λ k. T (has st.marks k)) r → ComesTo s (With (has m) l) r
closes_begun s m m₀ {r = r} e v c =
    record {
      answer = closes_between (λ k x. v.keeps k ((e k).1 x)) (λ k t. least_mono (λ S u. u) (λ j x. (e j).0 x) k (v.follows k t)) (answer_of r) c.answer;
      state = c.state;
    }

-- the answer is one of marks
answer_marks : (s : ClauseSet) (r : Result State Clash) → IfOk r (Closed s) → InMarks (answer_of r)
answer_marks s (Ok st) h = h.marks.marks
answer_marks s (Err c) h = tt

-- what closing comes to is the computed closure, byte for byte: of marks with one literal more,
pub closes_computed : (s : ClauseSet) (m : List ℕ) (l : ℤ) → IsMarks m → Literal l → (T (is_decided m l) → ⊥) → {r : Result State Clash} → ComesTo s (With (has m) l) r
    → answer_of r ≡ unit_closure (clauses_of s) (mark m l)
closes_computed s m l i v n {r} c =
    let cs = clauses_of s in
    let wf = well_formed s in
    let e = has_mark m l v (λ t. n ((or_iff (has m l) (has m (neg_ℤ l))).1 (inr t))) in
    closes_unique (UnitClosed cs) (λ k. T (has (mark m l) k)) (answer_of r) (unit_closure cs (mark m l)) (answer_marks s r c.state) (unit_closure_marks cs wf (mark m l) (is_marks_mark m l i v))
    (closes_same (UnitClosed cs) (With (has m) l) (λ k. T (has (mark m l) k)) (λ k. ((e k).1, (e k).0)) (answer_of r) c.answer) (unit_closure_ok cs wf (mark m l))

-- and of a grid's givens
pub givens_computed : (s : ClauseSet) (g : List ℕ) {r : Result State Clash} → ComesTo s (λ l. Memᴰ l (givens g)) r
    → answer_of r ≡ bind (join blank (givens g)) (unit_closure (clauses_of s))
givens_computed s g {r} c =
    let cs = clauses_of s in
    let w = givens_closed cs (well_formed s) (givens g) (given_literal g) in
    closes_unique (UnitClosed cs) (λ l. Memᴰ l (givens g)) (answer_of r) (bind (join blank (givens g)) (unit_closure cs)) (answer_marks s r c.state) w.1 c.answer w.0
