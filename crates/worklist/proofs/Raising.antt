-- A place becomes true, and the list is settled. What may act now might act before, and so is on the list: the clauses that stay, those with a sum
-- below 2,048, are all that may act. One with the sum 0 is a contradiction.
-- Assumes nothing.
use mathlib.Core.Path.{◌≡◌, sym, subst, ◌∙◌}
use mathlib.Core.Logic.{inl, ⊎_elim}
use mathlib.Core.List.{List}
use Prim.Native.Nat.{ℕ, suc, ◌<◌}
use native.Mathlib.Omega.{arith}
use lib.IntN.{pos, negsuc}
use lib.ListN.{set}
use Rattle.std.specs.Prelude.{Result, Ok, Err, IsErr}
use Rattle.std.proofs.lemmas.Bool.{true≢false}
use Rattle.clauses.specs.Shape.{place_of}
use Rattle.clauses.specs.declared.ClauseSet.{ClauseSet}
use Rattle.clauses.specs.declared.ClauseSet.TheVariants.{Extended}
use Rattle.closure.specs.Marks.{IsMarks}
use Rattle.groups.specs.Groups.{group_in}
use Rattle.worklist.specs.Sums.{InSlots, SumsOk}
use Rattle.worklist.specs.Acting.{Undecided, Acts, Lists, On, Ready, Settled, Clashes, StepsTo}
use Rattle.worklist.specs.declared.acting.Clash.{Clash}
use Rattle.worklist.specs.declared.acting.State.{State}
use Rattle.worklist.specs.declared.acting.Worklist.{Worklist}
use Rattle.groups.proofs.Slots.{clause_once}
use Rattle.worklist.proofs.Sums.{sum_acts}
use Rattle.worklist.proofs.Rules.{none_left}
use Rattle.worklist.proofs.Literals.{has_set}
use Rattle.worklist.proofs.Striking.{signs_differ}
use Rattle.worklist.proofs.Lists.{slots_below, lists_same}
use Rattle.worklist.proofs.Weighing.{is_marks_set}
use Rattle.worklist.proofs.Denying.{ready_low}

-- what is on a list are clauses of slots
pub lists_on : (s : ClauseSet) (l : Worklist) {P : ℕ → Type 0} → Lists s P l.numbers l.listed → Lists Extended (On l) l.numbers l.listed
lists_on s l r = record { sound = λ i h. let w = r.sound i h in (w.0, slots_below s w.0 w.1, (i, h, w.3), w.3); once = r.once; complete = λ x h k. k }

-- an error is a contradiction
pub steps_err : (s : ClauseSet) (st : State) (m : List ℕ) (st' : State) (l : Worklist) (r : Result (Unit {0}) Clash) → IsErr r → Clashes s m → StepsTo s st m st' l r
steps_err s st m st' l (Ok u) e x = absurd (true≢false (sym e))
steps_err s st m st' l (Err c) e x = x

-- a clause that may act after a place became true, may before
acts_before : (m : List ℕ) (p x : ℕ) → IsMarks m → Undecided m p → Acts (set m p 1) x → Acts m x
acts_before m p x i u w =
    let e = has_set m (pos (suc p)) i u.0 u.1 in (
      w.0,
      w.1,
      (λ j c d. ⊎_elim (λ t. t) (λ q. absurd (signs_differ p (place_of (group_in x) j) (sym q))) ((e (negsuc (place_of (group_in x) j))).0 (w.2 j c d))),
      λ t. w.3 ((e (pos (suc (place_of (group_in x) w.0)))).1 (inl t)),
    )

module _ (s : ClauseSet) (p : ℕ) (st : State) (l : Worklist) (ready : Ready s st l) (u : Undecided st.marks p) where
  abbrev m : List ℕ
  m = set st.marks p 1

  marks : IsMarks m
  marks = is_marks_set st.marks p 1 ready.marks u (omega arith, omega arith)

  -- what is on the list are slots of the set
  on_slots : (x : ℕ) → x < 324 → On l x → InSlots s x
  on_slots x h k =
      let w = ready.lists.sound k.0 k.1 in
      subst (InSlots s) (clause_once w.0 x (slots_below s w.0 w.1) h (sym w.3 ∙ k.2)) w.1

  module _ (st' : State) (l' : Worklist) (r : Result (Unit {0}) Clash) (e : st'.marks ≡ set st.marks p 1) (sums : SumsOk s st'.marks st'.sums) (settled : Settled st'.sums l l' r) where
    raised_sums : SumsOk s m st'.sums
    raised_sums = subst (λ m. SumsOk s m st'.sums) e sums

    pub raised : Ready s st' l'
    raised =
        ready_low s m e marks raised_sums settled.long
        (lists_same settled.lists (λ x h w. (on_slots x h w.0, w.1))
        (λ x h b. (slots_below s x h, (ready.lists.complete x h (acts_before st.marks p x ready.marks u (sum_acts m x marks (omega (arith, raised_sums.sums x h, b)))), b))))

    pub raised_clash : IsErr r → Clashes s m
    raised_clash z =
        let w = settled.clash z in
        let h = on_slots w.0 w.1 w.2 in
        none_left s m w.0 marks h (omega (arith, raised_sums.sums w.0 h, w.3))
