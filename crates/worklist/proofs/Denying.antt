-- A place becomes false, and the list follows the sums, kind by kind: a clause comes to act, and was not on the list, exactly where its sum falls
-- from 2,048 or more to less, and is not 0.
-- Assumes nothing.
use mathlib.Core.Path.{◌≡◌, refl, ap, sym, subst}
use mathlib.Core.Logic.{◌⊎◌, inl, inr, ⊎_elim}
use mathlib.Core.List.{List}
use Prim.Native.Nat.{ℕ, ◌+◌, ◌≤◌, ◌<◌}
use native.Mathlib.Decide.{ℕ_discrete, dec_lt}
use native.Mathlib.Omega.{arith}
use lib.ListN.{length, get_or, set}
use lib.Seq.{get_or-set_same, get_or-set_other}
use Rattle.clauses.specs.declared.ClauseSet.{ClauseSet}
use Rattle.closure.specs.Marks.{IsMarks}
use Rattle.groups.specs.Groups.{group_in, clause_in, kind_at, slot_at, nine_kinds}
use Rattle.worklist.specs.Sums.{InSlots, SumsOk}
use Rattle.worklist.specs.Acting.{Undecided, Acts, Lists, Ready}
use Rattle.worklist.specs.declared.acting.State.{State}
use Rattle.worklist.specs.declared.acting.Worklist.{Worklist}
use Rattle.groups.proofs.Slots.{nines_below}
use Rattle.worklist.proofs.Sums.{sum_small, sum_acts, acts_sum}
use Rattle.worklist.proofs.Lists.{slots_below, lists_few, lists_same, lists_skip, lists_more}
use Rattle.worklist.proofs.Weighing.{Weighing, is_marks_set, slot_within, new_sum}

-- slot x has a sum below 2,048
abbrev pub Low : List ℕ → ℕ → Type 0
Low a x = get_or a x 0 < 2048

-- a list of the clauses with such a sum is one of those that may act
pub lists_low : (s : ClauseSet) (m a : List ℕ) {ls : List ℕ} {n : ℕ} → IsMarks m → SumsOk s m a → Lists s (Acts m) ls n → Lists s (Low a) ls n
lists_low s m a i r v = lists_same v (λ x h w. (h, omega (arith, r.sums x h, acts_sum m x (slots_below s x h) w))) (λ x h l. (h, sum_acts m x i (omega (arith, r.sums x h, l))))

pub lists_acts : (s : ClauseSet) (m a : List ℕ) {ls : List ℕ} {n : ℕ} → IsMarks m → SumsOk s m a → Lists s (Low a) ls n → Lists s (Acts m) ls n
lists_acts s m a i r v = lists_same v (λ x h l. (h, sum_acts m x i (omega (arith, r.sums x h, l)))) (λ x h w. (h, omega (arith, r.sums x h, acts_sum m x (slots_below s x h) w)))

-- so a state and a list that have marks m and the clauses with such a sum are as they must be
pub ready_low : (s : ClauseSet) (m : List ℕ) {st : State} {l : Worklist} → st.marks ≡ m → IsMarks m → SumsOk s m st.sums → length l.numbers ≡ 361 → Lists s (Low st.sums) l.numbers l.listed
    → Ready s st l
ready_low s m {st} e i r long v =
    let i = subst IsMarks (sym e) i in
    let r = subst (λ m. SumsOk s m st.sums) (sym e) r in
    record { marks = i; sums = r; long = long; lists = lists_acts s st.marks st.sums i r v }

-- a sum that says that one place is left
abbrev pub Leaves : ℕ → Type 0
Leaves v = (1024 ≤ v) × (v < 2048)

module _ (s : ClauseSet) (i p : ℕ) (m a : List ℕ) (next : i < nine_kinds s) (marks : IsMarks m) (u : Undecided m p) (w : Weighing (nine_kinds s) i m (set m p 2) a) where
  abbrev slot : ℕ
  slot = slot_at (kind_at i) p

  module _ (v : ℕ) (is_sum : v + (1024 + p) ≡ get_or a slot 0) where
    in_slots : InSlots s slot
    in_slots = slot_within (nine_kinds s) i p 2 m a (nines_below s) next marks u w

    here : get_or (set a slot v) slot 0 ≡ v
    here = get_or-set_same a slot v 0 (omega (arith, w.long, slots_below s slot in_slots))

    none_left : v < 1024 → v ≡ 0
    none_left h =
        let e = new_sum (nine_kinds s) i p 2 m a (nines_below s) next marks u w v (omega (arith, is_sum)) in
        ⊎_elim (λ r. omega (arith, e, r.0)) (λ r. absurd (omega (arith, e, r.2))) (sum_small (set m p 2) (group_in slot) (is_marks_set m p 2 marks u (omega arith, omega arith)) (omega (arith, e, h)))

    -- the sums of the others stay
    apart : (x : ℕ) {A : Type 0} → ((x ≡ slot) → A) → ((get_or (set a slot v) x 0 ≡ get_or a x 0) → A) → A
    apart x f g = elim (ℕ_discrete x slot) [ yes e ↦ f e | no d ↦ g (get_or-set_other a slot x v 0 d) ]

    pub listed_next : {ls : List ℕ} {n n' : ℕ} → length ls ≡ 361 → Lists s (Low a) ls n → (Leaves v × (n' ≡ n + 1)) ⊎ ((Leaves v → ⊥) × (n' ≡ n))
        → Lists s (Low (set a slot v)) (set ls n (clause_in slot)) n'
    listed_next {ls} {n} {n'} long r branch = ⊎_elim
        (λ b. subst (Lists s (Low (set a slot v)) (set ls n (clause_in slot))) (sym b.1)
        (lists_more r (clause_in slot) (omega (arith, long, lists_few r)) slot in_slots refl (λ h. omega (arith, h, is_sum, b.0)) (omega (arith, here, b.0))
        (λ x h l. apart x (λ e. absurd (let q = ap (λ y. get_or a y 0) e in omega (arith, q, l, is_sum, b.0))) (λ e. omega (arith, e, l)))
        (λ x h l. apart x inr (λ e. inl (omega (arith, e, l))))))
        (λ b. subst (Lists s (Low (set a slot v)) (set ls n (clause_in slot))) (sym b.1)
        (lists_skip r (clause_in slot)
        (λ x h l. apart x (λ e. let q = ap (λ y. get_or a y 0) e in let z = ap (λ y. get_or (set a slot v) y 0) e in omega (arith, q, z, l, is_sum, here)) (λ e. omega (arith, e, l)))
        (λ x h l. apart x
        (λ e. let q = ap (λ y. get_or a y 0) e in let z = ap (λ y. get_or (set a slot v) y 0) e in
        let k = none_left (low b.0 (omega (arith, z, here, l))) in omega (arith, q, k, is_sum, u.0))
        (λ e. omega (arith, e, l)))))
        branch
      where
        low : (Leaves v → ⊥) → v < 2048 → v < 1024
        low f h = elim (dec_lt v 1024) [ yes b ↦ b | no b ↦ absurd (f (omega arith, h)) ]
