-- A look at a listed clause: its sum tells what it says, a contradiction or the place that becomes true; and steps that follow each other are steps.
-- Assumes nothing.
use mathlib.Core.Path.{◌≡◌, ap, sym, subst, ◌∙◌}
use mathlib.Core.Logic.{inl, ⊎_elim}
use mathlib.Core.List.{List}
use Prim.Native.Nat.{ℕ, suc, ◌+◌, ◌-◌, ◌≤◌, ◌<◌}
use native.Mathlib.Omega.{arith}
use lib.Dec.{T}
use lib.IntN.{pos}
use lib.ListN.{get_or, set}
use Rattle.std.specs.Prelude.{Some, Ok, Err, Result}
use Rattle.clauses.specs.Clauses.{clauses_of}
use Rattle.clauses.specs.Shape.{place_of}
use Rattle.clauses.specs.declared.ClauseSet.{ClauseSet}
use Rattle.closure.specs.Sets.{Least}
use Rattle.closure.specs.Closure.{UnitClosed}
use Rattle.closure.specs.Marks.{has}
use Rattle.closure.proofs.Sets.{least_given, least_within}
use Rattle.closure.proofs.Closure.{contradiction_mono}
use Rattle.groups.specs.Groups.{group_in, clause_in}
use Rattle.worklist.specs.Sums.{InSlots, sum_of}
use Rattle.worklist.specs.Acting.{AllBut, Acts, Last, Undecided, Ready, Struck, Follows, Clashes, Stepped, StepsTo}
use Rattle.worklist.specs.declared.acting.Clash.{Clash}
use Rattle.worklist.specs.declared.acting.State.{State}
use Rattle.worklist.specs.declared.acting.Worklist.{Worklist}
use Rattle.groups.proofs.Slots.{slot_place}
use Rattle.worklist.proofs.Sums.{sum_small, acts_sum}
use Rattle.worklist.proofs.Rules.{slot_lasts, none_left}
use Rattle.worklist.proofs.Lists.{slots_below}
use Rattle.worklist.proofs.Literals.{has_set}

-- what is of the closure of steps is of the closure
pub follows_more : (s : ClauseSet) (m m' m'' : List ℕ) → Follows s m m' → Follows s m' m'' → Follows s m m''
follows_more s m m' m'' f g l p = least_within (λ S r. r) f l (g l p)

pub clashes_back : (s : ClauseSet) (m m' : List ℕ) → Follows s m m' → Clashes s m' → Clashes s m
clashes_back s m m' f c = contradiction_mono (λ l d. least_within (λ S r. r) f l d) c

pub stepped_none : (s : ClauseSet) {st : State} {l : Worklist} → Ready s st l → Struck s st.marks → Stepped s st.marks st l
stepped_none s r h = record { ready = r; struck = h; keeps = λ l t. t; follows = λ l t. least_given (UnitClosed (clauses_of s)) l t }

pub stepped_more : (s : ClauseSet) {m : List ℕ} {st st' : State} {l l' : Worklist} → Stepped s m st l → Stepped s st.marks st' l' → Stepped s m st' l'
stepped_more s {m} {st} {st'} v w =
    record {
      ready = w.ready;
      struck = w.struck;
      keeps = λ l t. w.keeps l (v.keeps l t);
      follows = follows_more s m st.marks st'.marks v.follows w.follows;
    }

-- the clause that was listed last
module _ (s : ClauseSet) (st : State) (l : Worklist) (c : ℕ) (r : Ready s st l) (k : Last l (Some c)) where
  abbrev entry : (x : ℕ) × InSlots s x × Acts st.marks x × (get_or l.numbers (l.listed - 1) 0 ≡ clause_in x)
  entry = r.lists.sound (l.listed - 1) (omega (arith, k.0))

  -- its slot
  abbrev pub slot : ℕ
  slot = entry.0

  pub slot_small : slot < 324
  slot_small = slots_below s slot entry.1

  pub is_clause : c ≡ clause_in slot
  is_clause = k.1 ∙ entry.3

  is_sum : get_or st.sums slot 0 ≡ sum_of st.marks (group_in slot)
  is_sum = r.sums.sums slot entry.1

  -- a sum of 0: all its places are false
  pub look_clash : get_or st.sums slot 0 ≡ 0 → Clashes s st.marks
  look_clash z = none_left s st.marks slot r.marks entry.1 (sym is_sum ∙ z)

  -- else one is left
  module _ (n : get_or st.sums slot 0 ≡ 0 → ⊥) where
    one_left : (j : ℕ) × (j < 9) × (sum_of st.marks (group_in slot) ≡ 1024 + place_of (group_in slot) j) × (get_or st.marks (place_of (group_in slot) j) 0 ≡ 0) × AllBut st.marks (group_in slot) j
    one_left = ⊎_elim (λ j. absurd (n (is_sum ∙ j.0))) (λ j. j) (sum_small st.marks (group_in slot) r.marks (acts_sum st.marks slot slot_small entry.2))

    abbrev pub place : ℕ
    place = get_or st.sums slot 0 - 1024

    is_place : place_of (group_in slot) one_left.0 ≡ place
    is_place = omega (arith, one_left.2, is_sum)

    pub place_left : (1024 ≤ get_or st.sums slot 0) × Undecided st.marks place
    place_left = (
      omega (arith, one_left.2, is_sum),
      ((let q = (slot_place slot slot_small one_left.0 one_left.1).0 in omega (arith, q, is_place)), ap (λ p. get_or st.marks p 0) (sym is_place) ∙ one_left.3),
    )

    pub place_follows : Follows s st.marks (set st.marks place 1)
    place_follows k t =
        let u = place_left.1 in
        let least : Least (UnitClosed (clauses_of s)) (λ l. T (has st.marks l)) (pos (suc place)) =
        λ S d g. subst (λ p. T (S (pos (suc p)))) is_place (slot_lasts s S d slot entry.1 one_left.0 one_left.1 (λ j d x. g _ (one_left.4 j d x))) in
        ⊎_elim (λ x. least_given (UnitClosed (clauses_of s)) k x) (λ x S c g. subst (λ y. T (S y)) (sym x) (least S c g)) ((has_set st.marks (pos (suc place)) r.marks u.0 u.1 k).0 t)

    pub look_place : (st' : State) (l' : Worklist) (e : Result (Unit {0}) Clash) → StepsTo s st (set st.marks place 1) st' l' e → StepsTo s st st.marks st' l' e
    look_place st' l' (Ok x) v =
        let u = place_left.1 in (
          record {
            ready = v.0.ready;
            struck = v.0.struck;
            keeps = λ k t. v.0.keeps k ((has_set st.marks (pos (suc place)) r.marks u.0 u.1 k).1 (inl t));
            follows = follows_more s st.marks (set st.marks place 1) st'.marks place_follows v.0.follows;
          },
          v.1,
        )
    look_place st' l' (Err x) v = clashes_back s st.marks (set st.marks place 1) place_follows v
