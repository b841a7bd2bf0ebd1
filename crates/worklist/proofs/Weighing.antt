-- A place gets a mark, and the sums of its slots follow, kind by kind. A slot of the kind whose turn it is has the place only if it is the
-- place's own slot of that kind.
-- Assumes nothing.
use mathlib.Core.Path.{◌≡◌, refl, ap, sym, subst, ◌∙◌}
use mathlib.Core.Bool.{◌||◌}
use mathlib.Core.List.{List, [], ◌∷◌}
use Prim.Native.Nat.{ℕ, zero, suc, ◌+◌, ◌*◌, ◌/◌, ◌≤◌, ◌<◌}
use native.Mathlib.Decide.{ℕ_discrete, dec_lt}
use native.Mathlib.Omega.{arith}
use lib.Dec.{eqb}
use lib.ListN.{length, get_or, set, length-set}
use lib.Seq.{get_or-set_same, get_or-set_other}
use Rattle.grid.specs.Counting.{tick}
use Rattle.clauses.specs.Shape.{place_of}
use Rattle.clauses.specs.declared.ClauseSet.{ClauseSet}
use Rattle.closure.specs.Marks.{decided_in, decided, IsMarks}
use Rattle.groups.specs.declared.Kind.{Kind}
use Rattle.groups.specs.declared.Kind.TheVariants.{Cell}
use Rattle.groups.specs.Groups.{group_in, kind_at, index_at, slot_at, nine_kinds, nines_of}
use Rattle.worklist.specs.Sums.{weight, sum_of, SumsOk}
use Rattle.worklist.specs.Acting.{Undecided}
use Rattle.groups.proofs.Slots.{number_at, nines_long, nine_at, slot_kind, slot_group, index_at_lem, slot_place}
use Rattle.worklist.proofs.Sums.{sum_marked, sum_kept, sum_least, sum_most}

-- a mark at an undecided place decides one variable more
decided_in_set : (n : ℕ) (m : List ℕ) (k b : ℕ) → k < n → k < length m → get_or m k 0 ≡ 0 → tick (eqb b 1 || eqb b 2) ≡ 1 → decided_in n (set m k b) ≡ decided_in n m + 1
unfolding decided_in
decided_in_set zero m k b h i z e = absurd (omega arith)
decided_in_set (suc n) [] k b h i z e = absurd (omega arith)
decided_in_set (suc n) (x ∷ m) zero b h i z e = rw z (omega (arith, e))
decided_in_set (suc n) (x ∷ m) (suc k) b h i z e = omega (arith, decided_in_set n m k b (omega arith) (omega arith) z e)

-- the mark of a literal
abbrev pub IsSign : ℕ → Type 0
IsSign b = (1 ≤ b) × (b ≤ 2)

sign_ticks : (b : ℕ) → IsSign b → tick (eqb b 1 || eqb b 2) ≡ 1
sign_ticks zero h = absurd (omega (arith, h.0))
sign_ticks (suc zero) h = refl
sign_ticks (suc (suc zero)) h = refl
sign_ticks (suc (suc (suc b))) h = absurd (omega (arith, h.1))

module _ (m : List ℕ) (p b : ℕ) (marks : IsMarks m) (u : Undecided m p) (sign : IsSign b) where
  one_decided : decided (set m p b) ≡ decided m + 1
  one_decided = decided_in_set 729 m p b u.0 (omega (arith, u.0, marks.long)) u.1 (sign_ticks b sign)

  pub counted_set : {m' : List ℕ} {d : ℕ} → d ≡ decided m' → m' ≡ m → d + 1 ≡ decided (set m' p b)
  counted_set c e = omega (arith, c, ap decided e, one_decided, ap (λ x. decided (set x p b)) e)

  pub is_marks_set : IsMarks (set m p b)
  is_marks_set =
      record {
        long = length-set m p b ∙ marks.long;
        small = λ k. elim (ℕ_discrete k p) [
          | yes e ↦ (let q : get_or (set m p b) k 0 ≡ b = ap (λ y. get_or (set m p b) y 0) e ∙ get_or-set_same m p b 0 (omega (arith, u.0, marks.long)) in omega (arith, q, sign.1))
          | no d ↦ (let q = get_or-set_other m p k b 0 d in omega (arith, q, marks.small k))
        ];
      }

-- slot x has a group with place p
abbrev At : ℕ → ℕ → Type 0
At p x = (k : ℕ) × (k < 9) × (place_of (group_in x) k ≡ p)

-- the slot of a place, if it has it
at_slot : (p x : ℕ) → x < 324 → At p x → slot_at (kind_at (x / 81)) p ≡ x
at_slot p x h w = subst (λ q. slot_at (kind_at (x / 81)) q ≡ x) w.2 (slot_place x h w.0 w.1).1

-- the kind whose turn it is, as the code reads it
pub turn : (s : ClauseSet) (i p : ℕ) {ks : List Kind} {x : ℕ} → ks ≡ nines_of s → i < length ks → x ≡ slot_at (get_or ks i Cell) p → (x ≡ slot_at (kind_at i) p) × (i < nine_kinds s)
turn s i p e h r = (r ∙ ap (λ f. slot_at f p) (nine_at s Cell i e h), omega (arith, nines_long s e, h))

-- the sums of the kinds before i are those of the new marks m', and the others those of the old, m
pub record Weighing (kinds i : ℕ) (m m' a : List ℕ) : Type 0 where
  pub long : length a ≡ 324
  pub done : (x : ℕ) → x < 81 * kinds → x < 81 * i → get_or a x 0 ≡ sum_of m' (group_in x)
  pub todo : (x : ℕ) → x < 81 * kinds → 81 * i ≤ x → get_or a x 0 ≡ sum_of m (group_in x)

module _ (kinds i p b : ℕ) (m a : List ℕ) (four : kinds ≤ 4) (next : i < kinds) (marks : IsMarks m) (u : Undecided m p) (w : Weighing kinds i m (set m p b) a) where
  abbrev slot : ℕ
  slot = slot_at (kind_at i) p

  within : (81 * i ≤ slot) × (slot < 81 * i + 81)
  within = let k = slot_kind p u.0 (kind_at i) in let e = number_at i (omega arith) in (omega (arith, k.0), omega (arith, k.1))

  pub slot_within : slot < 81 * kinds
  slot_within = omega (arith, within.1)

  here : At p slot
  here = let k = index_at_lem p u.0 (kind_at i) in (index_at (kind_at i) p, k.0, ap (λ g. place_of g (index_at (kind_at i) p)) (slot_group p u.0 (kind_at i)) ∙ k.1)

  in_marks : p < length m
  in_marks = omega (arith, u.0, marks.long)

  old_sum : get_or a slot 0 ≡ sum_of m (group_in slot)
  old_sum = w.todo slot slot_within within.0

  slot_small : slot < 324
  slot_small = omega (arith, within.1)

  -- the sum has what the undecided place weighs, and fits
  pub least : 1024 + p ≤ get_or a slot 0
  least = omega (arith, old_sum, sum_least m slot p here.0 slot_small in_marks u.1 here.1 here.2)

  pub most : get_or a slot 0 ≤ 24984
  most = omega (arith, old_sum, sum_most m slot slot_small)

  -- no other slot of the kind has the place
  only : (x : ℕ) → 81 * i ≤ x → x < 81 * (i + 1) → At p x → x ≡ slot
  only x l h k = let e : x / 81 ≡ i = omega arith in sym (at_slot p x (omega arith) k) ∙ ap (λ j. slot_at (kind_at j) p) e

  module _ (v : ℕ) (is_sum : v + (1024 + p) ≡ get_or a slot 0 + weight b p) where
    pub new_sum : v ≡ sum_of (set m p b) (group_in slot)
    new_sum = omega (arith, is_sum, old_sum, sum_marked m slot slot_small p b in_marks u.1 here.0 here.1 here.2)

    pub weighing_next : Weighing kinds (i + 1) m (set m p b) (set a slot v)
    weighing_next =
        record {
          long = length-set a slot v ∙ w.long;
          done = λ x h l. elim (ℕ_discrete x slot) [
            | yes e ↦ subst (λ y. get_or (set a slot v) y 0 ≡ sum_of (set m p b) (group_in y)) (sym e) (get_or-set_same a slot v 0 (omega (arith, w.long, slot_small)) ∙ new_sum)
            | no d ↦ get_or-set_other a slot x v 0 d ∙ elim (dec_lt x (81 * i)) [
              | yes q ↦ w.done x h q
              | no q ↦ w.todo x h (omega arith) ∙ sym (sum_kept m x (omega arith) p b in_marks (λ k c e. d (only x (omega arith) l (k, c, e))))
            ]
          ];
          todo = λ x h l. get_or-set_other a slot x v 0 (λ e. omega (arith, within.1, l, e)) ∙ w.todo x h (omega arith);
        }

pub weighing_none : (s : ClauseSet) (m m' a : List ℕ) → SumsOk s m a → Weighing (nine_kinds s) 0 m m' a
weighing_none s m m' a r = record { long = r.long; done = λ x h l. absurd (omega arith); todo = λ x h l. r.sums x h }

pub weighing_all : (s : ClauseSet) (m m' a : List ℕ) {i : ℕ} → nine_kinds s ≤ i → Weighing (nine_kinds s) i m m' a → SumsOk s m' a
weighing_all s m m' a c v = record { long = v.long; sums = λ x h. v.done x h (omega arith) }
