-- The givens of a grid join marks with nothing decided, one after the other: at each cell the marks are the unit closure of the givens before it.
-- Assumes nothing.
use mathlib.Core.Path.{◌≡◌, refl, ap, sym, subst, ◌∙◌}
use mathlib.Core.Logic.{◌⊎◌, inl, inr, ⊎_elim, ◌↔◌}
use mathlib.Core.Bool.{Bool}
use mathlib.Core.List.{List, Memᴰ}
use Prim.Native.Nat.{ℕ, zero, suc, ◌+◌, ◌*◌, ◌-◌, ◌/◌, ◌%◌, ◌<◌}
use native.Mathlib.Decide.{dec_lt}
use native.Mathlib.Omega.{arith}
use lib.Dec.{T, eqb, eqb→eq}
use lib.IntN.{ℤ, pos}
use lib.ListN.{length, get_or}
use Rattle.grid.specs.Counting.{all, total}
use Rattle.grid.specs.Grid.{byte, is_digit, digit_of}
use Rattle.grid.specs.House.{cell_of}
use Rattle.grid.proofs.Counting.{all_iff, total_same}
use Rattle.clauses.specs.Clauses.{clauses_of}
use Rattle.clauses.specs.Models.{givens}
use Rattle.clauses.specs.Shape.{place_of}
use Rattle.clauses.specs.declared.ClauseSet.{ClauseSet}
use Rattle.clauses.specs.declared.ClauseSet.TheVariants.{Extended}
use Rattle.clauses.proofs.Members.{givens_iff, given_variable}
use Rattle.closure.specs.Sets.{IsLeast}
use Rattle.closure.specs.Closure.{With, UnitClosed}
use Rattle.closure.specs.Marks.{has, decided_in, decided, blank}
use Rattle.closure.specs.Propagation.{closed}
use Rattle.closure.proofs.Sets.{least_given, least_mono}
use Rattle.closure.proofs.Marks.{zeros, has_blank, is_marks_blank}
use Rattle.closure.proofs.Propagation.{closes_same}
use Rattle.groups.specs.Groups.{group_in}
use Rattle.worklist.specs.Sums.{weight, sum_of, SumsOk}
use Rattle.groups.proofs.Slots.{nines_below}
use Rattle.worklist.proofs.Rules.{groups_closed}
use Rattle.std.specs.Prelude.{Result}
use Rattle.worklist.specs.declared.acting.State.{State}
use Rattle.propagation.specs.Steps.{MarksOk, Closed, answer_of, ComesTo}
use Rattle.worklist.specs.declared.acting.Clash.{Clash}
use Rattle.propagation.proofs.Closing.{closes_between}

-- the sum of the q-th group of each kind where nothing is decided: a test that is computed
abbrev pub blank_sum : ℕ → ℕ → ℕ
blank_sum zero q = 9252 + 81 * q
blank_sum (suc zero) q = 12132 + 9 * q
blank_sum (suc (suc zero)) q = 9540 + (729 * (q / 9) + 9 * (q % 9))
blank_sum (suc (suc (suc i))) q = 10026 + 9 * (q / 9 + (243 * (q % 9 / 3) + 27 * (q % 3)))

abbrev sum_right : ℕ → Bool
sum_right x = eqb (total 9 (λ k. 1024 + place_of (group_in x) k)) (blank_sum (x / 81) (x % 81))

sums_right : T (all 324 sum_right)
unfolding all total place_of cell_of group_in
sums_right = tt

pub blank_sums_ok : (a : List ℕ) → length a ≡ 324 → ((i q : ℕ) → i < 4 → q < 81 → get_or a (81 * i + q) 0 ≡ blank_sum i q) → SumsOk Extended blank a
unfolding sum_of
blank_sums_ok a long h =
    record {
      long = long;
      sums = λ x b.
          let e : 81 * (x / 81) + x % 81 ≡ x = omega arith in
          ap (λ y. get_or a y 0) (sym e) ∙ h (x / 81) (x % 81) (omega arith) (omega arith)
          ∙ sym (eqb→eq (total 9 (λ k. 1024 + place_of (group_in x) k)) (blank_sum (x / 81) (x % 81)) ((all_iff 324 sum_right).0 sums_right x b))
          ∙ total_same 9 (λ k. 1024 + place_of (group_in x) k) (λ k. weight (get_or blank (place_of (group_in x) k) 0) (place_of (group_in x) k))
          (λ k c. ap (λ b. weight b (place_of (group_in x) k)) (sym (zeros 729 (place_of (group_in x) k))));
    }

-- set 1 has some of them
sums_some : (s : ClauseSet) {m a : List ℕ} → SumsOk Extended m a → SumsOk s m a
sums_some s r = record { long = r.long; sums = λ x h. r.sums x (omega (arith, nines_below s)) }

-- another place of nine
abbrev other : ℕ → ℕ
other zero = 1
other (suc i) = 0

other_below : (i : ℕ) → other i < 9
other_below zero = omega arith
other_below (suc i) = omega arith

other_differs : (i : ℕ) → other i ≡ i → ⊥
other_differs zero e = omega arith
other_differs (suc i) e = omega arith

-- marks with nothing decided are closed
blank_closed : (s : ClauseSet) → UnitClosed (clauses_of s) (has blank)
blank_closed s = groups_closed s (has blank) (λ f n p b i j c d e t. absurd (has_blank _ t)) (λ f n p b k c t. absurd (has_blank _ (t (other k) (other_below k) (other_differs k))))

-- a state with nothing decided
pub none_decided : 0 ≡ decided blank
unfolding decided_in
none_decided = refl

pub blank_state : (s : ClauseSet) (st : State) → st.marks ≡ blank → SumsOk Extended blank st.sums → Closed s st
blank_state s st e r =
    record {
      marks = subst (MarksOk s) (sym e) (record { marks = is_marks_blank; closed = blank_closed s });
      sums = sums_some s (subst (λ m. SumsOk Extended m st.sums) (sym e) r);
    }

module _ (s : ClauseSet) (g : List ℕ) where
  abbrev R : (ℤ → Bool) → Type 0
  R = UnitClosed (clauses_of s)

  -- the givens of the cells before i
  abbrev pub Before : ℕ → ℤ → Type 0
  Before i l = (c : ℕ) × (c < i) × T (is_digit (byte g c)) × (l ≡ pos (9 * c + digit_of (byte g c)))

  pub before_none : IsLeast R (Before 0) (has blank)
  before_none = record { holds = λ l w. absurd (omega (arith, w.1)); closed = blank_closed s; within = λ l t. absurd (has_blank l t) }

  before_next : (i : ℕ) (l : ℤ) → Before (i + 1) l → Before i l ⊎ (T (is_digit (byte g i)) × (l ≡ pos (9 * i + digit_of (byte g i))))
  before_next i l w = elim (dec_lt w.0 i) [
    | yes h ↦ inl (w.0, h, w.2, w.3)
    | no h ↦ (let e : w.0 ≡ i = omega (arith, w.1) in inr (subst (λ c. T (is_digit (byte g c)) × (l ≡ pos (9 * c + digit_of (byte g c)))) e (w.2, w.3)))
  ]

  before_more : (i : ℕ) (l : ℤ) → Before i l → Before (i + 1) l
  before_more i l w = (w.0, omega (arith, w.1), w.2, w.3)

  -- a blank adds nothing
  pub before_skip : (i : ℕ) (m : List ℕ) → (T (is_digit (byte g i)) → ⊥) → IsLeast R (Before i) (has m) → IsLeast R (Before (i + 1)) (has m)
  before_skip i m n v = closes_same R (Before i) (Before (i + 1)) (λ l. (before_more i l, λ w. ⊎_elim (λ x. x) (λ x. absurd (n x.0)) (before_next i l w))) (closed m) v

  -- a given joins
  pub before_given : (i : ℕ) (m : List ℕ) {r : Result State Clash} (d : T (is_digit (byte g i))) → IsLeast R (Before i) (has m)
      → ComesTo s (With (has m) (pos (suc (9 * i + (byte g i - 49))))) r → ComesTo s (Before (i + 1)) r
  before_given i m {r = r} d v c =
      let e : pos (9 * i + digit_of (byte g i)) ≡ pos (suc (9 * i + (byte g i - 49))) = ap pos (given_variable i (byte g i) d) in
      record {
        answer = closes_between
            (λ l w. ⊎_elim (λ x. inl (v.holds l x)) (λ x. inr (x.1 ∙ e)) (before_next i l w))
            (λ l w. ⊎_elim (λ x. least_mono (λ S u. u) (before_more i) l (v.within l x)) (λ x. least_given R l (i, omega arith, d, x ∙ sym e)) w)
            (answer_of r) c.answer;
        state = c.state;
      }

  -- those of all cells are the grid's
  pub before_all : (i : ℕ) → i ≡ 81 → (l : ℤ) → Before i l ↔ Memᴰ l (givens g)
  before_all i e l = ((λ w. (givens_iff g l).1 (w.0, omega (arith, w.1), w.2, w.3)), λ w. let v = (givens_iff g l).0 w in (v.0, omega (arith, v.1), v.2, v.3))

  pub before_some : (i : ℕ) → i < 82 → (l : ℤ) → Before i l → Memᴰ l (givens g)
  before_some i h l w = (givens_iff g l).1 (w.0, omega (arith, w.1), w.2, w.3)
