-- Every row of the bench table holds. Those without trials are computed, and G's is that of a full legal grid. For the blank grid's each
-- literal is true in a model: G with its digits turned round until the literal's cell has its digit, or one step further.
-- Assumes nothing.
use mathlib.Core.Path.{◌≡◌, refl, subst, sym}
use mathlib.Core.Logic.{⊎_elim}
use mathlib.Core.Bool.{Bool, true, false, not, cond}
use mathlib.Core.List.Memᴰ
use mathlib.Core.List.{List, [], ◌++◌, map}
use Prim.Native.Nat.{ℕ, zero, suc, ◌+◌, ◌-◌, ◌/◌, ◌%◌, ◌<◌}
use native.Mathlib.Omega.{arith}
use lib.Dec.{T, leb}
use lib.IntN.{ℤ, pos, negsuc}
use Rattle.std.specs.Prelude.{Ok}
use Rattle.grid.specs.Counting.{total, all}
use Rattle.grid.specs.Grid.{byte, is_digit}
use Rattle.grid.specs.House.{cell_of}
use Rattle.grid.specs.Completion.{times, is_legal}
use Rattle.grid.specs.Examples.{G}
use Rattle.grid.proofs.Counting.{all_iff}
use Rattle.grid.proofs.Completion.{legal_iff}
use Rattle.clauses.specs.Literal.{Literal}
use Rattle.clauses.specs.Clauses.{clauses_of}
use Rattle.clauses.specs.Models.{holds, givens, truth_of}
use Rattle.clauses.specs.declared.ClauseSet.{ClauseSet}
use Rattle.clauses.specs.declared.ClauseSet.TheVariants.{Minimal}
use Rattle.clauses.proofs.ModelsAreCompletions.{models_are_completions}
use Rattle.closure.specs.Marks.{blank}
use Rattle.closure.specs.Job.{End, opened, stopped, job_end, outcome_of, count_of, marks_of}
use Rattle.closure.proofs.ClauseSets.{well_formed}
use Rattle.orders.specs.Order.{order_check}
use Rattle.orders.proofs.Orders.{accepted_order, accepted_literal}
use Rattle.bench_table.specs.Bench.{Row, end_of, Expected, Holds, Every, dots, blank_row, blank_rows, full_rows, BenchTable}
use Rattle.bench_table.proofs.Computed.{none, ◌also◌, corner_rows_lem, ones_rows_lem, fives_rows_lem, no_nine_rows_lem}
use Rattle.bench_table.proofs.FullGrid.{full_solved}
use Rattle.bench_table.proofs.Quiet.{Possible, quiet_job}

-- G with each digit s further, 1 after 9
unfoldable turned : ℕ → List ℕ
turned s = map (λ x. 49 + (x - 49 + s) % 9) G

-- how far to turn for variable k + 1 to be true
abbrev turn_of : ℕ → ℕ
turn_of k = (k % 9 + (58 - byte G (k / 9))) % 9

turned_legal : T (all 10 (λ s. is_legal dots (turned s)))
unfolding all is_legal is_digit times total cell_of turned G
turned_legal = tt

turned_true : T (all 729 (λ k. truth_of (turned (turn_of k)) (suc k)))
unfolding all truth_of turned G
turned_true = tt

turned_false : T (all 729 (λ k. not (truth_of (turned (suc (turn_of k))) (suc k))))
unfolding all truth_of turned G
turned_false = tt

module _ (s : ClauseSet) where
  -- what is true in a turned grid is possible,
  turned_possible : (r : ℕ) → r < 10 → (l : ℤ) → T (holds (truth_of (turned r)) l) → Possible (clauses_of s) l
  turned_possible r h l t =
      let legal = (legal_iff dots (turned r)).0 ((all_iff 10 (λ s. is_legal dots (turned s))).0 turned_legal r h) in
      record { truth = truth_of (turned r); meets = ((models_are_completions s dots).models (turned r) legal).clauses; holds = t }

  -- and so is each literal
  possible : (l : ℤ) → Literal l → Possible (clauses_of s) l
  possible (pos zero) v = absurd v
  possible (pos (suc k)) v =
      turned_possible (turn_of k) (omega arith) (pos (suc k)) ((all_iff 729 (λ k. truth_of (turned (turn_of k)) (suc k))).0 turned_true k v)
  possible (negsuc k) v =
      turned_possible (suc (turn_of k)) (omega arith) (negsuc k)
      ((all_iff 729 (λ k. not (truth_of (turned (suc (turn_of k))) (suc k)))).0 turned_false k v)

dots_givens : givens dots ≡ []
unfolding givens is_digit
dots_givens = refl

-- how the blank grid's job ends: open after 1,458 trials, or stopped at the ceiling
abbrev blank_end : ℕ → End
blank_end ceiling = cond (leb 1458 ceiling) (opened blank 1458) (stopped blank ceiling)

blank_job : (ceiling : ℕ) (order : List ℤ) → order_check order ≡ Ok tt → job_end (clauses_of Minimal) ceiling true order (givens dots) ≡ blank_end ceiling
blank_job ceiling order h =
    rw (dots_givens, quiet_job (clauses_of Minimal) (well_formed Minimal) (possible Minimal) ceiling order (accepted_literal order h), (accepted_order order h).long)
    refl

blank_holds : (ceiling outcome count : ℕ) → outcome_of (blank_end ceiling) ≡ outcome → count_of (blank_end ceiling) ≡ count → Holds (blank_row ceiling outcome count)
unfolding end_of
blank_holds ceiling outcome count o n order h =
    subst (Expected (blank_row ceiling outcome count)) (sym (blank_job ceiling order h)) (record { outcome = o; count = n; marks = zero_marks (leb 1458 ceiling) })
  where
    zero_marks : (b : Bool) → marks_of (cond b (opened blank 1458) (stopped blank ceiling)) ≡ blank
    zero_marks true = refl
    zero_marks false = refl

blank_rows_lem : Every blank_rows
blank_rows_lem = blank_holds _ _ _ refl refl also blank_holds _ _ _ refl refl also blank_holds _ _ _ refl refl also blank_holds _ _ _ refl refl also none

G_legal : T (is_legal G G)
unfolding all is_legal is_digit times total cell_of G
G_legal = tt

full_rows_lem : (ceiling : ℕ) → Every (full_rows ceiling)
unfolding end_of
full_rows_lem ceiling =
    let w = full_solved Minimal G ((legal_iff G G).0 G_legal) ceiling false in
    (λ order h. record { outcome = rw (w order).1 refl; count = rw (w order).1 refl; marks = tt }) also none

-- the rows of two lists
◌then◌ : {rs qs : List Row} → Every rs → Every qs → Every (rs ++ qs)
◌then◌ {rs} h k r i = ⊎_elim (h r) (k r) (Memᴰ.append_cases rs i)

infixr 4 ◌then◌
-- every row of the table holds
pub bench : BenchTable
bench c = blank_rows_lem then corner_rows_lem c then ones_rows_lem c then fives_rows_lem c then no_nine_rows_lem c then full_rows_lem c
