-- The rows without trials whose grids are sparse are computed: a row's expectation as a test, and the test of each row. Their order and their
-- ceiling stay variables there, since such a job looks at neither.
-- Assumes nothing.
use mathlib.Core.Path.{◌≡◌, refl, ap, sym, subst}
use mathlib.Core.Bool.{Bool, true, ◌&&◌}
use mathlib.Core.List.Memᴰ
use mathlib.Core.List.{List, [], ◌∷◌}
use mathlib.Core.Logic.{⊎_elim}
use Prim.Native.Nat.{ℕ}
use native.Mathlib.Omega.{arith}
use lib.Dec.{T, eqb, eqb→eq}
use lib.IntN.{ℤ}
use lib.ListN.{get_or}
use Rattle.grid.specs.Grid.{is_digit, digit_of}
use Rattle.grid.proofs.Table.{and_iff}
use Rattle.clauses.specs.Clauses.{F1, F2, F3, F4, F5, F6, F7, F8, F9, families, minimal, extended, clauses_of}
use Rattle.clauses.specs.Models.{givens}
use Rattle.closure.specs.Marks.{has, put, mark, decided, decided_in, blank}
use Rattle.closure.specs.Propagation.{Answer, clash, closed, bind, remaining, unit_closure, join}
use Rattle.closure.specs.Job.{End, solved, opened, stopped, contradiction, start, job_end, outcome_of, count_of, marks_of}
use Rattle.bench_table.specs.Bench.{Marked, unsaid, deciding, having, zeros, MarksAre, Row, end_of, Expected, Holds, Every}
use Rattle.bench_table.specs.Bench.{corner, ones, fives, no_nine, corner_rows, ones_rows, fives_rows, no_nine_rows}
use Rattle.bench_table.proofs.QuickSweep.{quick_sweeps, quick_sweeps_lem}

-- the marks are as said; all 0 where the end is a contradiction
abbrev marks_test : Marked → End → Bool
marks_test unsaid e = true
marks_test (deciding n) e = eqb (decided (marks_of e)) n
marks_test (having k b) e = eqb (get_or (marks_of e) k 0) b
marks_test zeros e = eqb (outcome_of e) 4

-- the end is as the row expects
abbrev expected_test : Row → End → Bool
expected_test r e = eqb (outcome_of e) r.outcome && (eqb (count_of e) r.count && marks_test r.marks e)

contradiction_zeros : (e : End) → outcome_of e ≡ 4 → marks_of e ≡ blank
contradiction_zeros (solved m n) q = absurd (omega arith)
contradiction_zeros (opened m n) q = absurd (omega arith)
contradiction_zeros (stopped m n) q = absurd (omega arith)
contradiction_zeros (contradiction n) q = refl

marks_are : (k : Marked) (e : End) → T (marks_test k e) → MarksAre k (marks_of e)
marks_are unsaid e t = tt
marks_are (deciding n) e t = eqb→eq (decided (marks_of e)) n t
marks_are (having k b) e t = eqb→eq (get_or (marks_of e) k 0) b t
marks_are zeros e t = contradiction_zeros e (eqb→eq (outcome_of e) 4 t)

-- the row's job by quick sweeps
abbrev quick_end : Row → List ℤ → End
quick_end r order = start (clauses_of r.clause_set) r.ceiling r.trials order (bind (join blank (givens r.grid)) (quick_sweeps 730 (clauses_of r.clause_set)))

quick_end_lem : (r : Row) (order : List ℤ) → quick_end r order ≡ end_of r order
unfolding end_of job_end unit_closure
quick_end_lem r order = ap (start (clauses_of r.clause_set) r.ceiling r.trials order) (same (join blank (givens r.grid)))
  where
    same : (a : Answer) → bind a (quick_sweeps 730 (clauses_of r.clause_set)) ≡ bind a (unit_closure (clauses_of r.clause_set))
    same clash = refl
    same (closed m) = quick_sweeps_lem 730 (clauses_of r.clause_set) m

-- every row's test passes; all that its job opens is opened here
unfoldable rows_test : List Row → List ℤ → Bool
unfolding quick_sweeps givens is_digit digit_of clauses_of families minimal extended F1 F2 F3 F4 F5 F6 F7 F8 F9
    has put mark decided_in remaining join corner ones fives no_nine
rows_test [] order = true
rows_test (r ∷ rs) order = expected_test r (quick_end r order) && rows_test rs order

expected : (r : Row) (e : End) → T (expected_test r e) → Expected r e
expected r e t =
    let a = (and_iff (eqb (outcome_of e) r.outcome) (eqb (count_of e) r.count && marks_test r.marks e)).0 t in
    let b = (and_iff (eqb (count_of e) r.count) (marks_test r.marks e)).0 a.1 in
    record { outcome = eqb→eq (outcome_of e) r.outcome a.0; count = eqb→eq (count_of e) r.count b.0; marks = marks_are r.marks e b.1 }

-- no row
pub none : Every []
none r i = absurd (Memᴰ.not-nil i)

infixr 5 ◌also◌
-- a row, and those of a list
pub ◌also◌ : {x : Row} {rs : List Row} → Holds x → Every rs → Every (x ∷ rs)
◌also◌ h rest r i = ⊎_elim (λ e. subst Holds (sym e) h) (rest r) (Memᴰ.cases_cons i)

rows_hold : (rs : List Row) → ((order : List ℤ) → T (rows_test rs order)) → Every rs
unfolding rows_test
rows_hold [] t = none
rows_hold (r ∷ rs) t =
    let a = λ (order : List ℤ). (and_iff (expected_test r (quick_end r order)) (rows_test rs order)).0 (t order) in
    (λ order h. subst (Expected r) (quick_end_lem r order) (expected r (quick_end r order) (a order).0)) also rows_hold rs (λ order. (a order).1)

pub corner_rows_lem : (ceiling : ℕ) → Every (corner_rows ceiling)
unfolding rows_test
corner_rows_lem ceiling = rows_hold (corner_rows ceiling) (λ order. tt)

pub ones_rows_lem : (ceiling : ℕ) → Every (ones_rows ceiling)
unfolding rows_test
ones_rows_lem ceiling = rows_hold (ones_rows ceiling) (λ order. tt)

pub fives_rows_lem : (ceiling : ℕ) → Every (fives_rows ceiling)
unfolding rows_test
fives_rows_lem ceiling = rows_hold (fives_rows ceiling) (λ order. tt)

pub no_nine_rows_lem : (ceiling : ℕ) → Every (no_nine_rows ceiling)
unfolding rows_test
no_nine_rows_lem ceiling = rows_hold (no_nine_rows ceiling) (λ order. tt)
