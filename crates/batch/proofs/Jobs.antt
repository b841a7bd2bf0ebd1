-- Each job of a batch, read off what the batch leaves. The parts stand end to end and are equally long, so that the i-th begins at i times that
-- length. Each count is within what was left of the ceiling, so that their sum is within the ceiling.
-- Assumes nothing.
use mathlib.Core.Path.{◌≡◌, refl, sym, ap, ◌∙◌}
use mathlib.Core.List.{List, [], ◌++◌}
use Prim.Native.Nat.{ℕ, zero, suc, ◌+◌, ◌*◌, ◌-◌, ◌≤◌, ◌<◌}
use native.Mathlib.Decide.{ℕ_discrete}
use native.Mathlib.Omega.{arith}
use lib.IntN.{ℤ}
use lib.ListN.{length, take, drop, get_or, length-append, length-drop}
use lib.Seq.{take_all, take-append-le, drop-append-le, drop_at, get_or-take, get_or-drop}
use Rattle.grid.specs.Counting.{total}
use Rattle.clauses.specs.Clauses.{clauses_of}
use Rattle.clauses.specs.Models.{givens}
use Rattle.closure.specs.Job.{End, count_of, marks_of, outcome_of}
use Rattle.closure.proofs.Ceiling.{count_below}
use Rattle.orders.specs.declared.technique.Technique.{Technique}
use Rattle.inference.specs.Call.{job_end_of}
use Rattle.batch.specs.Call.{grid_at, numbers_of, Done, done_after}

part_below : (k i n : ℕ) → i < n → k * i + k ≤ k * n
part_below k i zero h = absurd (omega arith)
part_below k i (suc n) h = elim (ℕ_discrete i n) [
  | yes e ↦ omega (arith, ap (λ j. k * j) e)
  | no d ↦ omega (arith, part_below k i n (omega arith))
]

-- rows of k entries, end to end
module _ (k : ℕ) (row rows : ℕ → List ℕ) (none : rows 0 ≡ []) (next : (j : ℕ) → rows (suc j) ≡ rows j ++ row j) where
  rows_long : (n : ℕ) → ((i : ℕ) → i < n → length (row i) ≡ k) → length (rows n) ≡ k * n
  rows_long zero h = ap length none ∙ omega arith
  rows_long (suc n) h = ap length (next n) ∙ length-append (rows n) (row n) ∙ omega (arith, rows_long n (λ i b. h i (omega arith)), h n (omega arith))

  -- the i-th is found at its place
  row_at_lem : (n i : ℕ) → ((i : ℕ) → i < n → length (row i) ≡ k) → i < n → take k (drop (k * i) (rows n)) ≡ row i
  row_at_lem zero i h b = absurd (omega arith)
  row_at_lem (suc n) i h b =
      let before = rows_long n (λ j l. h j (omega arith)) in
      ap (λ x. take k (drop (k * i) x)) (next n) ∙ elim (ℕ_discrete i n) [
        | yes e ↦ ap (take k) (drop_at (rows n) (row n) (k * i) (omega (arith, before, ap (λ j. k * j) e))) ∙ take_all k (row n) (omega (arith, h n (omega arith))) ∙ ap row (sym e)
        | no d ↦
            let room = part_below k i n (omega arith) in
            ap (take k) (drop-append-le (k * i) (rows n) (row n) (omega arith))
            ∙ take-append-le k (drop (k * i) (rows n)) (row n) (omega (arith, length-drop (k * i) (rows n))) ∙ row_at_lem n i (λ j l. h j (omega arith)) (omega arith)
      ]

-- a number of an answer list, by its part
number_at : (l : List ℕ) (a j : ℕ) → j < 2 → get_or l (a + j) 0 ≡ get_or (take 2 (drop a l)) j 0
number_at l a j h = sym (get_or-take 2 (drop a l) j 0 h ∙ get_or-drop a l j 0)

module _ (t : Technique) (o : List ℤ) (g : List ℕ) (c : ℕ) where
  abbrev done : ℕ → Done
  done n = done_after t o g c n

  -- the i-th job
  abbrev pub job_at : ℕ → End
  job_at i = job_end_of t o (grid_at g i) (c - (done i).count)

  -- the sum of the counts, which is within the ceiling
  pub sum_is : (n : ℕ) → ((done n).count ≡ total n (λ i. count_of (job_at i))) × ((done n).count ≤ c)
  unfolding done_after total
  sum_is zero = (refl, omega arith)
  sum_is (suc n) =
      let r = sum_is n in
      let b = count_below (clauses_of t.set) (c - (done n).count) t.trials o (givens (grid_at g n)) in
      (omega (arith, r.0), omega (arith, r.1, b))

  -- its two numbers
  numbers_at : (n i : ℕ) → i < n → take 2 (drop (2 * i) (done n).numbers) ≡ numbers_of (job_at i)
  unfolding done_after
  numbers_at n i h = row_at_lem 2 (λ j. numbers_of (job_at j)) (λ j. (done j).numbers) refl (λ j. refl) n i (λ j b. refl) h

  pub outcome_at_lem : (n i : ℕ) → i < n → get_or (done n).numbers (2 * i) 0 ≡ outcome_of (job_at i)
  outcome_at_lem n i h =
      ap (λ j. get_or (done n).numbers j 0) (omega arith) ∙ number_at (done n).numbers (2 * i) 0 (omega arith) ∙ ap (λ l. get_or l 0 0) (numbers_at n i h)

  pub count_at_lem : (n i : ℕ) → i < n → get_or (done n).numbers (2 * i + 1) 0 ≡ count_of (job_at i)
  count_at_lem n i h = number_at (done n).numbers (2 * i) 1 (omega arith) ∙ ap (λ l. get_or l 1 0) (numbers_at n i h)

  -- its marks, where each job leaves 729
  pub marks_at_lem : (n i : ℕ) → ((j : ℕ) → j < n → length (marks_of (job_at j)) ≡ 729) → i < n → take 729 (drop (729 * i) (done n).marks) ≡ marks_of (job_at i)
  unfolding done_after
  marks_at_lem n i long h = row_at_lem 729 (λ j. marks_of (job_at j)) (λ j. (done j).marks) refl (λ j. refl) n i long h

  -- there is nothing else
  pub marks_whole : (n : ℕ) → ((j : ℕ) → j < n → length (marks_of (job_at j)) ≡ 729) → length (done n).marks ≡ 729 * n
  unfolding done_after
  marks_whole n long = rows_long 729 (λ j. marks_of (job_at j)) (λ j. (done j).marks) refl (λ j. refl) n long

  pub numbers_whole : (n : ℕ) → length (done n).numbers ≡ 2 * n
  unfolding done_after
  numbers_whole n = rows_long 2 (λ j. numbers_of (job_at j)) (λ j. (done j).numbers) refl (λ j. refl) n (λ j b. refl)
