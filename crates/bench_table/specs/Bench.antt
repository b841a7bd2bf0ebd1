-- The jobs of the bench table, as one list of rows: a job, and what is expected of its end. It is expected along every order that the check accepts and,
-- where no trials are made, under every ceiling.
use Rattle.std.specs.Prelude.{◌≡◌, Bool, true, false, ℕ, ◌+◌, ◌*◌, ◌-◌, ℤ, get_or, replicate, set, Ok}
use mathlib.Core.List.{List, [], ◌∷◌, ◌++◌, Memᴰ}
use Rattle.grid.specs.Examples.{G}
use Rattle.clauses.specs.Clauses.{clauses_of}
use Rattle.clauses.specs.Models.{givens}
use Rattle.clauses.specs.declared.ClauseSet.{ClauseSet}
use Rattle.clauses.specs.declared.ClauseSet.TheVariants.{Minimal, Extended}
use Rattle.closure.specs.Marks.{decided, blank}
use Rattle.closure.specs.Job.{End, job_end, outcome_of, count_of, marks_of}
use Rattle.orders.specs.Order.{order_check}

-- what is said of the marks: nothing; how many variables they decide; the byte at a place, counted from 0; or that all are 0
pub data Marked : Type 0 where
  unsaid : Marked
  deciding : ℕ → Marked
  having : ℕ → ℕ → Marked
  zeros : Marked

-- the marks are as said
abbrev pub MarksAre : Marked → List ℕ → Type 0
MarksAre unsaid m = Unit {0}
MarksAre (deciding n) m = decided m ≡ n
MarksAre (having k b) m = get_or m k 0 ≡ b
MarksAre zeros m = m ≡ blank

-- a row: the grid, the technique by its set and its trials, the ceiling; and what is expected: the outcome's number, the count, the marks
pub record Row : Type 0 where
  pub grid : List ℕ
  pub clause_set : ClauseSet
  pub trials : Bool
  pub ceiling : ℕ
  pub outcome : ℕ
  pub count : ℕ
  pub marks : Marked

-- the end of a row's job, along an order of trials
unfoldable pub end_of : Row → List ℤ → End
end_of r order = job_end (clauses_of r.clause_set) r.ceiling r.trials order (givens r.grid)

-- an end is as the row expects
pub record Expected (r : Row) (e : End) : Type 0 where
  pub outcome : outcome_of e ≡ r.outcome
  pub count : count_of e ≡ r.count
  pub marks : MarksAre r.marks (marks_of e)

-- the row holds: its job ends as expected along every order that the operator's check accepts
abbrev pub Holds : Row → Type 0
Holds r = (order : List ℤ) → order_check order ≡ Ok tt → Expected r (end_of r order)

-- every row of the list holds
abbrev pub Every : List Row → Type 0
Every rs = (r : Row) → Memᴰ r rs → Holds r

-- 81 dots
abbrev pub dots : List ℕ
dots = replicate 81 46

-- the grid g with digit z at row x, column y
abbrev pub with : ℕ → ℕ → ℕ → List ℕ → List ℕ
with x y z g = set g (9 * (x - 1) + (y - 1)) (48 + z)

-- only 1 at (1,1)
unfoldable pub corner : List ℕ
corner = with 1 1 1 dots

-- 1 at (2,4), (3,7), (4,2), (7,3)
unfoldable pub ones : List ℕ
ones = with 2 4 1 (with 3 7 1 (with 4 2 1 (with 7 3 1 dots)))

-- `55` and 79 dots
unfoldable pub fives : List ℕ
fives = with 1 1 5 (with 1 2 5 dots)

-- 1 to 8 in row 1, blank (1,9), 9 at (5,9)
unfoldable pub no_nine : List ℕ
no_nine = with 1 1 1 (with 1 2 2 (with 1 3 3 (with 1 4 4 (with 1 5 5 (with 1 6 6 (with 1 7 7 (with 1 8 8 (with 5 9 9 dots))))))))

-- the blank grid under technique 3: the ceiling, the outcome, the count. A trial that succeeds leaves nothing behind.
abbrev pub blank_row : ℕ → ℕ → ℕ → Row
blank_row ceiling outcome count = record {
  grid = dots;
  clause_set = Minimal;
  trials = true;
  ceiling = ceiling;
  outcome = outcome;
  count = count;
  marks = zeros;
}

-- The rows, a list for each line of the table, with outcomes 1 solved, 2 open, 3 stopped, 4 contradiction.

-- stopped at each ceiling below 1,458, the trials of one pass in which none fails
abbrev pub blank_rows : List Row
blank_rows = blank_row 0 3 0 ∷ blank_row 1 3 1 ∷ blank_row 1457 3 1457 ∷ blank_row 1458 2 1458 ∷ []

-- the other rows make no trials, and their ceiling may be any
module _ (ceiling : ℕ) where
  -- a grid under technique 1 or 2: the set, the grid, the outcome, the marks. They count 0.
  abbrev pub unit_row : ClauseSet → List ℕ → ℕ → Marked → Row
  unit_row clauses grid outcome marks = record {
    grid = grid;
    clause_set = clauses;
    trials = false;
    ceiling = ceiling;
    outcome = outcome;
    count = 0;
    marks = marks;
  }

  -- set 2 strikes the other eight digits of the cell too
  abbrev pub corner_rows : List Row
  corner_rows = unit_row Minimal corner 2 (deciding 21) ∷ unit_row Extended corner 2 (deciding 29) ∷ []

  -- only set 2 has the clause that finds the one cell left in box (0,0), which marks +1, at place 0
  abbrev pub ones_rows : List Row
  ones_rows = unit_row Extended ones 2 (having 0 1) ∷ unit_row Minimal ones 2 (having 0 0) ∷ []

  -- two givens of one row are the same
  abbrev pub fives_rows : List Row
  fives_rows = unit_row Minimal fives 4 zeros ∷ unit_row Extended fives 4 zeros ∷ []

  -- no digit is left for (1,9)
  abbrev pub no_nine_rows : List Row
  no_nine_rows = unit_row Minimal no_nine 4 zeros ∷ []

  -- nothing is open
  abbrev pub full_rows : List Row
  full_rows = unit_row Minimal G 1 unsaid ∷ []

  -- all of them
  abbrev pub table : List Row
  table = blank_rows ++ (corner_rows ++ (ones_rows ++ (fives_rows ++ (no_nine_rows ++ full_rows))))

-- The bench table holds, under every ceiling of the rows that make no trials.
abbrev pub BenchTable : Type 0
BenchTable = (ceiling : ℕ) → Every (table ceiling)
