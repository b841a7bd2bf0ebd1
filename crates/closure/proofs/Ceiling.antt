-- A job under a ceiling c beside the same job under a higher one d, step by step: they do the same, and the count is at most c; or the first has come to
-- a trial at the count c and stops there, while the second makes that trial, so that its count passes c. So no count passes its ceiling, and a job is
-- stopped exactly where it would make more trials.
-- Assumes nothing.
use mathlib.Core.Path.{◌≡◌, refl, sym, ap, ◌∙◌}
use mathlib.Core.Logic.{◌⊎◌, inl, inr, ⊎_elim}
use mathlib.Core.Bool.{Bool, true, false}
use mathlib.Core.List.{List, [], ◌∷◌}
use Prim.Native.Nat.{ℕ, zero, suc, ◌+◌, ◌≤◌, ◌<◌}
use native.Mathlib.Omega.{arith}
use borrow.Author.Tests.{eqb-true, eqb-false}
use lib.Dec.{eqb}
use lib.IntN.{ℤ, pos, negsuc, neg_ℤ}
use Rattle.clauses.specs.Clauses.{Clause}
use Rattle.closure.specs.Marks.{has, is_decided, put, mark, decided_in, blank}
use Rattle.closure.specs.Propagation.{Answer, clash, closed, bind, remaining, sweep, sweeps, unit_closure, join}
use Rattle.closure.specs.Laws.{CutAt}
use Rattle.closure.specs.Job.{is_full, End, opened, stopped, try, step_of, step}
use Rattle.closure.specs.Job.{Walk, walked, ended, unless_full, after, next_pass, walk, passes, from_closure, start, job_end, count_of, outcome_of}

-- A job that is computed under two ceilings, −v written `negsuc (v - 1)`. Of these clauses the trial of −1 succeeds at first; that of −2 fails;
-- and then, in a second pass, that of −1 fails. The third pass makes no trial. Under the ceiling 2 the job stops in the second.
delayed : List Clause
delayed = (pos 2 ∷ pos 3 ∷ []) ∷ (pos 2 ∷ negsuc 2 ∷ []) ∷ (pos 1 ∷ pos 4 ∷ negsuc 1 ∷ []) ∷ (pos 1 ∷ negsuc 3 ∷ negsuc 1 ∷ []) ∷ []

delayed_end : ℕ → End
delayed_end ceiling = passes delayed ceiling 729 (negsuc 0 ∷ negsuc 1 ∷ []) [] 0

jobs : (delayed_end 9 ≡ opened (1 ∷ 1 ∷ []) 3) × (delayed_end 2 ≡ stopped (0 ∷ 1 ∷ []) 2)
unfolding delayed_end delayed passes walk step unit_closure sweeps sweep remaining has mark put decided_in
jobs = (refl, refl)

-- what the rest of a walk is told
abbrev Rest : Type 0
Rest = List ℕ → ℕ → Bool → Walk

-- the count of a walk, or of the end that it comes to
abbrev counted : Walk → ℕ
counted (walked m n f) = n
counted (ended e) = count_of e

-- the count never falls
module _ (cs : List Clause) (d : ℕ) where
  module _ (m : List ℕ) (n : ℕ) (f : Bool) (k : Rest) (rest : (t : List ℕ) (j : ℕ) (b : Bool) → j ≤ counted (k t j b)) where
    -- after a failed trial, by the closure of its negation
    refute_counts : (a : Answer) → n + 1 ≤ counted (after (try clash (λ u. a)) m n f k)
    refute_counts clash = omega arith
    refute_counts (closed t) = go (is_full t)
      where
        go : (b : Bool) → n + 1 ≤ counted (unless_full b t (n + 1) k)
        go true = omega arith
        go false = rest t (n + 1) true

    -- a trial is counted
    try_counts : (a : Answer) (b : Unit {0} → Answer) → n + 1 ≤ counted (after (try a b) m n f k)
    try_counts (closed t) b = rest m (n + 1) f
    try_counts clash b = refute_counts (b tt)

    step_counts : (x y : Bool) (a : Answer) (b : Unit {0} → Answer) → n ≤ counted (after (step_of x y (λ u. try a b)) m n f k)
    step_counts true y a b = rest m n f
    step_counts false true a b = omega arith
    step_counts false false a b = omega (arith, try_counts a b)

  walk_counts : (o : List ℤ) (m : List ℕ) (n : ℕ) (f : Bool) → n ≤ counted (walk cs d o m n f)
  unfolding walk step
  walk_counts [] m n f = omega arith
  walk_counts (l ∷ ls) m n f =
      step_counts m n f (walk cs d ls) (walk_counts ls) (is_decided m l) (eqb n d) (unit_closure cs (mark m l)) (λ u. unit_closure cs (mark m (neg_ℤ l)))

  -- after a pass, or at its end
  next_counts : (w : Walk) (k : List ℕ → ℕ → End) → ((t : List ℕ) (j : ℕ) → j ≤ count_of (k t j)) → counted w ≤ count_of (next_pass w k)
  next_counts (walked t j true) k rest = rest t j
  next_counts (walked t j false) k rest = omega arith
  next_counts (ended e) k rest = omega arith

  passes_count : (k : ℕ) (o : List ℤ) (m : List ℕ) (n : ℕ) → n ≤ count_of (passes cs d k o m n)
  unfolding passes
  passes_count zero o m n = omega arith
  passes_count (suc k) o m n = omega (arith, walk_counts o m n false, next_counts (walk cs d o m n false) (passes cs d k o) (passes_count k o))

-- stopped with the count c
abbrev StopsAt : ℕ → End → Type 0
StopsAt c e = (outcome_of e ≡ 3) × (count_of e ≡ c)

-- the same end with at most c trials, or stopped there where the other makes more
abbrev Cut : ℕ → End → End → Type 0
Cut c e whole = ((e ≡ whole) × (count_of whole ≤ c)) ⊎ (StopsAt c e × (c < count_of whole))

-- the same of walks
abbrev Stopped : ℕ → Walk → Type 0
Stopped c (walked m n f) = ⊥
Stopped c (ended e) = StopsAt c e

abbrev CutWalk : ℕ → Walk → Walk → Type 0
CutWalk c w whole = ((w ≡ whole) × (counted whole ≤ c)) ⊎ (Stopped c w × (c < counted whole))

-- under the ceilings c and d
module _ (cs : List Clause) (c d : ℕ) (h : c ≤ d) where
  module _ (m : List ℕ) (n : ℕ) (f : Bool) (low : n ≤ c) (j k : Rest)
      (rest : (t : List ℕ) (i : ℕ) (b : Bool) → i ≤ c → CutWalk c (j t i b) (k t i b)) (counts : (t : List ℕ) (i : ℕ) (b : Bool) → i ≤ counted (k t i b)) where
    -- below both, the same is done
    try_cut : (n ≡ c → ⊥) → (a : Answer) (b : Unit {0} → Answer) → CutWalk c (after (try a b) m n f j) (after (try a b) m n f k)
    try_cut less (closed t) b = rest m (n + 1) f (omega (arith, less))
    try_cut less clash b = go (b tt)
      where
        full : (x : Bool) (t : List ℕ) → CutWalk c (unless_full x t (n + 1) j) (unless_full x t (n + 1) k)
        full true t = inl (refl, omega (arith, less))
        full false t = rest t (n + 1) true (omega (arith, less))

        go : (a : Answer) → CutWalk c (after (try clash (λ u. a)) m n f j) (after (try clash (λ u. a)) m n f k)
        go clash = inl (refl, omega (arith, less))
        go (closed t) = full (is_full t) t

    step_cut : (x y z : Bool) (a : Answer) (b : Unit {0} → Answer) → eqb n c ≡ y → eqb n d ≡ z
        → CutWalk c (after (step_of x y (λ u. try a b)) m n f j) (after (step_of x z (λ u. try a b)) m n f k)
    step_cut true y z a b p q = rest m n f low
    step_cut false true true a b p q = inl (refl, low)
    step_cut false true false a b p q =
        let e = eqb-true n c p in
        inr ((refl, e), omega (arith, e, try_counts cs d m n f k counts a b))
    step_cut false false true a b p q = absurd (let e = eqb-true n d q in eqb-false n c p (omega arith))
    step_cut false false false a b p q = try_cut (eqb-false n c p) a b

  walk_cut : (o : List ℤ) (m : List ℕ) (n : ℕ) (f : Bool) → n ≤ c → CutWalk c (walk cs c o m n f) (walk cs d o m n f)
  unfolding walk step
  walk_cut [] m n f low = inl (refl, low)
  walk_cut (l ∷ ls) m n f low =
      step_cut m n f low (walk cs c ls) (walk cs d ls) (walk_cut ls) (walk_counts cs d ls)
      (is_decided m l) (eqb n c) (eqb n d) (unit_closure cs (mark m l)) (λ u. unit_closure cs (mark m (neg_ℤ l))) refl refl

  passes_cut : (k : ℕ) (o : List ℤ) (m : List ℕ) (n : ℕ) → n ≤ c → Cut c (passes cs c k o m n) (passes cs d k o m n)
  unfolding passes
  passes_cut zero o m n low = inl (refl, low)
  passes_cut (suc k) o m n low = go (walk cs c o m n false) (walk cs d o m n false) (walk_cut o m n false low) (passes_cut k o)
    where
      same : (w : Walk) → counted w ≤ c → ((t : List ℕ) (i : ℕ) → i ≤ c → Cut c (passes cs c k o t i) (passes cs d k o t i))
          → Cut c (next_pass w (passes cs c k o)) (next_pass w (passes cs d k o))
      same (walked t i true) low rest = rest t i low
      same (walked t i false) low rest = inl (refl, low)
      same (ended e) low rest = inl (refl, low)

      less : (w v : Walk) → Stopped c w → c < counted v → Cut c (next_pass w (passes cs c k o)) (next_pass v (passes cs d k o))
      less (walked t i b) v s more = absurd s
      less (ended e) v s more = inr (s, omega (arith, more, next_counts cs d v (passes cs d k o) (passes_count cs d k o)))

      go : (w v : Walk) → CutWalk c w v → ((t : List ℕ) (i : ℕ) → i ≤ c → Cut c (passes cs c k o t i) (passes cs d k o t i))
          → Cut c (next_pass w (passes cs c k o)) (next_pass v (passes cs d k o))
      go w v (inl (e, low)) rest = rw e (same v low rest)
      go w v (inr (s, more)) rest = less w v s more

  -- a job under c is cut off at c, if it would make more trials under d
  pub job_cut : (trials : Bool) (o givens : List ℤ) → Cut c (job_end cs c trials o givens) (job_end cs d trials o givens)
  unfolding job_end
  job_cut trials o givens = go (bind (join blank givens) (unit_closure cs))
    where
      from : (full b : Bool) (m : List ℕ) → Cut c (from_closure cs c full b o m) (from_closure cs d full b o m)
      from true b m = inl (refl, omega arith)
      from false true m = passes_cut 729 o m 0 (omega arith)
      from false false m = inl (refl, omega arith)

      go : (a : Answer) → Cut c (start cs c trials o a) (start cs d trials o a)
      go clash = inl (refl, omega arith)
      go (closed m) = from (is_full m) trials m

-- no count passes the ceiling
pub count_below : (cs : List Clause) (c : ℕ) (trials : Bool) (o givens : List ℤ) → count_of (job_end cs c trials o givens) ≤ c
count_below cs c trials o givens = ⊎_elim (λ p. p.1) (λ p. omega (arith, p.0.1)) (job_cut cs c c (omega arith) trials o givens)

-- the second job is not stopped: the first is cut off at c
module _ (whole e : End) (unstopped : outcome_of whole ≡ 3 → ⊥) where
  pub cut_below : (c : ℕ) → Cut c e whole → CutAt c whole e
  cut_below c (inl (q, low)) = record {
    stopped = ((λ s. absurd (unstopped (ap outcome_of (sym q) ∙ s))), λ more. absurd (omega (arith, more, low)));
    count = λ s. absurd (unstopped (ap outcome_of (sym q) ∙ s));
    same = λ n. q;
  }
  cut_below c (inr (s, more)) = record { stopped = ((λ x. more), λ x. s.0); count = λ x. s.1; same = λ n. absurd (n s.0) }

  -- or is the same, where c is the higher ceiling
  pub cut_above : (c d : ℕ) → count_of whole ≤ c → Cut d whole e → CutAt c whole e
  cut_above c d low (inl (q, more)) = record {
    stopped = ((λ s. absurd (unstopped (ap outcome_of q ∙ s))), λ more. absurd (omega (arith, more, low)));
    count = λ s. absurd (unstopped (ap outcome_of q ∙ s));
    same = λ n. sym q;
  }
  cut_above c d low (inr (s, more)) = absurd (unstopped s.0)
