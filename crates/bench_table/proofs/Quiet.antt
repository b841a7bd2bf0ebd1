-- Trials from the blank state, where each literal is true in some model of the clauses. Then nothing follows from no givens, since each
-- literal is false in some model; no trial fails, since what follows from the literal is true with it; and so the state stays blank, each
-- literal of the order costs one trial, and the job is open at the end of its one pass or stops at the ceiling.
-- Assumes nothing.
use mathlib.Core.Path.{◌≡◌, refl, ap}
use mathlib.Core.Logic.{⊎_elim}
use mathlib.Core.Bool.{Bool, true, false, cond}
use mathlib.Core.List.{List, [], ◌∷◌, Memᴰ}
use Prim.Native.Nat.{ℕ, suc, ◌+◌, ◌≤◌}
use native.Mathlib.Nat.{zero-add}
use native.Mathlib.Decide.{ℕ_discrete}
use native.Mathlib.Omega.{arith}
use borrow.Author.Tests.{eq-eqb, ne_eqb, le-leb, lt-leb}
use lib.Dec.{T, leb}
use lib.IntN.{ℤ, pos, neg_ℤ}
use lib.ListN.{length}
use Rattle.grid.proofs.Table.{false_is}
use Rattle.clauses.specs.Literal.{Literal}
use Rattle.clauses.specs.Clauses.{Clause}
use Rattle.clauses.specs.Models.{Truth, holds, Satisfies}
use Rattle.clauses.proofs.Signed.{negation_literal}
use Rattle.closure.specs.Closure.{UnitClosed}
use Rattle.closure.specs.Marks.{has, is_decided, mark, decided_in, blank}
use Rattle.closure.specs.Propagation.{Answer, clash, closed, unit_closure, join, Closes}
use Rattle.closure.specs.Job.{opened, stopped, halt, kept, try, step, walked, ended, next_pass, walk, passes, job_end}
use Rattle.closure.proofs.Closure.{truth_single, model_rules, model_consistent}
use Rattle.closure.proofs.Marks.{has_blank, has_mark, or_iff, is_marks_blank, marks_ext}
use Rattle.closure.proofs.Clauses.{WellFormed}
use Rattle.closure.proofs.Propagation.{InMarks, unit_closure_ok, unit_closure_marks}

-- the literal is true in a model of the clauses
pub record Possible (cs : List Clause) (l : ℤ) : Type 0 where
  pub truth : Truth
  pub meets : (c : Clause) → Memᴰ c cs → Satisfies truth c
  pub holds : T (holds truth l)

undecided : (l : ℤ) → is_decided blank l ≡ false
undecided l = false_is (is_decided blank l) (λ t. ⊎_elim (has_blank l) (has_blank (neg_ℤ l)) ((or_iff (has blank l) (has blank (neg_ℤ l))).0 t))

module _ (cs : List Clause) (wf : WellFormed cs) (free : (l : ℤ) → Literal l → Possible cs l) where
  -- nothing follows from no givens
  blank_closed : unit_closure cs blank ≡ closed blank
  blank_closed = go (unit_closure cs blank) (unit_closure_ok cs wf blank) (unit_closure_marks cs wf blank is_marks_blank)
    where
      go : (a : Answer) → Closes (UnitClosed cs) (λ l. T (has blank l)) a → InMarks a → a ≡ closed blank
      go clash k i =
          let p = free (pos 1) (omega arith) in
          absurd (model_consistent p.truth cs p.meets false (λ l. T (has blank l)) (λ l t. absurd (has_blank l t)) k)
      go (closed m) k i =
          let none : (l : ℤ) → Literal l → T (has m l) → ⊥ = λ l v t.
          let p = free (neg_ℤ l) (negation_literal l v).0 in
          truth_single p.truth l (k.within l t (holds p.truth) (model_rules p.truth cs p.meets false) (λ x u. absurd (has_blank x u))) p.holds in
          ap closed (marks_ext m blank i is_marks_blank (λ l v. ((λ t. absurd (none l v t)), λ t. absurd (has_blank l t))))

  -- no trial fails
  trial_kept : (l : ℤ) → Literal l → (k : Unit {0} → Answer) → try (unit_closure cs (mark blank l)) k ≡ kept
  trial_kept l v k = go (unit_closure cs (mark blank l)) (unit_closure_ok cs wf (mark blank l))
    where
      p : Possible cs l
      p = free l v

      go : (a : Answer) → Closes (UnitClosed cs) (λ x. T (has (mark blank l) x)) a → try a k ≡ kept
      go (closed m) c = refl
      go clash c = absurd (model_consistent p.truth cs p.meets false (λ x. T (has (mark blank l) x)) (λ x t.
          ⊎_elim (λ z. absurd (has_blank x z)) (λ e. rw e p.holds) ((has_mark blank l v (has_blank (neg_ℤ l)) x).0 t)) c)

  module _ (ceiling : ℕ) where
    step_halts : (n : ℕ) (l : ℤ) → n ≡ ceiling → step cs ceiling blank n l ≡ halt
    unfolding step
    step_halts n l e = rw (undecided l, eq-eqb n ceiling e) refl

    step_kept : (n : ℕ) (l : ℤ) → Literal l → (n ≡ ceiling → ⊥) → step cs ceiling blank n l ≡ kept
    unfolding step
    step_kept n l v ne = rw (undecided l, ne_eqb n ceiling ne) (trial_kept l v (λ u. unit_closure cs (mark blank (neg_ℤ l))))

    -- a walk goes to its end, one trial a literal, where the ceiling allows as many
    walk_quiet : (ls : List ℤ) → ((l : ℤ) → Memᴰ l ls → Literal l) → (n : ℕ) (f : Bool) → n ≤ ceiling
        → walk cs ceiling ls blank n f ≡ cond (leb (n + length ls) ceiling) (walked blank (n + length ls) f) (ended (stopped blank ceiling))
    unfolding walk
    walk_quiet [] lits n f h = rw (le-leb (n + 0) ceiling (omega arith)) (ap (λ i. walked blank i f) (omega arith))
    walk_quiet (l ∷ ls) lits n f h = go (ℕ_discrete n ceiling) (walk_quiet ls (λ k i. lits k (Memᴰ.tail i)) (n + 1) f)
      where
        total : n + 1 + length ls ≡ n + suc (length ls)
        total = omega arith

        Ends : (i : ℕ) → Type 0
        Ends i = walk cs ceiling (l ∷ ls) blank n f ≡ cond (leb i ceiling) (walked blank i f) (ended (stopped blank ceiling))

        go : Dec (n ≡ ceiling) → (n + 1 ≤ ceiling
            → walk cs ceiling ls blank (n + 1) f
            ≡ cond (leb (n + 1 + length ls) ceiling) (walked blank (n + 1 + length ls) f) (ended (stopped blank ceiling))) → Ends (n + suc (length ls))
        go (yes e) r = rw (step_halts n l e, lt-leb (n + suc (length ls)) ceiling (omega arith)) (ap (λ i. ended (stopped blank i)) e)
        go (no ne) r = rw (step_kept n l (lits l (Memᴰ.head refl)) ne, ← total) (r (omega arith))

    module _ (order : List ℤ) (lits : (l : ℤ) → Memᴰ l order → Literal l) where
      -- the first pass is the last
      pass_quiet : (k : ℕ) → passes cs ceiling (suc k) order blank 0 ≡ cond (leb (length order) ceiling) (opened blank (length order)) (stopped blank ceiling)
      unfolding passes
      pass_quiet k = rw (walk_quiet order lits 0 false (omega arith), zero-add (length order)) (ends (leb (length order) ceiling))
        where
          ends : (b : Bool) → next_pass (cond b (walked blank (length order) false) (ended (stopped blank ceiling))) (passes cs ceiling k order)
              ≡ cond b (opened blank (length order)) (stopped blank ceiling)
          ends true = refl
          ends false = refl

      -- the job of no givens, with trials along these literals
      pub quiet_job : job_end cs ceiling true order [] ≡ cond (leb (length order) ceiling) (opened blank (length order)) (stopped blank ceiling)
      unfolding job_end join decided_in
      quiet_job = rw blank_closed (pass_quiet 728)
