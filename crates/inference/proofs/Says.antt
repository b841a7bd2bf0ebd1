-- What a job says. An accepted order has every literal and the givens are literals, so that the job ends with its closure, or within it where it is
-- stopped. Solved marks are a model of the clauses and the givens, and the only one; and the models are precisely the legal completions, so that they are
-- the only completion. Where the closure is a contradiction there is no model.
-- Assumes nothing.
use mathlib.Core.Path.{◌≡◌, refl, sym, ap, ◌∙◌}
use mathlib.Core.Logic.{◌↔◌}
use mathlib.Core.Bool.{Bool, true, false, cond}
use mathlib.Core.List.{List}
use Prim.Native.Nat.{ℕ, suc, ◌+◌, ◌*◌, ◌-◌, ◌≤◌, ◌<◌}
use native.Mathlib.Omega.{arith}
use borrow.Author.Tests.{eq-eqb, eqb-true}
use lib.IntN.{ℤ, pos}
use lib.Seq.{ext_get_or}
use Rattle.std.specs.Prelude.{Ok}
use Rattle.grid.specs.Grid.{byte}
use Rattle.grid.specs.Completion.{Legal}
use Rattle.grid.proofs.Completion.{digit_iff}
use Rattle.clauses.specs.Clauses.{Clause, clauses_of}
use Rattle.clauses.specs.Models.{givens, Model, truth_of, completion_of}
use Rattle.clauses.proofs.Members.{given_literal}
use Rattle.clauses.proofs.ModelsAreCompletions.{truth_at, models_are_completions}
use Rattle.closure.specs.Sets.{LiteralSet, Holds}
use Rattle.closure.specs.Marks.{has, decided, blank, IsMarks}
use Rattle.closure.specs.Propagation.{Answer, clash, closed, bind, join, unit_closure}
use Rattle.closure.specs.Job.{is_full, End, solved, opened, stopped, contradiction, from_closure, start, job_end, EndOk, most_trials, count_of, marks_of, outcome_of}
use Rattle.closure.specs.Laws.{HasEachOnce, JobOk, CutAt}
use Rattle.closure.proofs.ClauseSets.{well_formed}
use Rattle.closure.proofs.Ceiling.{count_below}
use Rattle.closure.proofs.Compare.{end_within, end_contradiction, end_closure}
use Rattle.closure.proofs.Laws.{ends, cut}
use Rattle.closure.proofs.Order.{order_covers}
use Rattle.closure.proofs.Solved.{truth_in, solved_only, solved_clauses, solved_givens, contradiction_none}
use Rattle.orders.specs.Order.{order_check}
use Rattle.orders.specs.declared.technique.Technique.{Technique}
use Rattle.orders.proofs.Orders.{accepted_order, accepted_literal}
use Rattle.inference.specs.Call.{job_end_of}
use Rattle.inference.specs.Job.{RulesOf, IsGiven, AllDecided, SaysMarks, SaysClosure, MarksOnly, SaysCompletions, SaysTrials, JobSays, Tells}
use Rattle.inference.proofs.MarkBytes.{full_iff, full_mark, each_low}

module _ (o : List ℤ) (e : order_check o ≡ Ok tt) where
  -- an order that is accepted has each literal once
  accepted_each : HasEachOnce o
  accepted_each =
      let a = accepted_order o e in
      record { each = order_covers o a.long (accepted_literal o e) a.once; once = a.once }

  module _ (t : Technique) (g : List ℕ) (c : ℕ) where
    -- a job ends as it should: where its givens leave at most u variables undecided, it makes at most u (u + 1) trials
    pub end_ok : (u : ℕ) → u ≤ 729 → ((m : List ℕ) → Holds (IsGiven g) (has m) → 729 ≤ u + decided m)
        → JobOk (RulesOf t) (IsGiven g) c (u * suc u) (job_end_of t o g c)
    end_ok = ends t.set t.trials c o (givens g) accepted_each (given_literal g)

    pub any_ok : JobOk (RulesOf t) (IsGiven g) c (729 * 730) (job_end_of t o g c)
    any_ok = end_ok 729 (omega arith) (λ m h. omega arith)

    pub end_cut : CutAt c (job_end_of t o g most_trials) (job_end_of t o g c)
    end_cut = cut t.set t.trials c o (givens g) accepted_each (given_literal g)

-- an end is a solved one exactly where its marks decide all
solved_iff : (R : LiteralSet → Type 0) (G : ℤ → Type 0) (e : End) → EndOk R G e → IsMarks (marks_of e) → (outcome_of e ≡ 1) ↔ AllDecided (marks_of e)
solved_iff R G (solved m n) k i = ((λ q. (full_iff m i).0 k.1), λ f. refl)
solved_iff R G (opened m n) k i = ((λ q. absurd (omega arith)), λ f. absurd (omega (arith, k.1, (full_iff m i).1 f)))
solved_iff R G (stopped m n) k i = ((λ q. absurd (omega arith)), λ f. absurd (omega (arith, k.1, (full_iff m i).1 f)))
solved_iff R G (contradiction n) k i = ((λ q. absurd (omega arith)), λ f. absurd (f 0 (omega arith) refl))

-- a contradiction leaves no mark
none_marked : (e : End) → outcome_of e ≡ 4 → marks_of e ≡ blank
none_marked (solved m n) q = absurd (omega arith)
none_marked (opened m n) q = absurd (omega arith)
none_marked (stopped m n) q = absurd (omega arith)
none_marked (contradiction n) q = refl

-- completions of which the same variables are true are the same
same_truth : {g h : List ℕ} (b d : List ℕ) → Legal g b → Legal h d → ((p : ℕ) → p < 729 → truth_of b (suc p) ≡ truth_of d (suc p)) → b ≡ d
same_truth b d k l same = ext_get_or 0 b d (k.long ∙ sym l.long) (λ c h.
    let i : c < 81 = omega (arith, k.long) in
    let j = (digit_iff (byte b c)).0 (k.digits c i) in
    let z = byte b c - 49 in
    let q = sym (truth_at d c z (omega arith)) ∙ sym (same (9 * c + z) (omega arith)) ∙ truth_at b c z (omega arith) in
    let here = eq-eqb (byte b c) (49 + z) (omega arith) in
    omega (arith, eqb-true (byte d c) (49 + z) (q ∙ here)))

module _ (t : Technique) (g : List ℕ) where
  -- an end of outcome 1 is a solved one
  solved_end : (e : End) → outcome_of e ≡ 1 → EndOk (RulesOf t) (IsGiven g) e → EndOk (RulesOf t) (IsGiven g) (solved (marks_of e) (count_of e))
  solved_end (solved m n) q k = k
  solved_end (opened m n) q k = absurd (omega arith)
  solved_end (stopped m n) q k = absurd (omega arith)
  solved_end (contradiction n) q k = absurd (omega arith)

  -- solved marks are the only legal completion
  solved_marks : (m : List ℕ) (n : ℕ) → EndOk (RulesOf t) (IsGiven g) (solved m n) → MarksOnly g m
  solved_marks m n k =
      let cs = clauses_of t.set in
      let same = models_are_completions t.set g in
      let model : Model t.set g (truth_in m) = record {
        clauses = solved_clauses cs t.trials (IsGiven g) m n k (well_formed t.set);
        keeps = solved_givens cs t.trials (IsGiven g) m n k;
      } in
      let truth : (p : ℕ) → p < 729 → has m (pos (suc p)) ≡ truth_of (completion_of (truth_in m)) (suc p) =
      λ p h. sym (same.same_truth (truth_in m) model (suc p) (omega arith) (omega arith)) in
      let b = completion_of (truth_in m) in
      let legal : Legal g b = same.completions (truth_in m) model in
      record {
        completion = b;
        legal = legal;
        marked = λ p h. full_mark m k.1 p h ∙ ap (λ x. cond x 1 2) (truth p h);
        only = λ d l. (
            let other = same.models d l in
            let agrees = solved_only cs t.trials (IsGiven g) m n k (truth_of d) other.clauses other.keeps in
            same_truth d b l legal (λ p h. agrees (pos (suc p)) h ∙ truth p h));
      }

-- without trials a job ends after the unit closure of its givens
unit_start : (cs : List Clause) (c : ℕ) (o : List ℤ) (a : Answer) → (count_of (start cs c false o a) ≡ 0) × (outcome_of (start cs c false o a) ≡ 3 → ⊥)
unit_start cs c o clash = (refl, λ q. omega arith)
unit_start cs c o (closed m) = go (is_full m)
  where
    go : (b : Bool) → (count_of (from_closure cs c b false o m) ≡ 0) × (outcome_of (from_closure cs c b false o m) ≡ 3 → ⊥)
    go true = (refl, λ q. omega arith)
    go false = (refl, λ q. omega arith)

pub unit_end : (cs : List Clause) (c : ℕ) (o ls : List ℤ) → (count_of (job_end cs c false o ls) ≡ 0) × (outcome_of (job_end cs c false o ls) ≡ 3 → ⊥)
unfolding job_end
unit_end cs c o ls = unit_start cs c o (bind (join blank ls) (unit_closure cs))

-- a job says all this
module _ (t : Technique) (g : List ℕ) (o : List ℤ) (c : ℕ) (accepted : order_check o ≡ Ok tt) where
  abbrev e : End
  e = job_end_of t o g c

  abbrev ok : JobOk (RulesOf t) (IsGiven g) c (729 * 730) e
  ok = any_ok o accepted t g c

  pub says_marks : SaysMarks (outcome_of e) (marks_of e)
  says_marks = record {
    long = ok.marks.long;
    each = λ p h. each_low (marks_of e) ok.marks p;
    all = solved_iff (RulesOf t) (IsGiven g) e ok.end ok.marks;
    none = none_marked e;
  }

  pub says_closure : SaysClosure t g (outcome_of e) (marks_of e)
  says_closure = record {
    clash = end_contradiction (RulesOf t) (IsGiven g) e ok.end;
    marked = end_closure (RulesOf t) (IsGiven g) e ok.end;
    within = end_within (RulesOf t) (IsGiven g) e ok.end;
  }

  pub says_completions : SaysCompletions g (outcome_of e) (marks_of e)
  says_completions = record {
    one = λ q. solved_marks t g (marks_of e) (count_of e) (solved_end t g e q ok.end);
    none = λ q b l. (
        let m = (models_are_completions t.set g).models b l in
        contradiction_none (clauses_of t.set) t.trials (IsGiven g) 0 ((says_closure.clash (λ s. omega (arith, q, s))).0 q) (truth_of b) m.clauses m.keeps);
  }

  pub says_trials : SaysTrials t o g c (outcome_of e) (count_of e)
  says_trials =
      let k = end_cut o accepted t g c in
      record {
        within = count_below (clauses_of t.set) c t.trials o (givens g);
        most = omega (arith, ok.count);
        stopped = k.stopped;
        reached = k.count;
        made = λ n. ap count_of (k.same n);
        unit = λ q. rw q (unit_end (clauses_of t.set) c o (givens g));
      }

  pub says : JobSays t g o c (outcome_of e) (count_of e) (marks_of e)
  says = record { marks = says_marks; closure = says_closure; completions = says_completions; trials = says_trials }

  -- and so do the numbers and marks by which its end is told
  pub tells_says : (a n : ℕ) (m : List ℕ) → Tells e a n m → JobSays t g o c a n m
  tells_says a n m k = rw (← k.outcome_is, ← k.count_is, ← k.marks_are) says
