-- The laws of closures and jobs, of both clause sets: no clause of a set has a literal twice.
-- Assumes nothing.
use mathlib.Core.Path.{◌≡◌}
use mathlib.Core.Bool.{Bool}
use mathlib.Core.List.{List}
use Prim.Native.Nat.{ℕ, ◌*◌}
use native.Mathlib.Decide.{dec_lt}
use native.Mathlib.Omega.{arith}
use lib.IntN.{ℤ}
use Rattle.clauses.specs.Clauses.{clauses_of}
use Rattle.clauses.specs.declared.ClauseSet.{ClauseSet}
use Rattle.closure.specs.Closure.{Rules}
use Rattle.closure.specs.Job.{End, job_end, most_trials, outcome_of}
use Rattle.closure.specs.Laws.{Among, AreLiterals, HasEachOnce, UnitClosures, JobOk, JobEnds, Ceilings}
use Rattle.closure.proofs.ClauseSets.{well_formed}
use Rattle.closure.proofs.Propagation.{givens_closed}
use Rattle.closure.proofs.Job.{job_ok}
use Rattle.closure.proofs.Ceiling.{job_cut, cut_below, cut_above}

pub closes : UnitClosures
closes set givens literals = (givens_closed (clauses_of set) (well_formed set) givens literals).0

pub ends : JobEnds
ends set trials ceiling order givens has literals u most left =
    job_ok (clauses_of set) (well_formed set) ceiling trials order has.each has.once givens literals u most left

-- from any givens
any_ends : (set : ClauseSet) (trials : Bool) (ceiling : ℕ) (order givens : List ℤ) → HasEachOnce order → AreLiterals givens
    → JobOk (Rules (clauses_of set) trials) (Among givens) ceiling (729 * 730) (job_end (clauses_of set) ceiling trials order givens)
any_ends set trials ceiling order givens has literals = ends set trials ceiling order givens has literals 729 (omega arith) (λ m h. omega arith)

pub cut : Ceilings
cut set trials ceiling order givens has literals =
    let cs = clauses_of set in
    let end : ℕ → End = λ c. job_end cs c trials order givens in
    let whole = any_ends set trials most_trials order givens has literals in
    let unstopped : outcome_of (end most_trials) ≡ 3 → ⊥ = whole.whole (omega arith) in
    elim (dec_lt most_trials ceiling) [
      | yes high ↦ cut_above (end most_trials) (end ceiling) unstopped ceiling most_trials (omega (arith, whole.count, high)) (job_cut cs most_trials ceiling (omega (arith, high)) trials order givens)
      | no low ↦ cut_below (end most_trials) (end ceiling) unstopped ceiling (job_cut cs ceiling most_trials (omega (arith, low)) trials order givens)
    ]
