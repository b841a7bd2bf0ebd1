-- The techniques before the one that is next are tried, and the trials made are within the ceiling.
use mathlib.Core.Path.{◌≡◌, refl, ap, sym, ◌∙◌}
use mathlib.Core.Logic.{inl, inr}
use mathlib.Core.Bool.{false}
use mathlib.Core.List.{List}
use Prim.Native.Nat.{ℕ, ◌+◌, ◌≤◌, ◌<◌}
use native.Mathlib.Omega.{arith}
use native.Mathlib.Numerals.{add-one}
use lib.IntN.{ℤ}
use lib.ListN.{length, get_or, drop, drop_of_length-le}
use lib.Seq.{drop-cons}
use Rattle.clauses.specs.declared.ClauseSet.TheVariants.{Minimal}
use Rattle.closure.specs.Job as job
use Rattle.orders.specs.declared.technique.Technique.{Technique}
use Rattle.trials.specs.Steps.{end_of, ended_at}
use Rattle.trials.specs.declared.trial.End.{End}
use Rattle.closure.specs.declared.Outcome.{Outcome}
use Rattle.closure.specs.declared.Outcome.TheVariants.{Solved, Open, Stopped, Contradiction}
use Rattle.grading.specs.Grade.{after_job, rate_from}
use Rattle.grading.proofs.Grading.{job_at, rate_next, rate_none, count_left}
use Rattle.grading.proofs.climb.Goals as goal

-- the i-th technique of a list
abbrev at : List Technique → ℕ → Technique
at ts i = get_or ts i (record { set = Minimal; trials = false })

-- its job, which ended as e says after n trials of those before it
module _ (grid : List ℕ) (order : List ℤ) (ceiling : ℕ) (ts : List Technique) (i n : ℕ) (e : End) (marks : List ℕ)
    (h : i < length ts) (ran : end_of e marks ≡ job_at grid order ceiling (at ts i) n) (made : n ≤ ceiling)
    (so : rate_from grid order ceiling (drop i ts) n ≡ rate_from grid order ceiling ts 0) where
  count : (o : Outcome) (k : ℕ) → job.count_of (ended_at o marks k) ≡ k
  count Solved k = refl
  count Open k = refl
  count Stopped k = refl
  count Contradiction k = refl

  within : n + e.count ≤ ceiling
  within = omega (arith, count_left grid order ceiling (at ts i) n (end_of e marks) ran, made, count e.outcome e.count)

  went : (o : Outcome) → e.outcome ≡ o
      → after_job (ended_at o marks e.count) (at ts i) n (rate_from grid order ceiling (drop (i + 1) ts)) ≡ rate_from grid order ceiling ts 0
  went o q =
      rate_next grid order ceiling (drop i ts) (drop (i + 1) ts) (at ts i) n (ended_at o marks e.count) (rw add-one (drop-cons ts i _ h))
      (ap (λ x. ended_at x marks e.count) (sym q) ∙ ran)
      ∙ so

pub overflow_add-trials : goal.overflow_add-trials
overflow_add-trials c =
    let a = c.args in
    let l = c.loop-technique in
    let e = c.run_with-ended in
    omega (arith, c.ranges.ceiling, within a.grid.now a.order.now.entries.now a.ceiling c.ladder-techniques.result l.technique-index l.trials e.result.end e.result.marks (omega (arith, ap length c.ladder-techniques.ensures)) e.ensures l.invariant.0 l.invariant.1)

pub returns-in-Solved : goal.returns-in-Solved
returns-in-Solved c =
    let a = c.args in
    let l = c.loop-technique in
    let e = c.run_with-ended in
    went a.grid.now a.order.now.entries.now a.ceiling c.ladder-techniques.result l.technique-index l.trials e.result.end e.result.marks (omega (arith, ap length c.ladder-techniques.ensures)) e.ensures l.invariant.0 l.invariant.1 Solved c.in-Solved.is
    ∙ ap (λ ts. rate_from a.grid.now a.order.now.entries.now a.ceiling ts 0) c.ladder-techniques.ensures

pub returns-in-Stopped : goal.returns-in-Stopped
returns-in-Stopped c =
    let a = c.args in
    let l = c.loop-technique in
    let e = c.run_with-ended in
    went a.grid.now a.order.now.entries.now a.ceiling c.ladder-techniques.result l.technique-index l.trials e.result.end e.result.marks (omega (arith, ap length c.ladder-techniques.ensures)) e.ensures l.invariant.0 l.invariant.1 Stopped c.in-Stopped.is
    ∙ ap (λ ts. rate_from a.grid.now a.order.now.entries.now a.ceiling ts 0) c.ladder-techniques.ensures

pub loop-technique-preserved : goal.loop-technique-preserved
loop-technique-preserved c =
    let a = c.args in
    let l = c.loop-technique in
    let e = c.run_with-ended in
    let h : l.technique-index < length c.ladder-techniques.result = omega (arith, ap length c.ladder-techniques.ensures) in (
      within a.grid.now a.order.now.entries.now a.ceiling c.ladder-techniques.result l.technique-index l.trials e.result.end e.result.marks h e.ensures l.invariant.0 l.invariant.1,
      elim c.in-Open.is [
        | inl q ↦ went a.grid.now a.order.now.entries.now a.ceiling c.ladder-techniques.result l.technique-index l.trials e.result.end e.result.marks h e.ensures l.invariant.0 l.invariant.1 Open q
        | inr q ↦ went a.grid.now a.order.now.entries.now a.ceiling c.ladder-techniques.result l.technique-index l.trials e.result.end e.result.marks h e.ensures l.invariant.0 l.invariant.1 Contradiction q
      ],
    )

pub returns : goal.returns
returns c =
    let a = c.args in
    let l = c.loop-technique in
    rate_none a.grid.now a.order.now.entries.now a.ceiling (drop l.technique-index c.ladder-techniques.result) l.trials (drop_of_length-le c.ladder-techniques.result (omega (arith, ap length c.ladder-techniques.ensures))) ∙ l.invariant.1
    ∙ ap (λ ts. rate_from a.grid.now a.order.now.entries.now a.ceiling ts 0) c.ladder-techniques.ensures
