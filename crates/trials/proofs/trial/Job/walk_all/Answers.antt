-- What is left of the passes goes on from where the job has come to.
use mathlib.Core.Path.{◌≡◌, ap, sym, ◌∙◌}
use Prim.Native.Nat.{ℕ, ◌+◌, ◌-◌, ◌<◌}
use native.Mathlib.Omega.{arith}
use Rattle.clauses.specs.Clauses.{clauses_of}
use Rattle.closure.specs.Job.{End, passes, next_pass}
use Rattle.trials.specs.Steps.{Walked, walk_of}
use Rattle.trials.specs.declared.trial.Job.{Job}
use Rattle.trials.specs.declared.trial.Progress.{Progress}
use Rattle.trials.proofs.Walking.{passes_next, passes_end}
use Rattle.trials.proofs.trial.Job.walk_all.Goals as goal

-- the passes that are left after i of them
abbrev left : Job → ℕ → Progress → End
left j i p = passes (clauses_of j.set) j.ceiling (729 - i) j.order.entries.now p.state.marks p.count

-- one pass
left_next : (j : Job) (i : ℕ) (p q : Progress) {r : _} → i < 729 → Walked j p q r → left j i p ≡ next_pass (walk_of r q) (passes (clauses_of j.set) j.ceiling (729 - (i + 1)) j.order.entries.now)
left_next j i p q {r} h w = passes_next (clauses_of j.set) j.ceiling j.order.entries.now (729 - i) (729 - (i + 1)) p.state.marks p.count (walk_of r q) (omega arith) w.walk

pub returns-in-Ok-false : goal.returns-in-Ok-false
returns-in-Ok-false c =
    let l = c.loop in
    sym (left_next c.args.self.now l.counter l.progress c.walk.new.progress c.loop-test.true (rw c.in-Ok-false.field-0-test at c.in-Ok-false.ensures)) ∙ l.invariant.1

pub returns-in-Err : goal.returns-in-Err
returns-in-Err c =
    let l = c.loop in
    sym (left_next c.args.self.now l.counter l.progress c.walk.new.progress c.loop-test.true c.in-Err.ensures) ∙ l.invariant.1

pub loop-preserved : goal.loop-preserved
loop-preserved c =
    let l = c.loop in
    let w = rw c.in-Ok-true.field-0-test at c.in-Ok-true.ensures in
    (w.walking, sym (left_next c.args.self.now l.counter l.progress c.walk.new.progress c.loop-test.true w) ∙ l.invariant.1)

pub returns : goal.returns
returns c =
    let j = c.args.self.now in
    let p = c.loop.progress in
    let z : 0 ≡ 729 - c.loop.counter = omega (arith, c.loop-test.false) in
    passes_end (clauses_of j.set) j.ceiling j.order.entries.now p.state.marks p.count ∙ ap (λ x. passes (clauses_of j.set) j.ceiling x j.order.entries.now p.state.marks p.count) z ∙ c.loop.invariant.1
