-- What is left of the order is walked from where the job has come to.
use mathlib.Core.Path.{◌≡◌, ap, sym, subst, ◌∙◌}
use mathlib.Core.Bool.{Bool, false, or_comm}
use Prim.Native.Nat.{ℕ, ◌+◌, ◌<◌}
use native.Mathlib.Omega.{arith}
use lib.IntN.{ℤ, pos}
use lib.ListN.{length, get_or}
use Rattle.std.specs.Prelude.{Result, Ok, Err, IsErrAnd}
use Rattle.clauses.specs.Clauses.{clauses_of}
use Rattle.clauses.specs.Literal.{Literal}
use Rattle.clauses.proofs.Signed.{read}
use Rattle.closure.specs.Job.{Walk, after, step, walk, walked, ended}
use Rattle.trials.specs.Steps.{Stepped, Walked, ended_at, or_failed, walk_of}
use Rattle.trials.specs.declared.trial.Job.{Job}
use Rattle.closure.specs.declared.Outcome.{Outcome}
use Rattle.trials.specs.declared.trial.Progress.{Progress}
use Rattle.orders.proofs.Orders.{no_other_literals}
use Rattle.trials.proofs.Walking.{onward, rest, rest_next, rest_end}
use Rattle.trials.proofs.trial.Job.walk.Goals as goal

-- the walk along what is left of the order from place i on
abbrev rest_of : Job → ℕ → Progress → Bool → Walk
rest_of j i p f = rest (clauses_of j.set) j.ceiling j.order.entries.now i p.state.marks p.count f

-- one literal, where the call reads l
rest_stepped : (j : Job) (i : ℕ) (p q : Progress) {l : ℤ} {r : Result Bool Outcome} → i < length j.order.entries.now → l ≡ get_or j.order.entries.now i (pos 0) → Stepped j p l q r → (f : Bool)
    → rest_of j i p f ≡ onward (walk_of (or_failed f r) q) (rest (clauses_of j.set) j.ceiling j.order.entries.now (i + 1))
rest_stepped j i p q {r = r} h e t f =
    rest_next (clauses_of j.set) j.ceiling j.order.entries.now i p.state.marks p.count f h (walk_of (or_failed f r) q)
    (t.step f ∙ ap (λ x. after (step (clauses_of j.set) j.ceiling p.state.marks p.count x) p.state.marks p.count f (λ m n g. walked m n g)) e)

-- an error ends the job
walked_err : (j : Job) (p q : Progress) (o : Outcome) → ended (ended_at o q.state.marks q.count) ≡ walk (clauses_of j.set) j.ceiling j.order.entries.now p.state.marks p.count false
    → (r : Result Bool Outcome) → IsErrAnd r (λ x. x ≡ o) → Walked j p q r
walked_err j p q o e (Ok f) x = absurd x
walked_err j p q o e (Err y) x = record { walk = ap (λ z. ended (ended_at z q.state.marks q.count)) x ∙ e; walking = tt }

pub next-requires : goal.next-requires
next-requires c =
    let l = c.loop-literal in
    (l.invariant.0, subst Literal (sym (read (get_or c.args.self.now.order.entries.now l.literal-index (pos 0)) (record { sfits = omega arith }))) (no_other_literals c.args.self.now.order.entries.now (omega (arith, c.args.self.now.order.literals)) l.literal-index c.loop-literal-test.true))

pub returns-in_err-failed : goal.returns-in_err-failed
returns-in_err-failed c =
    let j = c.args.self.now in
    let l = c.loop-literal in
    let q = c.next.new.progress in
    let e = read (get_or j.order.entries.now l.literal-index (pos 0)) (record { sfits = omega arith }) in
    walked_err j c.args.progress.now q c.in_err-failed.field-0.0 (sym (rest_stepped j l.literal-index l.progress q c.loop-literal-test.true e c.in_err-failed.ensures l.failed) ∙ l.invariant.1)
    c.from_residual.result c.from_residual.ensures.1

pub loop-literal-preserved : goal.loop-literal-preserved
loop-literal-preserved c =
    let j = c.args.self.now in
    let l = c.loop-literal in
    let q = c.next.new.progress in
    let e = read (get_or j.order.entries.now l.literal-index (pos 0)) (record { sfits = omega arith }) in (
      c.in_ok-failed.ensures.walking,
      ap (rest_of j (l.literal-index + 1) q) (or_comm l.failed c.in_ok-failed.field-0)
          ∙ sym (rest_stepped j l.literal-index l.progress q c.loop-literal-test.true e c.in_ok-failed.ensures l.failed) ∙ l.invariant.1,
    )

pub returns : goal.returns
returns c =
    let j = c.args.self.now in
    let l = c.loop-literal in
    record { walk = rest_end (clauses_of j.set) j.ceiling j.order.entries.now l.literal-index l.progress.state.marks l.progress.count l.failed c.loop-literal-test.false ∙ l.invariant.1; walking = l.invariant.0 }
