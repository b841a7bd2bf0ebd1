-- The closure with the literal, and where it is a contradiction the one with its negation.
use mathlib.Core.Path.{◌≡◌, refl, ap, sym, subst, ◌∙◌}
use mathlib.Core.Bool.{Bool, true, false}
use lib.Dec.{T}
use lib.IntN.{ℤ, neg_ℤ}
use mir.Syntax.{w16}
use mir.Val.{to_z, of_z}
use Rattle.std.specs.Prelude.{Result, Ok, Err, IsErr}
use Rattle.clauses.specs.Clauses.{clauses_of}
use Rattle.clauses.specs.Literal.{Literal, negation}
use Rattle.clauses.proofs.Signed.{read, returned, negation_literal}
use Rattle.closure.specs.Closure.{With}
use Rattle.closure.specs.Marks.{has, is_decided, mark}
use Rattle.closure.specs.Propagation.{Answer, unit_closure}
use Rattle.closure.specs.Job.{broken, try}
use Rattle.worklist.specs.declared.acting.State.{State}
use Rattle.propagation.specs.Steps.{ComesTo, answer_of}
use Rattle.worklist.specs.declared.acting.Clash.{Clash}
use Rattle.propagation.proofs.Closing.{closes_computed}
use Rattle.trials.specs.Steps.{Tried}
use Rattle.trials.specs.declared.trial.Job.{Job}
use Rattle.trials.specs.declared.trial.Progress.{Progress}
use Rattle.trials.proofs.Knowing.{known_noted, possible_known, possible_joined}
use Rattle.trials.proofs.Trying.{try_failed, negation_is, open_negation}
use Rattle.trials.proofs.trial.Job.attempt.Goals as goal
use Rattle.trials.proofs.trial.Job.attempt.Goals.{Start, After-negated}

-- the closure of the marks with literal k, which the call reads as k'
abbrev Closes : Start → ℤ → Result State Clash → Type 0
Closes c k r = ComesTo c.args.self.now.set (With (has c.args.progress.now.state.marks) k) r

closes : (c : Start) (k : ℤ) {k' : ℤ} → k' ≡ k → (r : Result State Clash) → Closes c k' r → Closes c k r
closes c k e r v = subst (λ x. Closes c x r) e v

-- the computed closure
abbrev closure : Start → ℤ → Answer
closure c k = unit_closure (clauses_of c.args.self.now.set) (mark c.args.progress.now.state.marks k)

tried : (c : Start) {r : Result State Clash} → Closes c c.args.literal r → answer_of r ≡ closure c c.args.literal
tried c v = let r = c.requires in closes_computed c.args.self.now.set c.args.progress.now.state.marks c.args.literal r.0.state.marks.marks r.1 r.2 v

joined : (c : Start) {r : Result State Clash} → Closes c (neg_ℤ c.args.literal) r → answer_of r ≡ closure c (neg_ℤ c.args.literal)
joined c v =
    let l = c.args.literal in
    let m = c.args.progress.now.state.marks in
    let r = c.requires in
    closes_computed c.args.self.now.set m (neg_ℤ l) r.0.state.marks.marks (negation_literal l r.1).0 (open_negation m l r.2) v

-- the negation as the code has it
negated : (c : After-negated) → to_z w16 (of_z w16 c.negated.result) ≡ neg_ℤ c.args.literal
negated c =
    let l = c.args.literal in
    returned c.negated.result c.negated.type_inv ∙ c.negated.ensures ∙ ap negation (read l c.ranges.literal) ∙ negation_is l c.requires.1

-- an error is a trial in which both literals fail
tried_err : (j : Job) (p q : Progress) (l : ℤ) (r : Result Bool Clash) → IsErr r
    → broken ≡ try (unit_closure (clauses_of j.set) (mark p.state.marks l)) (λ u. unit_closure (clauses_of j.set) (mark p.state.marks (neg_ℤ l))) → q.count ≡ p.count → Tried j p l q r
tried_err j p q l (Ok f) e s n = absurd (let z : ◌≡◌ {A = Bool} false true = e in cc)
tried_err j p q l (Err x) e s n = record { step = s; marks = λ e. absurd (let z : ◌≡◌ {A = Result Bool Clash} (Err x) (Ok false) = e in cc); count = n; walking = tt }

pub close_with-requires-in-Err : goal.close_with-requires-in-Err
close_with-requires-in-Err c =
    let l = c.args.literal in
    let m = c.args.progress.now.state.marks in
    let r = c.requires in
    let n = sym (negated c) in
    (r.0.state, subst Literal n (negation_literal l r.1).0, subst (λ x. T (is_decided m x) → ⊥) n (open_negation m l r.2))

pub returns-in_err-close_with-in-Err : goal.returns-in_err-close_with-in-Err
returns-in_err-close_with-in-Err c =
    let at = goal.at.returns-in_err-close_with-in-Err c in
    let l = c.args.literal in
    let v = closes at.Start l (read l c.ranges.literal) _ c.in-Err.ensures in
    let w = closes at.Start (neg_ℤ l) (negated at.After-negated) _ c.in_err-close_with-in-Err.ensures in
    tried_err c.args.self.now c.args.progress.now _ l c.from_residual.result c.from_residual.ensures.0 (try_failed (tried at.Start v) _ (joined at.Start w)) refl

pub returns-in-Ok : goal.returns-in-Ok
returns-in-Ok c =
    let start = (goal.at.returns-in-Ok c).Start in
    let s = c.args.self.now.set in
    let m = c.args.progress.now.state.marks in
    let l = c.args.literal in
    let r = c.requires in
    let v = closes start l (read l c.ranges.literal) _ c.in-Ok.ensures in
    record {
      step = ap (λ x. try x (λ u. closure start (neg_ℤ l))) (tried start v);
      marks = λ e. refl;
      count = refl;
      walking = record {
        state = r.0.state;
        known = known_noted s m c.close_with.new.state.marks l r.0.known v.state.marks.marks v.answer c.note.array_long c.note.ensures;
        possible = r.0.possible;
        within = r.0.within;
      };
    }

pub returns-in_ok-close_with-in-Err : goal.returns-in_ok-close_with-in-Err
returns-in_ok-close_with-in-Err c =
    let at = goal.at.returns-in_ok-close_with-in-Err c in
    let s = c.args.self.now.set in
    let m = c.args.progress.now.state.marks in
    let l = c.args.literal in
    let r = c.requires in
    let v = closes at.Start l (read l c.ranges.literal) _ c.in-Err.ensures in
    let w = closes at.Start (neg_ℤ l) (negated at.After-negated) _ c.in_ok-close_with-in-Err.ensures in
    let m' = c.close_with-in-Err.new.state.marks in
    let p = possible_joined s m m' l r.1 (λ y. y v.answer) w.answer c.args.self.now.possible.now r.0.possible in
    record {
      step = try_failed (tried at.Start v) _ (joined at.Start w);
      marks = λ e. absurd (let z : ◌≡◌ {A = Result Bool Clash} (Ok true) (Ok false) = e in cc);
      count = refl;
      walking = record { state = w.state; known = possible_known s m' p; possible = p; within = r.0.within };
    }
