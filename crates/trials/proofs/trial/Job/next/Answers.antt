-- Skipped, stopped, known or tried.
use mathlib.Core.Path.{◌≡◌, refl, ap, sym, subst, ◌∙◌}
use mathlib.Core.Bool.{Bool, true, false}
use Prim.Native.Nat.{◌+◌, ◌<◌}
use native.Mathlib.Omega.{arith}
use lib.Dec.{T}
use lib.IntN.{ℤ, neg_ℤ}
use lib.ListN.{get_or}
use Rattle.std.specs.Prelude.{Result, Ok, Err}
use Rattle.clauses.specs.Clauses.{clauses_of}
use Rattle.clauses.specs.Literal.{Literal, mark_index}
use Rattle.clauses.proofs.Signed.{read}
use Rattle.closure.specs.Marks.{is_decided, mark}
use Rattle.closure.specs.Propagation.{unit_closure}
use Rattle.closure.specs.Job.{Step, Walk, after, try, step, walked, ended, solved}
use Rattle.worklist.proofs.Literals.{place_read, byte_open}
use Rattle.worklist.specs.declared.acting.Clash.{Clash}
use Rattle.trials.specs.Known.{Names, Named}
use Rattle.trials.specs.Steps.{Walking, Tried, Stepped}
use Rattle.trials.specs.declared.trial.Job.{Job}
use Rattle.closure.specs.declared.Outcome.TheVariants.{Solved, Contradiction}
use Rattle.trials.specs.declared.trial.Progress.{Progress}
use Rattle.trials.proofs.Knowing.{known_kept}
use Rattle.trials.proofs.Trying.{byte_decided, next_skip, next_halt, next_tried, next_solved, next_more}
use Rattle.trials.proofs.trial.Job.next.Goals as goal
use Rattle.trials.proofs.trial.Job.next.Goals.{Start, Else-progress-at-ne0, Else-progress-self, else-failed-via-then-failed+else-progress-eq729, else-failed-via-else-failed}

-- one trial more
abbrev counted : Progress → Progress
counted p = record p { count = p.count + 1 }

walking_counted : {j : Job} {p : Progress} → Walking j p → p.count < j.ceiling → Walking j (counted p)
walking_counted w h = record { state = w.state; known = w.known; possible = w.possible; within = omega (arith, h) }

-- literal l is not decided, and comes under the ceiling
module _ (j : Job) (p : Progress) (l : ℤ) (open_ : T (is_decided p.state.marks l) → ⊥) (below : p.count < j.ceiling) where
  abbrev thereafter : Bool → Step → Walk
  thereafter f x = after x p.state.marks p.count f (λ m n g. walked m n g)

  -- what a trial of it shows is what the step comes to
  tried : (x : Step) → x ≡ try (unit_closure (clauses_of j.set) (mark p.state.marks l)) (λ u. unit_closure (clauses_of j.set) (mark p.state.marks (neg_ℤ l))) → (f : Bool)
      → thereafter f x ≡ thereafter f (step (clauses_of j.set) j.ceiling p.state.marks p.count l)
  tried x e f = next_tried (clauses_of j.set) j.ceiling p.state.marks p.count l f open_ (λ z. omega (arith, below, z)) x e

  stepped_kept : (q : Progress) → Tried j (counted p) l q (Ok false) → Stepped j p l q (Ok false)
  stepped_kept q t = record { step = λ f. rw (t.marks refl, t.count) (tried _ t.step f); walking = t.walking }

  stepped_solved : (q : Progress) → Tried j (counted p) l q (Ok true) → q.state.decided ≡ 729 → Stepped j p l q (Err Solved)
  stepped_solved q t e =
      record { step = λ f. ap (λ n. ended (solved q.state.marks n)) t.count ∙ next_solved p.state.marks q.state.marks p.count f (sym q.state.counted ∙ e) ∙ tried _ t.step f; walking = tt }

  stepped_more : (q : Progress) → Tried j (counted p) l q (Ok true) → (q.state.decided ≡ 729 → ⊥) → Stepped j p l q (Ok true)
  stepped_more q t e =
      record {
        step = λ f. ap (λ n. walked q.state.marks n true) t.count ∙ next_more p.state.marks q.state.marks p.count f (λ z. e (q.state.counted ∙ z)) ∙ tried _ t.step f;
        walking = t.walking;
      }

  stepped_err : (q : Progress) {x : Clash} → Tried j (counted p) l q (Err x) → Stepped j p l q (Err Contradiction)
  stepped_err q t = record { step = λ f. rw t.count (tried _ t.step f); walking = tt }

-- what a byte of 0 there says
undecided : (c : Else-progress-at-ne0) → T (is_decided c.args.progress.now.state.marks c.args.literal) → ⊥
undecided c =
    let l = c.args.literal in
    let m = c.args.progress.now.state.marks in
    byte_open m l c.requires.1 (ap (λ x. get_or m x 0) (sym (place_read c.mark_index-at.ensures (read l c.ranges.literal) c.requires.1)) ∙ c.if-progress-at-ne0.false)

below : (c : Else-progress-self) → c.args.progress.now.count < c.args.self.now.ceiling
below c = let w = c.requires.0 in omega (arith, w.within, c.if-progress-self.false)

pub returns-then-progress-at-ne0 : goal.returns-then-progress-at-ne0
returns-then-progress-at-ne0 c =
    let j = c.args.self.now in
    let p = c.args.progress.now in
    let l = c.args.literal in
    let r = c.requires in
    let e = place_read c.mark_index-at.ensures (read l c.ranges.literal) r.1 in
    let t = byte_decided p.state.marks r.0.state.marks.marks l r.1 (λ z. c.if-progress-at-ne0.true (ap (λ x. get_or p.state.marks x 0) e ∙ z)) in
    record { step = λ f. next_skip (clauses_of j.set) j.ceiling p.state.marks p.count l f t; walking = r.0 }

pub returns-then-progress-self : goal.returns-then-progress-self
returns-then-progress-self c =
    let j = c.args.self.now in
    let p = c.args.progress.now in
    let u = undecided (goal.at.returns-then-progress-self c).Else-progress-at-ne0 in
    record { step = λ f. next_halt (clauses_of j.set) j.ceiling p.state.marks p.count c.args.literal f u c.if-progress-self.true; walking = tt }

pub returns-then-is_named : goal.returns-then-is_named
returns-then-is_named c =
    let at = goal.at.returns-then-is_named c in
    let j = c.args.self.now in
    let p = c.args.progress.now in
    let l = c.args.literal in
    let r = c.requires in
    let u = undecided at.Else-progress-at-ne0 in
    let b = below at.Else-progress-self in
    let e = read l c.ranges.literal in
    let n : Named p.known l =
    subst (λ x. Names (get_or p.known x 0) l) (c.mark_index-at.ensures ∙ ap mark_index e) (subst (Names (get_or p.known c.mark_index-at.result 0)) e (c.is_named.ensures c.if-is_named.true)) in
    record {
      step = tried j p l u b _ (known_kept j.set p.state.marks l r.1 u (r.0.known.each l r.1 n) (λ v. unit_closure (clauses_of j.set) (mark p.state.marks (neg_ℤ l))));
      walking = walking_counted r.0 b;
    }

pub attempt-requires : goal.attempt-requires
attempt-requires c =
    let at = goal.at.attempt-requires c in
    let e = sym (read c.args.literal c.ranges.literal) in
    (walking_counted c.requires.0 (below at.Else-progress-self), subst Literal e c.requires.1, subst (λ x. T (is_decided c.args.progress.now.state.marks x) → ⊥) e (undecided at.Else-progress-at-ne0))

-- the literal as the call reads it
tried_read : (c : Else-progress-self) {l : ℤ} {q : Progress} {r : Result Bool Clash} → l ≡ c.args.literal → Tried c.args.self.now (counted c.args.progress.now) l q r
    → Tried c.args.self.now (counted c.args.progress.now) c.args.literal q r
tried_read c {q = q} {r = r} e t = subst (λ x. Tried c.args.self.now (counted c.args.progress.now) x q r) e t

pub returns-in_default : goal.returns-in_default
returns-in_default c =
    let at = goal.at.returns-in_default c in
    let t = tried_read at.Else-progress-self (read c.args.literal c.ranges.literal) c.in_default.ensures in
    stepped_err c.args.self.now c.args.progress.now c.args.literal (undecided at.Else-progress-at-ne0) (below at.Else-progress-self) c.attempt.new.progress t

pub returns-then-progress-eq729 : goal.returns-then-progress-eq729
returns-then-progress-eq729 c =
    let at = goal.at.returns-then-progress-eq729 c in
    let t = tried_read at.Else-progress-self (read c.args.literal c.ranges.literal) (rw c.if-failed.true at c.in-Ok.ensures) in
    stepped_solved c.args.self.now c.args.progress.now c.args.literal (undecided at.Else-progress-at-ne0) (below at.Else-progress-self) c.attempt.new.progress t c.if-progress-eq729.true

pub returns : goal.returns
returns c =
    let at = goal.at.returns c in
    let j = c.args.self.now in
    let p = c.args.progress.now in
    let l = c.args.literal in
    let u = undecided at.Else-progress-at-ne0 in
    let b = below at.Else-progress-self in
    let q = c.attempt.new.progress in
    let t = tried_read at.Else-progress-self (read l c.ranges.literal) c.in-Ok.ensures in
    elim c.else-failed.branch [
      | else-failed-via-then-failed+else-progress-eq729 w ↦ rw w.if-failed.true (stepped_more j p l u b q (rw w.if-failed.true at t) w.if-progress-eq729.false)
      | else-failed-via-else-failed w ↦ rw w.if-failed.false (stepped_kept j p l u b q (rw w.if-failed.false at t))
    ]
