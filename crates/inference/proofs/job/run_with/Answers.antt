-- The start of a job, case by case.
use mathlib.Core.Path.{◌≡◌, ap, sym, ◌∙◌}
use Rattle.clauses.specs.Clauses.{clauses_of}
use Rattle.clauses.specs.Models.{givens}
use Rattle.closure.specs.Marks.{blank}
use Rattle.closure.specs.Propagation.{closed, bind, join, unit_closure}
use Rattle.trials.specs.Steps.{end_of}
use Rattle.propagation.proofs.Closing.{givens_computed}
use Rattle.trials.proofs.Knowing.{completion_possible}
use Rattle.trials.proofs.Walking.{start_clash, start_full, start_trials, start_open}
use Rattle.inference.proofs.job.run_with.Goals as goal
use Rattle.inference.proofs.job.run_with.Goals.{then-state-eq729, else-state-eq729+then-technique, else-state-eq729+else-technique}

pub returns-in_default : goal.returns-in_default
returns-in_default c =
    let a = c.args in
    ap (λ e. end_of e _) c.untried.ensures ∙ start_clash (clauses_of a.technique.set) a.ceiling a.technique.trials a.order.now.entries.now (givens a.grid.now) (givens_computed a.technique.set a.grid.now c.in_default.ensures)

pub passes-requires : goal.passes-requires
passes-requires c =
    let a = c.args in
    let v = c.in-Ok.ensures in
    (v.state, completion_possible a.technique.set a.grid.now c.in-Ok.state.marks c.requires v.answer)

pub returns : goal.returns
returns c =
    let a = c.args in
    let s = c.in-Ok.state in
    let cs = clauses_of a.technique.set in
    let is_closed : closed s.marks ≡ bind (join blank (givens a.grid.now)) (unit_closure cs) = givens_computed a.technique.set a.grid.now c.in-Ok.ensures in
    elim c.if-state-eq729.branch [
      | then-state-eq729 w ↦ rw (w.end-is, w.state-is)
          (ap (λ e. end_of e s.marks) w.untried-end.ensures ∙ start_full cs a.ceiling a.technique.trials a.order.now.entries.now (givens a.grid.now) s.marks is_closed (sym s.counted ∙ w.if-state-eq729.true))
      | else-state-eq729+then-technique w ↦ rw (w.end-is, w.state-is)
          (w.passes.ensures ∙ start_trials cs a.ceiling a.technique.trials a.order.now.entries.now (givens a.grid.now) s.marks is_closed (λ e. w.if-state-eq729.false (s.counted ∙ e)) w.if-technique.true)
      | else-state-eq729+else-technique w ↦ rw (w.end-is, w.state-is)
          (ap (λ e. end_of e s.marks) w.untried-else-technique.ensures ∙ start_open cs a.ceiling a.technique.trials a.order.now.entries.now (givens a.grid.now) s.marks is_closed (λ e. w.if-state-eq729.false (s.counted ∙ e)) w.if-technique.false)
    ]
