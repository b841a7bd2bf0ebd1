-- Kind by kind, and the box by its rows.
use native.Mathlib.Omega.{arith}
use lib.ListN.{length}
use mathlib.Core.Path.{◌≡◌}
use Rattle.groups.specs.Groups.{first_pair}
use Rattle.groups.specs.declared.Kind.TheVariants.{Cell, Column, Row, Box}
use Rattle.worklist.specs.Acting.{ListedTo}
use Rattle.groups.proofs.Slots.{first_below}
use Rattle.worklist.proofs.Listing.{to_none, to_run, to_kind}
use Rattle.worklist.proofs.acting.Targets.list_pairs.Goals as goal
use Rattle.worklist.proofs.acting.Targets.list_pairs.Goals.{in-Minimal, in-Extended}

pub returns : goal.returns
returns c =
    let a = c.args in
    let m = a.marks.now in
    let ls = a.numbers.now in
    let t = c.match-set in
    let long : length a.self.now.places ≡ 36 = omega arith in
    let cells : ListedTo m (first_pair a.set) 1 a.p 0 ls t.numbers t.self = elim t.branch [
      | in-Minimal w ↦ rw (w.in-Minimal.is, w.numbers-is, w.self-is) (to_none m 1 a.p ls a.self.now long c.requires.0)
      | in-Extended w ↦ rw (w.in-Extended.is, w.numbers-is, w.self-is) (to_kind (omega arith) (to_run Cell (omega arith) (to_none m 0 a.p ls a.self.now long c.requires.0) w.list_run.ensures))
    ] in
    let h = first_below a.set in
    let columns = to_run Column h cells c.list_run-2.ensures in
    let rows = to_run Row (omega (arith, h)) (to_kind h columns) c.list_run-3.ensures in
    let upper = to_run Box (omega (arith, h)) (to_kind (omega (arith, h)) rows) c.list_run-4.ensures in
    let middle = to_run Box (omega (arith, h)) upper c.list_run-5.ensures in
    to_run Box (omega (arith, h)) middle c.list_run-6.ensures
