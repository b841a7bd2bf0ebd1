-- By what the search has found.
use Rattle.grading.proofs.Grading.{marks_complete, only_legal, graded_one, graded_none, graded_several}
use Rattle.grading.proofs.rate.Goals as goal
use Rattle.grading.proofs.rate.Goals.{in-Nothing, in-Several}

pub climb-requires : goal.climb-requires
climb-requires c =
    let g = c.args.grid.now in
    let only = c.in-One.only in
    marks_complete g only c.marks_of.result (only_legal g only c.in-One.ensures.exact) c.marks_of.ensures

pub returns-in-One : goal.returns-in-One
returns-in-One c =
    let a = c.args in
    graded_one a.grid.now a.order.now.entries.now a.ceiling c.in-One.only c.climb.result c.in-One.ensures.exact c.climb.ensures

pub returns : goal.returns
returns c =
    let a = c.args in
    elim c.match-find.branch [
      | in-Nothing w ↦ graded_none a.grid.now a.order.now.entries.now a.ceiling c.match-find.verdict w.in-Nothing.ensures.exact w.verdict-is
      | in-Several w ↦ graded_several a.grid.now a.order.now.entries.now a.ceiling w.in-Several.field-0 w.in-Several.field-1 c.match-find.verdict w.in-Several.ensures.exact w.verdict-is
    ]
