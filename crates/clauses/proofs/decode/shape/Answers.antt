-- The branches are the families; each gives the shape that its law says.
use mathlib.Core.Path.{ap, sym, ◌∙◌}
use Prim.Native.Nat.{◌-◌, ◌%◌}
use native.Mathlib.Omega.{arith}
use Rattle.clauses.specs.Shape.{pair_of, row_pair, rows_pair}
use Rattle.clauses.specs.declared.Shape.TheVariants.{OneOf}
use Rattle.clauses.proofs.Families.{shape_F1, shape_F2, shape_F3, shape_F4, shape_F5, shape_F6, shape_F7, shape_F8, shape_F9}
use Rattle.clauses.proofs.decode.shape.Goals as goal

pub returns-then-n-lt81 : goal.returns-then-n-lt81
returns-then-n-lt81 c = sym (shape_F1 c.args.n c.if-n-lt81.true)

pub returns-then-n-lt2997 : goal.returns-then-n-lt2997
returns-then-n-lt2997 c =
    let n = c.args.n in
    c.pair.ensures ∙ ap (λ g. pair_of g ((n - 81) % 36)) c.column.ensures ∙ sym (shape_F2 n (omega arith) (omega arith))

pub returns-then-n-lt5913 : goal.returns-then-n-lt5913
returns-then-n-lt5913 c =
    let n = c.args.n in
    c.pair-then-n-lt5913.ensures ∙ ap (λ g. pair_of g ((n - 2997) % 36)) c.row.ensures ∙ sym (shape_F3 n (omega arith) (omega arith))

pub returns-then-n-lt6642 : goal.returns-then-n-lt6642
returns-then-n-lt6642 c =
    let n = c.args.n in
    c.row_pair.ensures ∙ ap (λ g. row_pair g ((n - 5913) % 9)) c.boxed.ensures ∙ sym (shape_F4 n (omega arith) (omega arith))

pub returns-then-n-lt8829 : goal.returns-then-n-lt8829
returns-then-n-lt8829 c =
    let n = c.args.n in
    c.rows_pair.ensures ∙ ap (λ g. rows_pair g ((n - 6642) % 27)) c.boxed-then-n-lt8829.ensures ∙ sym (shape_F5 n (omega arith) (omega arith))

pub returns-then-n-lt11745 : goal.returns-then-n-lt11745
returns-then-n-lt11745 c = let n = c.args.n in c.pair-then-n-lt11745.ensures ∙ sym (shape_F6 n (omega arith) (omega arith))

pub returns-then-n-lt11826 : goal.returns-then-n-lt11826
returns-then-n-lt11826 c = let n = c.args.n in ap OneOf c.column-then-n-lt11826.ensures ∙ sym (shape_F7 n (omega arith) (omega arith))

pub returns-then-n-lt11907 : goal.returns-then-n-lt11907
returns-then-n-lt11907 c = let n = c.args.n in ap OneOf c.row-then-n-lt11907.ensures ∙ sym (shape_F8 n (omega arith) (omega arith))

pub returns-else-n-lt11907 : goal.returns-else-n-lt11907
returns-else-n-lt11907 c = let n = c.args.n in ap OneOf c.boxed-else-n-lt11907.ensures ∙ sym (shape_F9 n (omega arith))
