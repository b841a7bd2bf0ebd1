-- Each way out has the tests of `clause_given` that lead to its case; at the last the clause is the one of its shape.
use mathlib.Core.Path.{◌≡◌, ap, sym, subst, ◌∙◌}
use Prim.Native.Nat.{◌<◌}
use native.Mathlib.Omega.{arith}
use mathlib.Core.List.{[]}
use lib.ListN.{length, get_or}
use borrow.Author.Tests.{lt-ltb, le-ltb, eq-eqb, ne_eqb}
use Rattle.clauses.specs.Clauses.{clauses_of}
use Rattle.clauses.specs.Call.{clause_given, padded}
use Rattle.clauses.specs.Shape.{IsShape, clause_of}
use Rattle.std.specs.Prelude.{Ok}
use Rattle.clauses.proofs.Numbers.{sizes, set_long, shape_is, clause_at}
use Rattle.clauses.proofs.clause_given.Goals as goal

pub returns-then-clause_count-n : goal.returns-then-clause_count-n
unfolding clause_given
returns-then-clause_count-n c =
    let a = c.args in
    rw (le-ltb a.n (length (clauses_of a.set)) (omega (arith, c.clause_count.ensures, c.if-clause_count-n.true)))

pub returns-then-out-ne9 : goal.returns-then-out-ne9
unfolding clause_given
returns-then-out-ne9 c =
    let has : c.args.n < length (clauses_of c.args.set) = omega (arith, c.clause_count.ensures, c.if-clause_count-n.false) in
    let a = c.args in
    rw (lt-ltb a.n (length (clauses_of a.set)) has, ne_eqb (length a.out.now) 9 c.if-out-ne9.true)

pub literals_of-requires : goal.literals_of-requires
literals_of-requires c =
    let has : c.args.n < length (clauses_of c.args.set) = omega (arith, c.clause_count.ensures, c.if-clause_count-n.false) in
    subst IsShape (sym c.shape-s.ensures) (shape_is c.args.n (omega (arith, has, set_long c.args.set, sizes c.args.set)))

pub returns : goal.returns
unfolding clause_given
returns c =
    let has : c.args.n < length (clauses_of c.args.set) = omega (arith, c.clause_count.ensures, c.if-clause_count-n.false) in
    let a = c.args in
    let e : clause_of c.shape-s.result ≡ get_or (clauses_of a.set) a.n [] =
    ap clause_of c.shape-s.ensures ∙ sym (clause_at a.set a.n (subst (λ m. a.n < m) (set_long a.set) has)) in
    rw (lt-ltb a.n (length (clauses_of a.set)) has, eq-eqb (length a.out.now) 9 c.if-out-ne9.false)
    λ i. (Ok ((c.length_of.ensures ∙ ap length e) i), (c.copy_from_slice.ensures.after ∙ c.literals_of.ensures ∙ ap padded e) i)
