-- What the call gives back is the definition's, and the definition is refused by the first broken rule, or gives the clause.
use mathlib.Core.Path.{◌≡◌}
use Rattle.std.proofs.Common.{rules}
use Rattle.clauses.specs.Call.{clause_call}
use Rattle.clauses.proofs.Calls.{refused_so, stays_so, answers_so}
use Rattle.clauses.proofs.clause.Goals as goal

pub returns-in_err-named-clause-refused : goal.returns-in_err-named-clause-refused
unfolding clause_call
returns-in_err-named-clause-refused c =
    let a = c.args in
    let e : (c.from_residual.result, a.literals.now) ≡ clause_call a.set a.number a.literals.now = search rules in
    refused_so a.set a.number a.literals.now _ _ e

pub returns : goal.returns
unfolding clause_call
returns c =
    let a = c.args in
    let e : (c.clause_given.result, c.clause_given.new.out) ≡ clause_call a.set a.number a.literals.now = search rules in
    record {
      exact = e;
      refused = refused_so a.set a.number a.literals.now _ _ e;
      err = stays_so a.set a.number a.literals.now _ _ e;
      ok = answers_so a.set a.number a.literals.now _ _ e;
    }
