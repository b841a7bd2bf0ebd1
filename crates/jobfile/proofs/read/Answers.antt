-- What the call gives back is the definition's, and the definition is refused by the first broken rule, or sets what the file spells.
use mathlib.Core.Path.{◌≡◌}
use native.Mathlib.Omega.{arith}
use Rattle.std.proofs.Common.{rules}
use Rattle.std.specs.Prelude.{Err}
use Rattle.grid.specs.declared.Refusal.TheVariants.{BufferLength, OrderBuffer}
use Rattle.jobfile.specs.Call.{lent_check, read_call}
use Rattle.jobfile.proofs.Calls.{refused_so, faults_so, stays_so, answers_so}
use Rattle.jobfile.proofs.read.Goals as goal

pub returns-in_default-clause-refused : goal.returns-in_default-clause-refused
unfolding lent_check read_call
returns-in_default-clause-refused c =
    let a = c.args in
    let e : (Err BufferLength, a.grid.now, a.order.now) ≡ read_call a.file.now a.grid.now a.order.now = search rules in
    refused_so a.file.now a.grid.now a.order.now (λ i. omega (arith, c.type_inv.file i)) _ _ _ e

pub returns-in_default-as_mut_array-clause-refused : goal.returns-in_default-as_mut_array-clause-refused
unfolding lent_check read_call
returns-in_default-as_mut_array-clause-refused c =
    let a = c.args in
    let e : (Err OrderBuffer, a.grid.now, a.order.now) ≡ read_call a.file.now a.grid.now a.order.now = search rules in
    refused_so a.file.now a.grid.now a.order.now (λ i. omega (arith, c.type_inv.file i)) _ _ _ e

pub returns : goal.returns
returns c =
    let a = c.args in
    let e : (c.read_file.result, c.read_file.new.grid, c.read_file.new.order) ≡ read_call a.file.now a.grid.now a.order.now = search rules in
    record {
      exact = e;
      refused = refused_so a.file.now a.grid.now a.order.now (λ i. omega (arith, c.type_inv.file i)) _ _ _ e;
      faults = faults_so a.file.now a.grid.now a.order.now (λ i. omega (arith, c.type_inv.file i)) _ _ _ e;
      err = stays_so a.file.now a.grid.now a.order.now (λ i. omega (arith, c.type_inv.file i)) _ _ _ e;
      ok = answers_so a.file.now a.grid.now a.order.now (λ i. omega (arith, c.type_inv.file i)) _ _ _ e;
    }

pub returns-in_default-clause-faults : goal.returns-in_default-clause-faults
unfolding lent_check read_call
returns-in_default-clause-faults c =
    let a = c.args in
    let e : (Err BufferLength, a.grid.now, a.order.now) ≡ read_call a.file.now a.grid.now a.order.now = search rules in
    faults_so a.file.now a.grid.now a.order.now (λ i. omega (arith, c.type_inv.file i)) _ _ _ e

pub returns-in_default-as_mut_array-clause-faults : goal.returns-in_default-as_mut_array-clause-faults
unfolding lent_check read_call
returns-in_default-as_mut_array-clause-faults c =
    let a = c.args in
    let e : (Err OrderBuffer, a.grid.now, a.order.now) ≡ read_call a.file.now a.grid.now a.order.now = search rules in
    faults_so a.file.now a.grid.now a.order.now (λ i. omega (arith, c.type_inv.file i)) _ _ _ e
