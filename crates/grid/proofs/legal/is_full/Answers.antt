-- The bytes are looked at one by one.
use mathlib.Core.Path.{◌∙◌}
use borrow.Author.Tests.{eq-eqb}
use lib.ListN.{length}
use Rattle.std.proofs.Common.{rules, tests}
use Rattle.std.proofs.lemmas.Iterator.{YieldsList-from_slice}
use Rattle.std.proofs.lemmas.Iterator.Search.{all_from_yields_List}
use Rattle.grid.specs.Grid.{is_digit}
use Rattle.grid.proofs.Counting.{all_in}
use Rattle.grid.proofs.legal.is_full.Goals as goal

pub returns-then-candidate-eq81 : goal.returns-then-candidate-eq81
returns-then-candidate-eq81 c =
    let l = c.args.candidate.now in
    let e = c.if-candidate-eq81.true in
    rw (eq-eqb (length l) 81 e)
    (all_from_yields_List is_digit _ _ _ c.all.ensures.ran (YieldsList-from_slice l cc) (λ x b q k. search (rules, tests)) ∙ all_in is_digit l 81 e)
