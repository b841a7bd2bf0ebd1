-- The houses are looked at one by one.
use mathlib.Core.Path.{refl, ◌∙◌}
use mathlib.Core.Bool.{Bool}
use Prim.Native.Nat.{ℕ}
use lib.Dec.{eqb}
use Rattle.std.proofs.Common.{rules, tests}
use Rattle.std.proofs.lemmas.Iterator.{YieldsList-from_range}
use Rattle.std.proofs.lemmas.Iterator.Search.{all_from_yields_List}
use Rattle.grid.specs.Counting.{all}
use Rattle.grid.specs.Completion.{times}
use Rattle.grid.proofs.Counting.{all_of}
use Rattle.grid.proofs.legal.each_once.Goals as goal

pub returns : goal.returns
returns c =
    let p : ℕ → Bool = λ h. all 9 (λ d. eqb (times c.args.candidate.now h d) 1) in
    all_from_yields_List p _ _ _ c.all.ensures.ran (YieldsList-from_range 0 27 27 refl refl) (λ x b q k. search (rules, tests)) ∙ all_of p 27
