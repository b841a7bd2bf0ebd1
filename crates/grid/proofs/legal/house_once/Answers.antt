-- The counts are looked at one by one.
use mathlib.Core.Path.{ap, ◌∙◌}
use mathlib.Core.Bool.{Bool}
use Prim.Native.Nat.{ℕ}
use lib.Dec.{eqb}
use Rattle.std.proofs.Common.{rules, tests}
use Rattle.std.proofs.lemmas.Iterator.{YieldsList-from_slice}
use Rattle.std.proofs.lemmas.Iterator.Search.{all_from_yields_List}
use Rattle.grid.proofs.Counting.{all_in, all_same}
use Rattle.grid.proofs.legal.house_once.Goals as goal

pub returns : goal.returns
returns c =
    let p : ℕ → Bool = λ n. eqb n 1 in
    let l = c.count_digits.result in
    all_from_yields_List p _ _ _ c.all.ensures.ran (YieldsList-from_slice l cc) (λ x b q k. search (rules, tests)) ∙ all_in p l 9 (cc)
    ∙ all_same 9 _ _ (λ d h. ap p (c.count_digits.ensures d h))
