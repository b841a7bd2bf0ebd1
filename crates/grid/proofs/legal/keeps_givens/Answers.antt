-- The cells are looked at one by one.
use mathlib.Core.Path.{refl, ◌∙◌}
use mathlib.Core.Bool.{Bool, not, ◌||◌}
use Prim.Native.Nat.{ℕ}
use lib.Dec.{eqb}
use Rattle.std.proofs.Common.{rules, tests}
use Rattle.std.proofs.lemmas.Iterator.{YieldsList-from_range}
use Rattle.std.proofs.lemmas.Iterator.Search.{all_from_yields_List}
use Rattle.grid.specs.Grid.{byte, is_digit}
use Rattle.grid.proofs.Counting.{all_of}
use Rattle.grid.proofs.legal.keeps_givens.Goals as goal

pub returns : goal.returns
returns c =
    let p : ℕ → Bool = λ n. not (is_digit (byte c.args.grid.now n)) || eqb (byte c.args.candidate.now n) (byte c.args.grid.now n) in
    all_from_yields_List p _ _ _ c.all.ensures.ran (YieldsList-from_range 0 81 81 refl refl) (λ x b q k. search (rules, tests)) ∙ all_of p 81
