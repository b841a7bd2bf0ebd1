-- The marks are made place by place.
use mathlib.Core.Bool.{cond}
use Prim.Native.Nat.{suc}
use Rattle.std.proofs.Common.{rules, tests}
use Rattle.grid.proofs.Made.{made_at}
use Rattle.clauses.specs.Models.{truth_of}
use Rattle.grading.proofs.marks_of.Goals as goal

pub returns : goal.returns
returns c =
    let items = c.from_fn.ensures.items in
    record {
      long = items.long;
      marks = made_at _ (λ p. cond (truth_of c.args.completion.now (suc p)) 1 2) 0 _ (λ x y q k. search (rules, tests)) c.from_fn.result 729 items;
    }
