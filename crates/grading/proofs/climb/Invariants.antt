-- The techniques before the one that is next are tried, and the trials made are within the ceiling.
use mathlib.Core.Path.{◌≡◌}
use Prim.Native.Nat.{◌≤◌}
use lib.ListN.{drop}
use Rattle.grading.specs.Grade.{rate_from}
use Rattle.grading.proofs.climb.Given as goal

abbrev pub invariant-loop-technique : goal.invariant-loop-technique
invariant-loop-technique l =
    (l.trials ≤ l.ceiling) × (rate_from l.grid l.order.entries.now l.ceiling (drop l.technique-index l.technique-items) l.trials ≡ rate_from l.grid l.order.entries.now l.ceiling l.technique-items 0)
