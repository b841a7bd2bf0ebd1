-- The pairs with the places before the k-th are listed where they may act.
use Prim.Native.Nat.{ℕ, ◌+◌, ◌*◌, ◌≤◌}
use Rattle.groups.specs.Groups.{number_of}
use Rattle.worklist.specs.Acting.{Pairs, Opened, Front}
use Rattle.worklist.proofs.acting.Targets.list_run.Given as goal

abbrev pub invariant-loop-k : goal.invariant-loop-k
invariant-loop-k l =
    let i = number_of l.fn.kind in
    let t = l.fn.self in
    (l.from ≤ l.k) × (l.k ≤ l.to) × (l.n ≤ 9 * i + l.k) × Front l.fn.numbers l.numbers
    × ((a : ℕ) → a ≤ i → Opened l.marks (Pairs a i l.p l.from) l.fn.numbers t.places t.count → Opened l.marks (Pairs a i l.p l.k) l.numbers l.self.places l.n)
