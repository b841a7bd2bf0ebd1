-- The sums follow kind by kind, and the list follows them.
use mathlib.Core.Path.{◌≡◌}
use Prim.Native.Nat.{◌≤◌}
use lib.ListN.{length, set}
use Rattle.groups.specs.Groups.{nine_kinds}
use Rattle.worklist.specs.Acting.{Lists}
use Rattle.worklist.proofs.Weighing.{Weighing}
use Rattle.worklist.proofs.Denying.{Low}
use Rattle.worklist.proofs.acting.State.deny.Given as goal

abbrev pub invariant-loop-kind : goal.invariant-loop-kind
invariant-loop-kind l =
    let m = l.fn.self.marks in
    record {
      marks : l.self.marks ≡ m;
      sums : Weighing (nine_kinds l.fn.set) l.kind-index m (set m l.p 2) l.self.sums;
      long : length l.list.numbers ≡ 361;
      few : l.n ≤ 324;
      lists : Lists l.fn.set (Low l.self.sums) l.list.numbers l.n;
    }
