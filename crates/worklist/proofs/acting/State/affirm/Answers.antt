-- The place gets its mark, its clauses are taken off the list, and its pairs that may act are listed and act.
use mathlib.Core.Path.{refl, sym, subst}
use native.Mathlib.Omega.{arith}
use lib.ListN.{set}
use Rattle.closure.proofs.Marks.{decided_rises}
use Rattle.groups.specs.Groups.{first_pair}
use Rattle.worklist.specs.Acting.{PairsReady, ListedTo, Struckable, Strikes}
use Rattle.worklist.proofs.Listing.{ready_front}
use Rattle.worklist.proofs.Weighing.{is_marks_set}
use Rattle.worklist.proofs.Raising.{lists_on, raised, raised_clash, steps_err}
use Rattle.worklist.proofs.Affirming.{pairs_ready, affirmed}
use Rattle.worklist.proofs.acting.State.affirm.Goals as goal
use Rattle.worklist.proofs.acting.State.affirm.Goals.{After-list_pairs}

-- the pairs are those of the marks with the place true
listed : (c : After-list_pairs) → ListedTo (set c.args.self.now.marks c.args.p 1) (first_pair c.args.set) 3 c.args.p 9 c.settle.new.self.numbers c.list_pairs.new.numbers c.list_pairs.new.self
listed c = subst (λ m. ListedTo m (first_pair c.args.set) 3 c.args.p 9 c.settle.new.self.numbers c.list_pairs.new.numbers c.list_pairs.new.self) c.raise.ensures.marks c.list_pairs.ensures

pub settle-requires : goal.settle-requires
settle-requires c = let r = c.requires.0 in (lists_on c.args.set c.args.list.now r.lists, r.long)

pub strike_all-requires : goal.strike_all-requires
strike_all-requires c =
    let a = c.args in
    let r = c.requires in
    let m = a.self.now.marks in
    let e = c.raise.ensures in
    let t = c.list_pairs in
    let v = listed (goal.at.strike_all-requires c).After-list_pairs in (
      ready_front v.front refl (raised a.set a.p a.self.now a.list.now r.0 r.2 c.raise.new.self c.settle.new.self _ e.marks e.holds c.in_ok-settle.ensures),
      subst (λ m. PairsReady a.set m t.new.numbers t.new.self) (sym e.marks) (pairs_ready a.set m a.p r.0.marks r.2 r.1 v.few v.opened),
    )

pub returns-in_err-settle : goal.returns-in_err-settle
returns-in_err-settle c =
    let a = c.args in
    let r = c.requires in
    let e = c.raise.ensures in
    steps_err a.set a.self.now (set a.self.now.marks a.p 1) c.raise.new.self c.settle.new.self c.from_residual.result c.from_residual.ensures.0
    (raised_clash a.set a.p a.self.now a.list.now r.0 r.2 c.raise.new.self c.settle.new.self _ e.marks e.holds c.in_err-settle.ensures refl)

pub returns : goal.returns
returns c =
    let a = c.args in
    let r = c.requires in
    let e = c.raise.ensures in
    let w = c.strike_all.ensures in (
      affirmed a.set a.self.now.marks a.p r.0.marks r.2 r.1 (listed (goal.at.returns c).After-list_pairs).opened
          (subst (λ m. Strikes a.set (Struckable c.list_pairs.new.self) m c.strike_all.new.self c.strike_all.new.list) e.marks w)
          (is_marks_set a.self.now.marks a.p 1 r.0.marks r.2 (omega arith, omega arith)),
      omega (arith, e.decided, c.raise.new.self.counted, c.strike_all.new.self.counted, decided_rises c.raise.new.self.marks c.strike_all.new.self.marks w.keeps),
    )
