-- Once cells have got the digits that are the only ones left, the completions are those with each digit of the first open cell, one after the other.
use mathlib.Core.Path.{◌≡◌, refl, ap, sym, subst, ◌∙◌}
use mathlib.Core.List.{List, append-nil}
use Prim.Native.Nat.{ℕ, ◌+◌}
use native.Mathlib.Omega.{arith}
use lib.ListN.{length, set}
use Rattle.std.specs.Prelude.{Some}
use Rattle.exploration.specs.Search.{found_of, Adds, Bounds, Fills}
use Rattle.exploration.specs.declared.Open.{Open}
use Rattle.exploration.specs.declared.Found.{Found}
use Rattle.exploration.proofs.Branches.{below, solved_one, unsolved_none}
use Rattle.exploration.proofs.Exploring.{Node, adds_same, bounds_more, first, next, all_tried, two_found, fewer_open, closed_branch, branch_bounds, passed, tried}
use Rattle.exploration.proofs.Search.+explore.Goals.{then-branch+in_ok-explore+else-is_several, else-branch}
use Rattle.exploration.proofs.Search.+explore.Goals as goal

node : {old new : List ℕ} {x : Open} → Fills old new (Some x) → length new ≡ 81 → Node new x.cell
node {old} {new} {x} f long = record { long = long; cell = f.first.0; no_digit = f.first.1; before = f.first.2 }

pub returns-then-is_solved-clause-found : goal.returns-then-is_solved-clause-found
returns-then-is_solved-clause-found t c =
    let g = c.fill.new.grid in
    let f = c.in_default.ensures in
    let one = solved_one g c.fill.array_long f.first (c.is_solved.ensures.0 c.if-is_solved.true) in
    adds_same c.args.self.now.found c.add.new.self c.args.grid.now g f.legal (subst (Adds c.args.self.now.found c.add.new.self) (sym one) c.add.ensures)

pub returns-else-is_solved-clause-found : goal.returns-else-is_solved-clause-found
returns-else-is_solved-clause-found t c =
    let g = c.fill.new.grid in
    let f = c.in_default.ensures in
    let found = c.args.self.now.found in
    let none = unsolved_none g c.fill.array_long f.first (λ l. let z = sym c.if-is_solved.false ∙ c.is_solved.ensures.1 l in cc) in
    adds_same found found c.args.grid.now g f.legal (subst (Adds found found) (sym none) (λ xs e. e ∙ ap found_of (sym (append-nil xs))))

pub loop-digit-init : goal.loop-digit-init
loop-digit-init t c =
    let f = c.in-Some.ensures in
    let n = node f c.fill.array_long in
    let r = c.next_digit-digit.ensures in
    let x = c.in-Some.field-0 in
    (r.high, refl, refl, first c.fill.new.grid x.cell n c.args.self.now.found x.digits c.next_digit-digit.result f.first.3 r)

pub explore-requires : goal.explore-requires
explore-requires t c =
    let g = c.fill.new.grid in
    let f = c.in-Some.ensures in
    let x = c.in-Some.field-0 in
    let n = node f c.fill.array_long in
    let d = c.loop-digit.digit in
    let few = c.loop-digit-test.true in
    let only = c.args.self.now.only in
    let known = bounds_more only c.args.boards.now.words c.args.grid.now g (λ b. (f.legal b).1) c.requires.bounds in
    let branch =
    branch_bounds g x.cell n d few only c.args.boards.now.words known c.enters.new.boards.words c.in_ok-enters.field-0 c.in_ok-enters.ensures.entered in (
      omega (arith, c.decreases, f.fewer, fewer_open g x.cell n d few),
      (
        subst (λ o. Bounds o c.enters.new.boards.words (set g x.cell (49 + d))) (sym c.loop-digit.invariant.1) branch,
        (omega (arith, n.cell), closed_branch g x.cell n d few),
      ),
    )

-- what is found once a branch that is entered is explored
pub returns-then-is_several-clause-found : goal.returns-then-is_several-clause-found
returns-then-is_several-clause-found t c =
    let g = c.fill.new.grid in
    let f = c.in-Some.ensures in
    let x = c.in-Some.field-0 in
    let n = node f c.fill.array_long in
    let d = c.loop-digit.digit in
    let old = c.args.self.now.found in
    let new = c.explore.new.self.found in
    let more = tried g x.cell n d c.loop-digit-test.true old c.loop-digit.self.found new c.loop-digit.invariant.3 c.in_ok-explore.ensures.found in
    adds_same old new c.args.grid.now g f.legal (two_found g x.cell n old new (d + 1) c.is_several.result c.is_several.ensures c.if-is_several.true more)

pub loop-digit-preserved : goal.loop-digit-preserved
loop-digit-preserved t c =
    let g = c.fill.new.grid in
    let f = c.in-Some.ensures in
    let x = c.in-Some.field-0 in
    let n = node f c.fill.array_long in
    let d = c.loop-digit.digit in
    let few = c.loop-digit-test.true in
    let i = c.loop-digit.invariant in
    let old = c.args.self.now.found in
    let r = c.next_digit-digit-in-loop-digit in
    let then_next : (new : Found) → Adds old new (below g x.cell (d + 1)) → Adds old new (below g x.cell r.result) = λ new a.
    next g x.cell n old new x.digits (d + 1) r.result f.first.3 r.ensures a in
    elim c.if-branch.branch [
      | then-branch+in_ok-explore+else-is_several w ↦ rw w.self-is (
        r.ensures.high,
        w.in_ok-explore.ensures.kept.0 ∙ i.1,
        w.in_ok-explore.ensures.kept.1 ∙ c.in_ok-enters.ensures.kept ∙ i.2,
        then_next w.explore.new.self.found (tried g x.cell n d few old c.loop-digit.self.found w.explore.new.self.found i.3 w.in_ok-explore.ensures.found),
      )
      | else-branch w ↦ (
          let only = c.args.self.now.only in
          let known = bounds_more only c.args.boards.now.words c.args.grid.now g (λ b. (f.legal b).1) c.requires.bounds in
          rw w.self-is (
            r.ensures.high,
            i.1,
            c.in_ok-enters.ensures.kept ∙ i.2,
            then_next c.loop-digit.self.found
                (passed g x.cell n d few only c.args.boards.now.words known c.enters.new.boards.words c.in_ok-enters.field-0 c.in_ok-enters.ensures.entered
                old c.loop-digit.self.found w.if-branch.false i.3),
          )
          )
    ]

pub returns-clause-found : goal.returns-clause-found
returns-clause-found t c =
    let g = c.fill.new.grid in
    let f = c.in-Some.ensures in
    let x = c.in-Some.field-0 in
    let n = node f c.fill.array_long in
    let i = c.loop-digit.invariant in
    let old = c.args.self.now.found in
    let new = c.loop-digit.self.found in
    adds_same old new c.args.grid.now g f.legal (all_tried g x.cell n old new c.loop-digit.digit (omega (arith, c.loop-digit-test.false)) i.0 i.3)
