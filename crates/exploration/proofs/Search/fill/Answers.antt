-- A cell in which one digit is left has it in each completion.
use mathlib.Core.Path.{◌≡◌, sym, subst, ◌∙◌}
use mathlib.Core.Logic.{◌↔◌}
use mathlib.Core.Bool.{Bool, false, not}
use mathlib.Core.List.{List}
use Prim.Native.Nat.{ℕ, ◌+◌, ◌*◌, ◌%◌, ◌^◌, ◌≤◌, ◌<◌}
use native.Mathlib.Decide.{ℕ_discrete}
use native.Mathlib.Omega.{arith}
use lib.Dec.{T}
use lib.ListN.{length, set, length-set}
use Rattle.grid.specs.Grid.{byte, is_digit}
use Rattle.grid.specs.Completion.{Legal}
use Rattle.boards.proofs.Tests.{holds}
use Rattle.exploration.specs.Search.{ClosedBefore, MayHave, is_open, open_cells}
use Rattle.exploration.proofs.Exploring.{Node, bounds_more, only_digit, fewer_open, closed_branch}
use Rattle.exploration.proofs.Search.fill.Goals.{then-not-is_digit+else-digit-ge9+else-digits-digit, else-not-is_digit}
use Rattle.exploration.proofs.Search.fill.Goals as goal

opened : (x : Bool) → x ≡ false → T (not x)
opened x e = subst (λ x. T (not x)) (sym e) tt

-- no completion is lost so far, and the cells before c have their digits
record Filling (old new : List ℕ) (c : ℕ) : Type 0 where
  long : length new ≡ 81
  legal : (b : List ℕ) → Legal old b ↔ Legal new b
  fewer : open_cells new ≤ open_cells old
  closed : ClosedBefore new c

-- nor is it where the only digit that is left is given to the cell
one_more : (old new : List ℕ) (c d digits : ℕ) → c < 81 → d < 9 → T (is_open new c) → digits ≡ 1 * 2 ^ d % 4294967296 → MayHave new c digits
    → Filling old new c → Filling old (set new c (49 + d)) (c + 1)
one_more old new c d digits cell few no_digit one may f =
    let n : Node new c = record { long = f.long; cell = cell; no_digit = no_digit; before = f.closed } in
    record {
      long = simp length-set f.long;
      legal = λ b. let i = only_digit new c n d few digits one may b in ((λ l. i.0 ((f.legal b).0 l)), λ l. (f.legal b).1 (i.1 l));
      fewer = omega (arith, f.fewer, fewer_open new c n d few);
      closed = closed_branch new c n d few;
    }

pub returns-then-digit-ge9 : goal.returns-then-digit-ge9
returns-then-digit-ge9 c =
    let i = c.loop-cell.invariant in
    let known = bounds_more c.args.self.now.only c.args.boards.now.words c.args.grid.now c.loop-cell.grid (λ b. (i.2 b).1) c.requires.bounds in
    record {
      legal = i.2;
      fewer = i.3;
      first = (c.loop-cell-test.true, opened _ (sym c.is_digit.ensures ∙ c.if-not-is_digit.true), i.4, c.digits_at-digits.ensures c.loop-cell.grid known);
    }

pub loop-cell-preserved : goal.loop-cell-preserved
loop-cell-preserved c =
    let i = c.loop-cell.invariant in
    let cell = c.loop-cell.cell in
    elim c.if-not-is_digit.branch [
      | then-not-is_digit+else-digit-ge9+else-digits-digit w ↦ (
          let known = bounds_more c.args.self.now.only c.args.boards.now.words c.args.grid.now c.loop-cell.grid (λ b. (i.2 b).1) c.requires.bounds in
          let f =
          one_more c.args.grid.now c.loop-cell.grid cell _ w.digits_at-digits.result c.loop-cell-test.true (omega (arith, w.if-digit-ge9.false))
          (opened _ (sym c.is_digit.ensures ∙ w.if-not-is_digit.true)) w.if-digits-digit.false
          (w.digits_at-digits.ensures c.loop-cell.grid known) (record { long = i.1; legal = i.2; fewer = i.3; closed = i.4 }) in
          rw w.grid-is (omega arith, f.long, f.legal, f.fewer, f.closed)
          )
      | else-not-is_digit w ↦ (
          let t = holds (sym c.is_digit.ensures ∙ w.if-not-is_digit.false) in
          rw w.grid-is (
            omega arith,
            i.1,
            i.2,
            i.3,
            λ k u. elim (ℕ_discrete k cell) [ yes e ↦ subst (λ k. T (is_digit (byte c.loop-cell.grid k))) (sym e) t | no n ↦ i.4 k (omega arith) ],
          )
          )
    ]
