-- The first q sums of each kind are those of nothing decided.
use mathlib.Core.Path.{◌≡◌, ap, sym, ◌∙◌}
use mathlib.Core.List.{List}
use Prim.Native.Nat.{ℕ, ◌+◌, ◌*◌, ◌<◌}
use native.Mathlib.Decide.{ℕ_discrete}
use native.Mathlib.Omega.{arith}
use lib.ListN.{get_or, set, length-set}
use lib.Seq.{get_or-set_same, get_or-set_other}
use Rattle.propagation.proofs.Givens.{blank_sum, blank_sums_ok}
use Rattle.propagation.proofs.close.blank_sums.Invariants.{Filling}
use Rattle.propagation.proofs.close.blank_sums.Goals as goal

fill : (q n : ℕ) (a : List ℕ) (x : ℕ) → n < 4 → q < 81 → x ≡ 81 * n + q → Filling q n a → Filling q (n + 1) (set a x (blank_sum n q))
fill q n a x h b e r =
    let v = blank_sum n q in
    record {
      long = length-set a x v ∙ r.long;
      before = λ i p c d. get_or-set_other a x (81 * i + p) v 0 (λ y. omega (arith, e, y)) ∙ r.before i p c d;
      here = λ i c. elim (ℕ_discrete i n) [
        | yes y ↦ ap (λ j. get_or (set a x v) j 0) (let z : 81 * i + q ≡ x = omega arith in z) ∙ get_or-set_same a x v 0 (omega (arith, e, r.long)) ∙ ap (λ j. blank_sum j q) (sym y)
        | no y ↦ get_or-set_other a x (81 * i + q) v 0 (λ z. y (omega (arith, e, z))) ∙ r.here i (omega arith)
      ];
    }

pub loop-q-preserved : goal.loop-q-preserved
loop-q-preserved c =
    let w = c.loop-q in
    let q = w.q in
    let b = c.loop-q-test.true in
    let r = w.invariant in
    let none : Filling q 0 w.sums = record { long = r.long; before = r.sums; here = λ i h. absurd (omega arith) } in
    let v = fill q 3 _ (243 + q) (omega arith) b (omega arith) (fill q 2 _ (162 + q) (omega arith) b (omega arith) (fill q 1 _ (81 + q) (omega arith) b (omega arith) (fill q 0 w.sums q (omega arith) b (omega arith) none))) in
    record { long = v.long; sums = λ i p h k. elim (ℕ_discrete p q) [ yes e ↦ rw e (v.here i h) | no e ↦ v.before i p h (omega arith) ] }

pub returns : goal.returns
returns c = let w = c.loop-q in blank_sums_ok w.sums w.invariant.long (λ i q h b. w.invariant.sums i q h (omega (arith, c.loop-q-test.false)))
