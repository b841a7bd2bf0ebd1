-- A cell that goes shares a house with that of the digit, so that the digit does not stand in it.
use mathlib.Core.Path.{◌≡◌, sym, subst}
use mathlib.Core.Bool.{not, ◌&&◌, ◌||◌}
use mathlib.Core.List.{List}
use Prim.Native.Nat.{ℕ, ◌/◌, ◌%◌, ◌<◌}
use native.Mathlib.Omega.{arith}
use lib.Dec.{T, eqb, T_not}
use Rattle.grid.proofs.Counting.{all_iff}
use Rattle.grid.proofs.Completion.{eq_iff}
use Rattle.grid.proofs.Table.{and_iff}
use Rattle.std.specs.Int.{bit_at}
use Rattle.boards.proofs.Tests.{by_test}
use Rattle.boards.specs.Tables.{on, share_house, placed_rule}
use Rattle.boards.specs.Boards.{Has, Covers, Fits}
use Rattle.boards.proofs.Bits.{on_both}
use Rattle.boards.proofs.Positions.{same_row, same_column, same_box}
use Rattle.boards.proofs.Writes.{write}
use Rattle.boards.proofs.state.Boards.place.Goals as goal

-- what stays has the cell of the digit, and those where it stands otherwise
stays : (b : List ℕ) (d j i cells : ℕ) → d < 9 → j < 3 → i < 27 → T (placed_rule i cells) → (words : List ℕ) → Fits words b → Has b d j i → Covers b d j cells
stays b d j i cells few band cell t words f here k h y =
    let same : (x y : ℕ) → T (eqb x y) → x ≡ y = λ x y. (eq_iff x y).0 in
    let apart : (i ≡ k → ⊥) → T (share_house i k) → ⊥ = λ n u.
    by_test (eqb (i / 9) (k / 9)) _ u (λ e. n (same_row b f.legal d few j i k band cell h (same _ _ e) here y))
    (λ v. by_test (eqb (i % 9) (k % 9)) _ v (λ e. n (omega (arith, same_column b f.legal d few j j i k band band cell h (same _ _ e) here y)))
    (λ e. n (same_box b f.legal d few j i k band cell h (same _ _ e) here y))) in
    by_test (not (eqb i k) && share_house i k) (on cells k) ((all_iff 27 (λ k. (not (eqb i k) && share_house i k) || on cells k)).0 t k h)
    (λ u. let w = (and_iff (not (eqb i k)) (share_house i k)).0 u in absurd (apart (λ e. T_not (eqb i k) w.0 ((eq_iff i k).1 e)) w.1))
    (λ u. (eq_iff (bit_at cells k) 1).0 u)

pub returns : goal.returns
returns c b f h =
    let p = c.args.p in
    write c.args.self.now.words b p.digit p.band _ (omega arith) p.digit_below p.band_below f
    (λ i k y. on_both _ _ i (f.covered p.digit p.band p.digit_below p.band_below i k y)
    (stays b p.digit p.band p.cell c.placed.result p.digit_below p.band_below p.cell_below
    (subst (λ x. T x) (sym c.placed.ensures) tt) c.args.self.now.words f h i k y))
