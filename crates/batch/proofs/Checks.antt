-- Where the checks of a batch accept, each of their tests passes, so that what is lent is as long as it must be. Each grid of the batch is 81 of its
-- bytes, all of which have a meaning, so that the keyer's check accepts it too.
-- Assumes nothing.
use mathlib.Core.Path.{◌≡◌, refl, sym, subst, ◌∙◌}
use mathlib.Core.Bool.{Bool, true, false, ◌&&◌}
use mathlib.Core.List.{List}
use Prim.Native.Nat.{ℕ, ◌+◌, ◌*◌, ◌≤◌, ◌<◌, ◌%◌}
use native.Mathlib.Omega.{arith}
use borrow.Author.Tests.{eqb-true, eq-eqb}
use lib.Dec.{T, eqb, leb, eqb→eq, leb→le}
use lib.ListN.{length, drop, get_or, length-take, length-drop}
use lib.Seq.{get_or-take, get_or-drop}
use Rattle.grid.specs.Grid.{has_meaning}
use Rattle.std.specs.Prelude.{Ok}
use Rattle.grid.specs.Refusals.{bytes_check, grid_check}
use Rattle.grid.proofs.Completion.{not_accepted, bytes_iff}
use Rattle.grid.proofs.Table.{and_iff}
use Rattle.batch.specs.Call.{is_batch, grids_in, lent_check, grid_at}
use Rattle.batch.specs.Parts.{Lent}

-- the bytes of a batch
pub record Bytes (b : ℕ) : Type 0 where
  pub some : 81 ≤ b
  pub few : b ≤ 5184
  pub step : b % 81 ≡ 0

pub batch_bytes : (b : ℕ) → is_batch b ≡ true → Bytes b
unfolding is_batch
batch_bytes b e =
    let i = and_iff (leb 81 b) (leb b 5184) in
    let t = (and_iff (leb 81 b && leb b 5184) (eqb (b % 81) 0)).0 (subst T (sym e) tt) in
    record { some = leb→le 81 b (i.0 t.0).0; few = leb→le b 5184 (i.0 t.0).1; step = eqb→eq (b % 81) 0 t.1 }

pub lent_accepted : (b m n : ℕ) → Ok tt ≡ lent_check b m n → Lent b m n
unfolding lent_check
lent_accepted b m n s = go (is_batch b) (eqb m (729 * grids_in b)) (eqb n (2 * grids_in b)) refl refl refl
  where
    e : lent_check b m n ≡ Ok tt
    e = sym s

    go : (x y z : Bool) → is_batch b ≡ x → eqb m (729 * grids_in b) ≡ y → eqb n (2 * grids_in b) ≡ z → Lent b m n
    go false false false p q r = absurd (not_accepted _ (simp (p, q, r) at e))
    go false false true p q r = absurd (not_accepted _ (simp (p, q, r) at e))
    go false true false p q r = absurd (not_accepted _ (simp (p, q, r) at e))
    go false true true p q r = absurd (not_accepted _ (simp (p, q, r) at e))
    go true false false p q r = absurd (not_accepted _ (simp (p, q, r) at e))
    go true false true p q r = absurd (not_accepted _ (simp (p, q, r) at e))
    go true true false p q r = absurd (not_accepted _ (simp (p, q, r) at e))
    go true true true p q r =
        let h = batch_bytes b p in
        record { few = h.few; whole = omega (arith, h.step); marks_long = eqb-true m (729 * grids_in b) q; numbers_long = eqb-true n (2 * grids_in b) r }

-- each grid of the batch is accepted
pub grid_accepted : (g : List ℕ) → bytes_check g ≡ Ok tt → (i : ℕ) → 81 * i + 81 ≤ length g → grid_check (grid_at g i) ≡ Ok tt
unfolding grid_check
grid_accepted g e i h =
    let p = grid_at g i in
    let long : length p ≡ 81 = simp (length-take, length-drop) (omega arith) in
    let means : (k : ℕ) → k < length p → T (has_meaning (get_or p k 0)) = λ k b.
    subst (λ x. T (has_meaning x)) (sym (get_or-take 81 (drop (81 * i) g) k 0 (omega arith) ∙ get_or-drop (81 * i) g k 0))
    ((bytes_iff g).0 e (81 * i + k) (omega arith)) in
    rw (eq-eqb (length p) 81 long) ((bytes_iff p).1 means)
