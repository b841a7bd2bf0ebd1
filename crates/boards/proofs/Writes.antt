-- A word is written. Where it has all cells of its digit and band, what fits still fits. While a word is spoilt, the others are spoken of alone.
-- Assumes nothing.
use mathlib.Core.Path.{◌≡◌, subst}
use mathlib.Core.List.{List, []}
use Prim.Native.Nat.{ℕ, ◌+◌, ◌*◌, ◌<◌}
use native.Mathlib.Decide.{ℕ_discrete}
use native.Mathlib.Omega.{arith}
use lib.ListN.{length, get_or, set}
use lib.Seq.{get_or-set_same, get_or-set_other}
use Rattle.grid.specs.Completion.{Legal}
use Rattle.boards.specs.Boards.{On, Has, Covers, Fits}

-- b fits those words of which P says so, by digit and band
pub record FitsAt (P : ℕ → ℕ → Type 0) (words b : List ℕ) : Type 0 where
  pub legal : Legal [] b
  pub covered : (d j : ℕ) → d < 9 → j < 3 → P d j → Covers b d j (get_or words (4 * d + j) 0)

-- all but one
abbrev pub But : ℕ → ℕ → ℕ → ℕ → Type 0
But d j e k = e ≡ d → k ≡ j → ⊥

pub some_fit : {P : ℕ → ℕ → Type 0} {words b : List ℕ} → Fits words b → FitsAt P words b
some_fit f = record { legal = f.legal; covered = λ d j h k p. f.covered d j h k }

module _ (words b : List ℕ) (d j x : ℕ) (long : length words ≡ 36) (few : d < 9) (band : j < 3) where
  abbrev written : List ℕ
  written = set words (4 * d + j) x

  write_at : {P Q : ℕ → ℕ → Type 0} → FitsAt P words b → ((e k : ℕ) → Q e k → But d j e k → P e k) → (Q d j → Covers b d j x) → FitsAt Q written b
  write_at {P} {Q} f more here = record { legal = f.legal; covered = λ e k h l q i m y. go e k h l q i m y (ℕ_discrete (4 * e + k) (4 * d + j)) }
    where
      go : (e k : ℕ) → e < 9 → k < 3 → Q e k → (i : ℕ) → i < 27 → Has b e k i → Dec (4 * e + k ≡ 4 * d + j) → On (get_or written (4 * e + k) 0) i
      go e k h l q i m y (yes s) =
          let t : e ≡ d = omega arith in
          let u : k ≡ j = omega arith in
          rw (s, get_or-set_same words (4 * d + j) x 0 (omega arith))
          (here (subst (λ z. Q z j) t (subst (Q e) u q)) i m (subst (λ z. Has b z j i) t (subst (λ z. Has b e z i) u y)))
      go e k h l q i m y (no n) =
          rw (get_or-set_other words (4 * d + j) (4 * e + k) x 0 n)
          (f.covered e k h l (more e k q (λ t u. n (omega (arith, t, u)))) i m y)

  pub write : Fits words b → Covers b d j x → Fits written b
  write f here =
      let g : FitsAt (λ e k. Unit {0}) written b = write_at (some_fit {P = λ e k. Unit {0}} f) (λ e k q n. tt) (λ q. here) in
      record { legal = g.legal; covered = λ e k h l. g.covered e k h l tt }

  -- the spoilt word is written last
  pub write_last : FitsAt (But d j) words b → Covers b d j x → Fits written b
  write_last f here =
      let g : FitsAt (λ e k. Unit {0}) written b = write_at f (λ e k q n. n) (λ q. here) in
      record { legal = g.legal; covered = λ e k h l. g.covered e k h l tt }

  -- another one is written meanwhile
  pub write_other : (e k : ℕ) → FitsAt (But e k) words b → (But e k d j → Covers b d j x) → FitsAt (But e k) written b
  write_other e k f here = write_at f (λ s t q n. q) here
