-- Literals as the code makes and reads them: 16-bit signed numbers, whose bits give back the number where it fits, and both literals of a place below
-- 729 fit. That the test of a literal decides what one is, and that its negation is one, is shown sign by sign.
-- Assumes nothing.
use mathlib.Core.Path.{◌≡◌, refl, sym, ap, ◌∙◌}
use mathlib.Core.Logic.{◌↔◌}
use mathlib.Core.Bool.{Bool, ◌&&◌}
use Prim.Native.Nat.{ℕ, zero, suc, ◌^◌, ◌<◌}
use native.Mathlib.Omega.{arith}
use lib.Dec.{T, leb, leb→le, le→leb}
use lib.IntN.{ℤ, pos, negsuc, nat_abs, neg_ℤ, ◌-ℤ◌, +ℤ_idl}
use lib.Signed.{mag}
use mir.Syntax.{w16}
use mir.Val.{SFits, hbits, to_z, of_z}
use mir.ValLaws.{to_z_pos, to_z-of_z}
use Rattle.grid.proofs.Table.{and_iff}
use Rattle.clauses.specs.Literal.{Literal, is_literal, mark_index}

-- a number as it is read back from its bits
pub read : (l : ℤ) → SFits w16 l → to_z w16 (of_z w16 l) ≡ l
read l fits = to_z-of_z w16 l fits

-- what a call returned, read back
pub returned : (l : ℤ) → mag l < 2 ^ hbits w16 → to_z w16 (of_z w16 l) ≡ l
returned l h = read l (record { sfits = h })

-- a test of a number's bits is a test of the number
pub test_of : (f : ℤ → Bool) (b : Bool) (l : ℤ) → SFits w16 l → f (to_z w16 (of_z w16 l)) ≡ b → f l ≡ b
test_of f b l fits e = ap f (sym (read l fits)) ∙ e

module _ (k : ℕ) (h : k < 729) where
  -- a place, read back from its bits
  pub place_is : to_z w16 k ≡ pos k
  place_is = to_z_pos w16 k (omega arith)

  -- -1 - k is the negative literal at place k
  pub negative_is : negsuc 0 -ℤ to_z w16 k ≡ negsuc k
  negative_is = ap (λ z. negsuc 0 -ℤ z) place_is ∙ below k
    where
      below : (k : ℕ) → negsuc 0 -ℤ pos k ≡ negsuc k
      below zero = refl
      below (suc k) = ap negsuc (omega arith)

  positive_fits : SFits w16 (pos (suc k))
  positive_fits = record { sfits = omega arith }

  pub negative_fits : SFits w16 (negsuc k)
  negative_fits = record { sfits = omega arith }

-- the code's negation
pub zero_less : (l : ℤ) → pos 0 -ℤ l ≡ neg_ℤ l
zero_less l = +ℤ_idl (neg_ℤ l)

within : (k : ℕ) → T (leb 1 (suc k) && leb (suc k) 729) ↔ (k < 729)
within k =
    let i = and_iff (leb 1 (suc k)) (leb (suc k) 729) in
    ((λ t. leb→le (suc k) 729 (i.0 t).1), λ h. i.1 (le→leb 1 (suc k) (omega arith), le→leb (suc k) 729 h))

-- the test of a literal decides what one is
pub literal_iff : (l : ℤ) → T (is_literal l) ↔ Literal l
unfolding is_literal
literal_iff (pos zero) = ((λ t. t), λ h. absurd h)
literal_iff (pos (suc k)) = within k
literal_iff (negsuc k) = within k

pub negation_fits : (l : ℤ) → Literal l → SFits w16 (neg_ℤ l)
negation_fits (pos zero) h = absurd h
negation_fits (pos (suc k)) h = negative_fits k h
negation_fits (negsuc k) h = positive_fits k h

-- the range facts of a literal: its negation is one, of the same magnitude, and its mark's place is below 729
pub negation_literal : (l : ℤ) → Literal l → Literal (neg_ℤ l) × (nat_abs (neg_ℤ l) ≡ nat_abs l)
negation_literal (pos zero) h = absurd h
negation_literal (pos (suc k)) h = (h, refl)
negation_literal (negsuc k) h = (h, refl)

pub mark_below : (l : ℤ) → Literal l → mark_index l < 729
mark_below (pos zero) h = absurd h
mark_below (pos (suc k)) h = omega arith
mark_below (negsuc k) h = omega arith
