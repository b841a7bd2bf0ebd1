-- No line of a listing has verdict 6. The byte after the line's number and a blank is `R` or the digit of the verdict, and under the default
-- ceiling no grading has verdict 6.
-- Assumes nothing.
use mathlib.Core.Path.{◌≡◌, refl, ap, sym, ◌∙◌}
use mathlib.Core.List.{List, ◌∷◌, ◌++◌, append_assoc, append_cancel_left}
use Prim.Native.Nat.{ℕ, ◌+◌, ◌≤◌}
use native.Mathlib.Omega.{arith}
use lib.ListN.{get_or}
use Rattle.std.specs.Prelude.{Ok, Err}
use Rattle.grid.specs.Refusals as refusals
use Rattle.grid.specs.declared.Refusal.{Refusal}
use Rattle.orders.specs.Order.{default_order, default_ceiling}
use Rattle.exploration.specs.Search.{zeros}
use Rattle.grading.specs.Grade.{number_of, rating, Given, grade_call}
use Rattle.grading.specs.declared.Rating.{Rating}
use Rattle.grading.specs.declared.Verdict.{Verdict}
use Rattle.grading.specs.declared.Verdict.TheVariants.{NoCompletion, Finished, Unfinished, Stopped, SeveralCompletions}
use Rattle.grading.proofs.Says.{number_range, Answers}
use Rattle.grading.proofs.Calls.{grade_answers}
use Rattle.listing.specs.Listing.{field, shown, listed, NoSix}
use Rattle.std.proofs.lemmas.Fmt.{decimal_digit}

-- a verdict has one digit
one_digit : (v : Verdict) → number_of v ≤ 7
one_digit NoCompletion = omega arith
one_digit (Finished t) = omega (arith, number_range t)
one_digit Unfinished = omega arith
one_digit Stopped = omega arith
one_digit SeveralCompletions = omega arith

-- a line from its verdict on
shown_rating : (n : ℕ) (r : Rating) → shown n (Ok r) ≡ field n 32 ++ ((48 + number_of r.verdict) ∷ 32 ∷ field r.trials 10)
unfolding shown field
shown_rating n r = rw (decimal_digit (number_of r.verdict) (omega (arith, one_digit r.verdict))) (simp append_assoc)

-- and from its letter on
shown_refusal : (n : ℕ) (r : Refusal) → shown n (Err r) ≡ field n 32 ++ (82 ∷ 32 ∷ field (refusals.number_of r) 10)
unfolding shown
shown_refusal n r = simp append_assoc

-- of two lines with the same number the bytes after it are the same
same_byte : (before bs cs : List ℕ) (b c : ℕ) → before ++ (b ∷ bs) ≡ before ++ (c ∷ cs) → b ≡ c
same_byte before bs cs b c e = ap (λ l. get_or l 0 0) (append_cancel_left before (b ∷ bs) (c ∷ cs) e)

pub no_six : NoSix
unfolding listed
no_six n line trials = go (grade_call line default_order default_ceiling zeros) refl (grade_answers line default_order default_ceiling zeros)
  where
    byte_is : (s bs : List ℕ) (b : ℕ) → s ≡ field n 32 ++ (b ∷ bs) → s ≡ shown n (Ok (rating Stopped trials)) → b ≡ 54
    byte_is s bs b p e = same_byte (field n 32) bs (32 ∷ field trials 10) b 54 (sym p ∙ e ∙ shown_rating n (rating Stopped trials))

    go : (x : Given) → grade_call line default_order default_ceiling zeros ≡ x → Answers line default_order default_ceiling x → shown n x.0 ≡ shown n (Ok (rating Stopped trials)) → ⊥
    go (Err r, a) q w e = absurd (omega (arith, byte_is _ _ _ (shown_refusal n r) e))
    go (Ok r, a) q w e = w.total.enough (omega arith) (omega (arith, byte_is _ _ _ (shown_rating n r) e))
