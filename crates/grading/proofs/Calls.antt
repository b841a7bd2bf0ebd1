-- The grading call by its checks: it is refused by the first broken rule and then leaves the buffer, and else says what a grading says.
-- Assumes nothing.
use mathlib.Core.Path.{◌≡◌, refl, ap, sym, subst, ◌∙◌}
use mathlib.Core.List.{List, [], ◌∷◌}
use Prim.Native.Nat.{ℕ}
use lib.Dec.{eqb}
use lib.IntN.{ℤ}
use lib.ListN.{length}
use Rattle.std.specs.Prelude.{Option, None, Result, Ok, OnErr}
use Rattle.std.specs.Result.{result_err}
use Rattle.grid.specs.Refusals.{first_broken, grid_rules, grid_check}
use Rattle.grid.specs.declared.Refusal.{Refusal}
use Rattle.grid.specs.declared.Refusal.TheVariants.{BufferLength}
use Rattle.grid.proofs.Checks.{tested, checked, tested_first, checked_first, last_first, no_answer, grid_broken}
use Rattle.orders.specs.Order.{order_rules, order_check}
use Rattle.orders.proofs.Rules.{order_broken}
use Rattle.completions.specs.Completions.{completions}
use Rattle.grading.specs.Grade.{Given, refused, ladder, rate_from, grade_by, grade_of, grade_rules, grade_call}
use Rattle.grading.specs.declared.Rating.{Rating}
use Rattle.grading.proofs.Says.{Answers, says}

-- a grading that is not refused gives no refusal
none_refused : (g : List ℕ) (o : List ℤ) (c : ℕ) → result_err (grade_of g o c).0 ≡ None
unfolding grade_of
none_refused g o c = go (completions g)
  where
    go : (bs : List (List ℕ)) → result_err (grade_by bs (λ u. rate_from g o c ladder 0)).0 ≡ None
    go [] = refl
    go (b ∷ []) = refl
    go (a ∷ b ∷ bs) = refl

module _ (g : List ℕ) (o : List ℤ) (c : ℕ) (b : List ℕ) where
  abbrev told : Given → Option Refusal
  told y = result_err y.0

  pub grade_broken : result_err (grade_call g o c b).0 ≡ first_broken (grade_rules g o b)
  unfolding grade_call grade_rules
  grade_broken =
      tested_first (refused b) told (λ f. refl) (eqb (length b) 81) BufferLength _ _ λ long.
      checked_first (refused b) told (λ f. refl) (grid_check g) _ (grid_rules g) _ (grid_broken g) λ u grid.
      last_first (refused b) told (λ f. refl) (order_check o) _ (order_rules o) (order_broken o) λ v order. none_refused g o c

  -- what holds of a refusal and of what a grading gives back holds of the call
  by_checks : (P : Given → Type 0) → ((f : Refusal) → P (refused b f)) → (order_check o ≡ Ok tt → P (grade_of g o c)) → P (grade_call g o c b)
  unfolding grade_call
  by_checks P refuses gives =
      tested (refused b) P refuses (eqb (length b) 81) BufferLength _ λ long.
      checked (refused b) P refuses (grid_check g) _ λ u grid.
      checked (refused b) P refuses (order_check o) _ λ v order. gives order

  -- the buffer stays
  abbrev pub Stays : Given → Type 0
  Stays y = OnErr y.0 (y.1 ≡ b)

  grade_stays : Stays (grade_call g o c b)
  unfolding grade_of
  grade_stays = by_checks Stays (λ f. refl) (λ order. by_list (completions g))
    where
      by_list : (bs : List (List ℕ)) → Stays (grade_by bs (λ u. rate_from g o c ladder 0))
      by_list [] = tt
      by_list (x ∷ []) = tt
      by_list (x ∷ y ∷ bs) = tt

  pub grade_answers : Answers g o c (grade_call g o c b)
  grade_answers = by_checks (Answers g o c) (λ f. tt) (says g o c)

  -- so of what gives back what the call does
  module _ (r : Result Rating Refusal) (b' : List ℕ) (e : (r, b') ≡ grade_call g o c b) where
    pub refused_so : result_err r ≡ first_broken (grade_rules g o b)
    refused_so = ap told e ∙ grade_broken

    pub stays_so : Stays (r, b')
    stays_so = subst Stays (sym e) grade_stays

    pub answers_so : Answers g o c (r, b')
    answers_so = subst (Answers g o c) (sym e) grade_answers

  -- a call that is not refused has graded the grid
  pub call_graded : (r : Rating) (b' : List ℕ) → grade_call g o c b ≡ (Ok r, b') → (order_check o ≡ Ok tt) × (grade_of g o c ≡ (Ok r, b'))
  call_graded r b' = by_checks (λ y. y ≡ (Ok r, b') → (order_check o ≡ Ok tt) × (grade_of g o c ≡ (Ok r, b'))) (λ f q. no_answer (ap (λ y. y.0) q)) (λ order q. (order, q))
