-- A call by its checks: where one refuses, the call gives its refusal; where it accepts, what comes after it. So what is said of a call is shown for
-- a refusal, and for what comes after the checks; and the call is refused by the first broken rule, if each check is by the first of its own.
-- Assumes nothing.
use mathlib.Core.Path.{◌≡◌, refl, sym, ◌∙◌}
use mathlib.Core.Bool.{Bool, true, false, cond}
use mathlib.Core.List.{List, [], ◌∷◌, ◌++◌}
use Prim.Native.Nat.{ℕ}
use native.Mathlib.Omega.{arith}
use lib.Dec.{eqb}
use lib.ListN.{length}
use Rattle.std.specs.Prelude.{Option, None, Some, Result, Ok, Err, IsOk, IsErr}
use Rattle.std.specs.Result.{result_err}
use Rattle.std.specs.Option.{option_map}
use Rattle.grid.specs.Completion.{is_legal, completion_call}
use Rattle.grid.specs.Refusals.{rule, first_broken, on_accepted, refuse_at, first_bad, bytes_rule, grid_rules, bytes_check, grid_check}
use Rattle.grid.specs.declared.Refusal.{Refusal}
use Rattle.grid.specs.declared.Refusal.TheVariants.{GridLength, GridByte}

-- a call is not refused and accepted
pub not_both : {A : Type 0} (r : Result A Refusal) → IsErr r → IsOk r → ⊥
not_both (Ok a) e o = let z : false ≡ true = e in cc
not_both (Err f) e o = let z : false ≡ true = o in cc

-- nor is an answer a refusal, and answers that are the same say the same
pub no_answer : {A P : Type 0} {f : Refusal} {a : A} → ◌≡◌ {A = Result A Refusal} (Err f) (Ok a) → P
no_answer e = absurd (let z : ◌≡◌ {A = ℕ} 0 1 = cc in omega arith)

pub same_answer : {A : Type 0} {a b : A} → ◌≡◌ {A = Result A Refusal} (Ok a) (Ok b) → a ≡ b
same_answer e = cc

-- rules of which none is broken are passed over,
broken_after : (xs ys : List (Option Refusal)) → first_broken xs ≡ None → first_broken (xs ++ ys) ≡ first_broken ys
broken_after [] ys e = refl
broken_after (None ∷ xs) ys e = broken_after xs ys e
broken_after (Some f ∷ xs) ys e = absurd (some_not e)
  where
    some_not : ◌≡◌ {A = Option Refusal} (Some f) None → ⊥
    some_not q = let z : ◌≡◌ {A = ℕ} 0 1 = cc in omega arith

-- and one that is broken stays the first
broken_before : (xs ys : List (Option Refusal)) (f : Refusal) → first_broken xs ≡ Some f → first_broken (xs ++ ys) ≡ Some f
broken_before [] ys f e = absurd (let z : ◌≡◌ {A = ℕ} 0 1 = cc in omega arith)
broken_before (None ∷ xs) ys f e = broken_before xs ys f e
broken_before (Some g ∷ xs) ys f e = e

module _ {G : Type 0} (refused : Refusal → G) where
  -- P holds of what a call gives, if it holds of a refusal, and of what comes after the checks where they accept
  module _ (P : G → Type 0) (refuses : (f : Refusal) → P (refused f)) where
    pub tested : (x : Bool) (f : Refusal) (k : G) → (x ≡ true → P k) → P (cond x k (refused f))
    tested true f k next = next refl
    tested false f k next = refuses f

    pub checked : {A : Type 0} (x : Result A Refusal) (k : A → G) → ((a : A) → x ≡ Ok a → P (k a)) → P (on_accepted x refused k)
    checked (Ok a) k next = next a refl
    checked (Err f) k next = refuses f

  -- what a call gives tells its refusal
  module _ (told : G → Option Refusal) (tells : (f : Refusal) → told (refused f) ≡ Some f) where
    -- after a test comes its rule,
    pub tested_first : (x : Bool) (f : Refusal) (k : G) (ys : List (Option Refusal)) → (x ≡ true → told k ≡ first_broken ys)
        → told (cond x k (refused f)) ≡ first_broken (rule x f ∷ ys)
    tested_first true f k ys next = next refl
    tested_first false f k ys next = tells f

    -- and after a check its rules
    pub checked_first : {A : Type 0} (x : Result A Refusal) (k : A → G) (xs ys : List (Option Refusal)) → result_err x ≡ first_broken xs
        → ((a : A) → x ≡ Ok a → told (k a) ≡ first_broken ys) → told (on_accepted x refused k) ≡ first_broken (xs ++ ys)
    checked_first (Ok a) k xs ys e next = next a refl ∙ sym (broken_after xs ys (sym e))
    checked_first (Err f) k xs ys e next = tells f ∙ sym (broken_before xs ys f (sym e))

    -- where it is the last, those are all
    pub last_first : {A : Type 0} (x : Result A Refusal) (k : A → G) (xs : List (Option Refusal)) → result_err x ≡ first_broken xs
        → ((a : A) → x ≡ Ok a → told (k a) ≡ None) → told (on_accepted x refused k) ≡ first_broken xs
    last_first (Ok a) k xs e next = next a refl ∙ e
    last_first (Err f) k xs e next = tells f ∙ e

-- the keyer's checks
pub bytes_broken : (bytes : List ℕ) → result_err (bytes_check bytes) ≡ bytes_rule bytes
unfolding bytes_check
bytes_broken bytes = go (first_bad bytes)
  where
    go : (o : Option ℕ) → result_err (refuse_at GridByte o) ≡ option_map GridByte o
    go None = refl
    go (Some p) = refl

pub grid_broken : (g : List ℕ) → result_err (grid_check g) ≡ first_broken (grid_rules g)
unfolding grid_check grid_rules
grid_broken g = tested_first Err (λ r. result_err r) (λ f. refl) (eqb (length g) 81) GridLength (bytes_check g) (bytes_rule g ∷ []) (λ long. bytes_broken g ∙ only (bytes_rule g))
  where
    only : (o : Option Refusal) → o ≡ first_broken (o ∷ [])
    only None = refl
    only (Some f) = refl

pub completion_broken : (g b : List ℕ) → result_err (completion_call g b) ≡ first_broken (grid_rules g)
unfolding completion_call
completion_broken g b = go (grid_check g) (grid_broken g)
  where
    go : (x : Result (Unit {0}) Refusal) → result_err x ≡ first_broken (grid_rules g) → result_err (on_accepted x Err (λ u. Ok (is_legal g b))) ≡ first_broken (grid_rules g)
    go (Ok u) e = e
    go (Err f) e = e
