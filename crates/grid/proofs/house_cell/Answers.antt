-- The table lists the cells that `cell_of` gives, row by row: both are computed.
use mathlib.Core.Path.{◌≡◌, ap, sym, ◌∙◌}
use mathlib.Core.List.{List, [], ◌∷◌}
use Prim.Native.Nat.{ℕ, zero, suc, ◌+◌, ◌<◌}
use native.Mathlib.Nat.{add-zero, zero-add, add-suc, suc-add, le_of_suc-le-suc, not-suc-le-zero}
use borrow.Author.Rules.{rules}
use lib.ListN.{get_or}
use Rattle.grid.specs.House.{cell_of}
use Rattle.grid.proofs.house_cell.Goals as goal

module _ {A : Type 0} (f : ℕ → A) where
  -- what f gives for n numbers from i on
  abbrev listed : ℕ → ℕ → List A
  listed i zero = []
  listed i (suc n) = f i ∷ listed (suc i) n

  listed_at : (d : A) (i n k : ℕ) → k < n → get_or (listed i n) k d ≡ f (i + k)
  listed_at d i zero k h = absurd (not-suc-le-zero h)
  listed_at d i (suc n) zero h = ap f (sym (add-zero i))
  listed_at d i (suc n) (suc k) h = listed_at d (suc i) n k (le_of_suc-le-suc h) ∙ ap f (suc-add i k ∙ sym (add-suc i k))

houses : List (List ℕ)
houses = listed (λ h. listed (cell_of h) 0 9) 0 27

holds : (h k : ℕ) → h < 27 → k < 9 → get_or (get_or houses h []) k 0 ≡ cell_of h k
unfolding houses
holds h k i j =
    ap (λ row. get_or row k 0) (listed_at (λ h. listed (cell_of h) 0 9) [] 0 27 h i ∙ ap (λ h. listed (cell_of h) 0 9) (zero-add h))
    ∙ listed_at (cell_of h) 0 0 9 k j ∙ ap (cell_of h) (zero-add k)

pub returns : goal.returns
unfolding houses cell_of
returns c = holds c.args.house c.args.k (search rules) (search rules)
