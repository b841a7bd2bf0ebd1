-- A full grid. Where each house has all nine digits, each stands in it once, since the house has nine cells.
-- Assumes nothing.
use mathlib.Core.Path.{◌≡◌, refl, ap, sym, subst, ◌∙◌}
use mathlib.Core.Logic.{⊎_elim, ◌↔◌}
use mathlib.Core.Bool.{Bool}
use mathlib.Core.List.{List}
use Prim.Native.Nat.{ℕ, ◌+◌, ◌*◌, ◌-◌, ◌%◌, ◌^◌, ◌≤◌, ◌<◌}
use native.Mathlib.Decide.{ℕ_discrete}
use native.Mathlib.Omega.{arith}
use borrow.Author.Tests.{eq-eqb, ne_eqb}
use lib.Dec.{eqb}
use lib.ListN.{length}
use Rattle.std.specs.Prelude.{bit_and, bit_or}
use Rattle.std.proofs.lemmas.Nat.{and_le_r}
use Rattle.std.proofs.lemmas.Nat.Bits.{bit_at_ones, same_from_bits_below}
use Rattle.grid.specs.Counting.{tick, total, tally}
use Rattle.grid.specs.Grid.{byte}
use Rattle.grid.specs.House.{cell_of}
use Rattle.grid.specs.Completion.{times, Legal}
use Rattle.grid.proofs.Counting.{tally_more, tally_most, square_rows}
use Rattle.grid.proofs.Completion.{eq_iff}
use Rattle.boards.specs.Boards.{On}
use Rattle.boards.proofs.Bits.{none_on, on_left, on_right, on_both, of_both, of_either, lone, lone_on}
use Rattle.exploration.specs.Search.{ClosedBefore}

-- at which of k cells, whose bytes f gives, the digit d + 1 stands
abbrev pub stands : (ℕ → ℕ) → ℕ → ℕ → Bool
stands f d k = eqb (f k) (49 + d)

-- of the digits of k cells each has its bit
abbrev pub HasBits : (ℕ → ℕ) → ℕ → ℕ → Type 0
HasBits f k digits = (d : ℕ) → d < 9 → On digits d ↔ (1 ≤ tally k (stands f d))

pub no_bits : (f : ℕ → ℕ) → HasBits f 0 0
unfolding total
no_bits f d few = ((λ y. absurd (none_on d y)), λ l. absurd (omega arith))

pub one_bit : (f : ℕ → ℕ) (k digits : ℕ) → 49 ≤ f k → f k ≤ 57 → HasBits f k digits → HasBits f (k + 1) (bit_or digits (1 * 2 ^ (f k - 49) % 4294967296))
one_bit f k digits low high i d few = go (ℕ_discrete (f k) (49 + d))
  where
    bit : ℕ
    bit = 1 * 2 ^ (f k - 49) % 4294967296

    go : Dec (f k ≡ 49 + d) → On (bit_or digits (1 * 2 ^ (f k - 49) % 4294967296)) d ↔ (1 ≤ tally (k + 1) (stands f d))
    go (yes e) =
        let here : f k - 49 ≡ d = omega arith in (
          (λ y. omega (arith, tally_more k (stands f d), ap tick (eq-eqb (f k) (49 + d) e))),
          λ l. on_right digits (1 * 2 ^ (f k - 49) % 4294967296) d (subst (λ x. On (1 * 2 ^ x % 4294967296) d) (sym here) (lone_on d (omega arith))),
        )
    go (no n) =
        let same : tally (k + 1) (stands f d) ≡ tally k (stands f d) = omega (arith, tally_more k (stands f d), ap tick (ne_eqb (f k) (49 + d) n)) in (
          (λ y. ⊎_elim
              (λ z. omega (arith, same, (i d few).0 z))
              (λ z. absurd (let e = lone (f k - 49) d (omega arith) z in n (omega arith)))
              (of_either digits (1 * 2 ^ (f k - 49) % 4294967296) d y)),
          λ l. on_left digits (1 * 2 ^ (f k - 49) % 4294967296) d ((i d few).1 (omega (arith, same, l))),
        )

-- nine bits are all of them
pub all_bits : (digits : ℕ) → (bit_and digits 511 ≡ 511) ↔ ((d : ℕ) → d < 9 → On digits d)
all_bits digits = (
  (λ e d few. (of_both digits 511 d (subst (λ x. On x d) (sym e) (bit_at_ones 9 d few))).0),
  λ all. same_from_bits_below 9 (bit_and digits 511) 511 (omega (arith, and_le_r digits 511)) (omega arith)
      (λ d few. on_both digits 511 d (all d few) (bit_at_ones 9 d few) ∙ sym (bit_at_ones 9 d few)),
)

-- where each house has all digits, a full grid is a legal completion
module _ (g : List ℕ) (long : length g ≡ 81) (full : ClosedBefore g 81) where
  once : (h : ℕ) → ((d : ℕ) → d < 9 → 1 ≤ times g h d) → (d : ℕ) → d < 9 → times g h d ≡ 1
  unfolding times
  once h all =
      square_rows 9 (λ d k. stands (λ k. byte g (cell_of h k)) d k) all
      (λ k few. tally_most (λ d. stands (λ k. byte g (cell_of h k)) d k) 9
      (λ d e l m t u. let p = (eq_iff _ (49 + d)).0 t in let q = (eq_iff _ (49 + e)).0 u in omega arith))

  pub solved_iff : ((h d : ℕ) → h < 27 → d < 9 → 1 ≤ times g h d) ↔ Legal g g
  solved_iff = (
    (λ all. record { long = long; digits = full; keeps = λ c h t. refl; once = λ h d u few. once h (λ d few. all h d u few) d few }),
    λ l h d u few. omega (arith, l.once h d u few),
  )
