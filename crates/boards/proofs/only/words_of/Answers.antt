-- A digit adds the bit of its cell to its own word.
use mathlib.Core.Path.{◌≡◌, refl, sym, subst, ◌∙◌}
use mathlib.Core.Logic.{⊎_elim}
use mathlib.Core.List.{List}
use Prim.Native.Nat.{ℕ, ◌+◌, ◌*◌, ◌-◌, ◌/◌, ◌%◌, ◌^◌, ◌≤◌, ◌<◌}
use native.Mathlib.Decide.{ℕ_discrete}
use native.Mathlib.Omega.{arith}
use lib.Dec.{T}
use lib.ListN.{length, get_or, get_or-replicate, set, length-set}
use lib.Seq.{get_or-set_same, get_or-set_other}
use Rattle.std.specs.Prelude.{bit_or}
use Rattle.grid.specs.Grid.{byte, is_digit}
use Rattle.grid.proofs.Completion.{digit_iff}
use Rattle.boards.specs.Boards.{On, Has}
use Rattle.boards.proofs.Tests.{holds}
use Rattle.boards.proofs.Bits.{none_on, of_either, lone}
use Rattle.boards.proofs.only.words_of.Goals.{then-is_digit, else-is_digit}
use Rattle.boards.proofs.only.words_of.Goals as goal

-- the words have no cells but those of g's digits
abbrev Within : List ℕ → List ℕ → Type 0
Within g words = (d j i : ℕ) → d < 9 → j < 3 → i < 27 → On (get_or words (4 * d + j) 0) i → Has g d j i

module _ (g words : List ℕ) (c : ℕ) (long : length words ≡ 36) (below : c < 81) (low : 49 ≤ byte g c) (high : byte g c ≤ 57) where
  abbrev k : ℕ
  k = 4 * (byte g c - 49) + c / 27

  abbrev bit : ℕ
  bit = 1 * 2 ^ (c % 27) % 4294967296

  one_more : Within g words → Within g (set words k (bit_or (get_or words k 0) bit))
  one_more w d j i few band cell y = go (ℕ_discrete (4 * d + j) k)
    where
      go : Dec (4 * d + j ≡ k) → Has g d j i
      go (no n) = w d j i few band cell (subst (λ x. On x i) (get_or-set_other words k (4 * d + j) _ 0 n) y)
      go (yes e) =
          let z =
          subst (λ x. On x i) (get_or-set_same words k _ 0 (omega arith)) (subst (λ m. On (get_or (set words k (bit_or (get_or words k 0) bit)) m 0) i) e y) in
          ⊎_elim
          (λ old. w d j i few band cell (subst (λ m. On (get_or words m 0) i) (sym e) old))
          (λ one.
          let s : i ≡ c % 27 = lone (c % 27) i (omega arith) one in
          let t : 27 * j + i ≡ c = omega arith in
          let u : byte g c ≡ 49 + d = omega arith in
          subst (λ m. byte g m ≡ 49 + d) (sym t) u)
          (of_either (get_or words k 0) bit i z)

pub loop-cell-init : goal.loop-cell-init
loop-cell-init c = (refl, λ d j i few band cell y. absurd (none_on i (subst (λ x. On x i) (get_or-replicate 36 (4 * d + j) 0 0 (omega arith)) y)))

bounds : (b : ℕ) → T (is_digit b) → (49 ≤ b) × (b ≤ 57)
bounds b t = (digit_iff b).0 t

pub overflow_sub-d : goal.overflow_sub-d
overflow_sub-d c = (bounds _ (holds (sym c.is_digit.ensures ∙ c.if-is_digit.true))).0

pub bounds-words-d : goal.bounds-words-d
bounds-words-d c = omega (arith, bounds _ (holds (sym c.is_digit.ensures ∙ c.if-is_digit.true)))

pub bounds-words-d-then-is_digit : goal.bounds-words-d-then-is_digit
bounds-words-d-then-is_digit c = omega (arith, bounds _ (holds (sym c.is_digit.ensures ∙ c.if-is_digit.true)))

pub loop-cell-preserved : goal.loop-cell-preserved
loop-cell-preserved c = elim c.if-is_digit.branch [
  | then-is_digit w ↦ (
      let t = bounds _ (holds (sym c.is_digit.ensures ∙ w.if-is_digit.true)) in
      let i = c.loop-cell.invariant in
      rw w.words-is (simp length-set i.0, one_more c.args.grid.now c.loop-cell.words c.loop-cell.cell i.0 c.loop-cell-test.true t.0 t.1 i.1)
      )
  | else-is_digit w ↦ rw w.words-is c.loop-cell.invariant
]
