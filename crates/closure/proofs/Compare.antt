-- The ends of two jobs compared. An end that was not stopped says what the closure is, and every end lies within it; so with stronger rules
-- and more givens the closure grows, and the marks with it, whatever the orders and ceilings.
-- Assumes nothing.
use mathlib.Core.Path.{◌≡◌, refl}
use mathlib.Core.Logic.{◌⊎◌, inl, inr, ◌↔◌}
use native.Mathlib.Decide.{ℕ_discrete}
use native.Mathlib.Omega.{arith}
use lib.Dec.{T}
use lib.IntN.{ℤ}
use Rattle.closure.specs.Sets.{LiteralSet, Within, Least}
use Rattle.closure.specs.Closure.{Contradiction}
use Rattle.closure.specs.Marks.{has}
use Rattle.closure.specs.Job.{End, solved, opened, stopped, contradiction, EndOk, marks_of, outcome_of}
use Rattle.closure.proofs.Sets.{least_mono, least_iff}
use Rattle.closure.proofs.Closure.{contradiction_mono}
use Rattle.closure.proofs.Marks.{has_blank}
use Rattle.closure.proofs.Propagation.{no_clash}

module _ (R : LiteralSet → Type 0) (G : ℤ → Type 0) where
  -- the marks of any end lie within the closure
  pub end_within : (e : End) → EndOk R G e → Within (has (marks_of e)) (Least R G)
  end_within (solved m n) k = k.0.within
  end_within (opened m n) k = k.0.within
  end_within (stopped m n) k = k.0
  end_within (contradiction n) k = λ l t. absurd (has_blank l t)

  -- an end that was not stopped is a contradiction exactly if the closure is one,
  pub end_contradiction : (e : End) → EndOk R G e → (outcome_of e ≡ 3 → ⊥) → (outcome_of e ≡ 4) ↔ Contradiction (Least R G)
  end_contradiction (solved m n) k whole = ((λ q. absurd (omega arith)), λ c. absurd (no_clash m k.0 c))
  end_contradiction (opened m n) k whole = ((λ q. absurd (omega arith)), λ c. absurd (no_clash m k.0 c))
  end_contradiction (stopped m n) k whole = absurd (whole refl)
  end_contradiction (contradiction n) k whole = ((λ q. k), λ c. refl)

  -- and has marked just the closure otherwise
  pub end_closure : (e : End) → EndOk R G e → (outcome_of e ≡ 3 → ⊥) → (outcome_of e ≡ 4 → ⊥) → (l : ℤ) → T (has (marks_of e) l) ↔ Least R G l
  end_closure (solved m n) k whole fine = least_iff k.0
  end_closure (opened m n) k whole fine = least_iff k.0
  end_closure (stopped m n) k whole fine = absurd (whole refl)
  end_closure (contradiction n) k whole fine = absurd (fine refl)

-- the second job has stronger rules and the first one's givens, and was not stopped
module _ (R R' : LiteralSet → Type 0) (G G' : ℤ → Type 0) (rules : (S : LiteralSet) → R' S → R S) (givens : (l : ℤ) → G l → G' l)
    (e e' : End) (k : EndOk R G e) (k' : EndOk R' G' e') (whole : outcome_of e' ≡ 3 → ⊥) where
  -- it ends with a contradiction, or marks what the first has marked
  pub marks_carry : (outcome_of e' ≡ 4) ⊎ ((l : ℤ) → T (has (marks_of e) l) → T (has (marks_of e') l))
  marks_carry = elim (ℕ_discrete (outcome_of e') 4) [
    | yes q ↦ inl q
    | no n ↦ inr (λ l t. (end_closure R' G' e' k' whole n l).1 (least_mono rules givens l (end_within R G e k l t)))
  ]

  -- and ends with a contradiction where the first does
  pub contradiction_carries : outcome_of e ≡ 4 → outcome_of e' ≡ 4
  contradiction_carries q =
      (end_contradiction R' G' e' k' whole).1 (contradiction_mono (least_mono rules givens) ((end_contradiction R G e k (λ p. omega arith)).0 q))
