-- The clause call by its checks: it is refused by the first broken rule and then leaves what was lent, and else gives the clause, whose shape tells its length.
-- Assumes nothing.
use mathlib.Core.Path.{◌≡◌, refl, ap, sym, subst, ◌∙◌}
use mathlib.Core.Logic.{◌⊎◌, inl, inr}
use mathlib.Core.List.{List, [], ◌∷◌}
use Prim.Native.Nat.{ℕ, zero, suc, ◌<◌}
use native.Mathlib.Omega.{arith}
use lib.Dec.{eqb, ltb}
use lib.IntN.{ℤ}
use lib.ListN.{length, get_or}
use lib.Seq.{take-append_seam, drop-append_seam}
use borrow.Author.Tests.{ne_eqb, ltb-true}
use Rattle.std.specs.Prelude.{Option, Result, Ok, Err, OnErr, IfOk}
use Rattle.std.specs.Result.{result_err}
use Rattle.grid.specs.Refusals.{first_broken}
use Rattle.grid.specs.declared.Refusal.{Refusal}
use Rattle.grid.specs.declared.Refusal.TheVariants as refusal
use Rattle.grid.proofs.Checks.{tested, checked, tested_first, checked_first}
use Rattle.clauses.specs.Clauses.{clauses_of}
use Rattle.clauses.specs.Shape.{clause_of, shape_of}
use Rattle.clauses.specs.Call.{padded, numbered_set, set_rule, clause_rules, GivesClause, Given, refused, clause_given, set_of, clause_call}
use Rattle.clauses.specs.declared.ClauseSet.{ClauseSet}
use Rattle.clauses.specs.declared.ClauseSet.TheVariants.{Minimal, Extended}
use Rattle.clauses.specs.declared.Shape.{Shape}
use Rattle.clauses.specs.declared.Shape.TheVariants.{OneOf, NotBoth}
use Rattle.clauses.proofs.Members.{shape_numbers}

-- the set of a number, if it is 1 or 2
pub set_broken : (n : ℕ) → result_err (set_of n) ≡ first_broken (set_rule n ∷ [])
set_broken zero = refl
set_broken (suc zero) = refl
set_broken (suc (suc zero)) = refl
set_broken (suc (suc (suc k))) = let n = suc (suc (suc k)) in rw (ne_eqb n 1 (omega arith), ne_eqb n 2 (omega arith)) refl

not_accepted : {A : Type 0} {f : Refusal} (a : A) → Ok a ≡ Err f → ⊥
not_accepted a e = let z : ◌≡◌ {A = ℕ} 0 1 = cc in omega arith

-- and its clauses
set_clauses : (n : ℕ) (s : ClauseSet) → set_of n ≡ Ok s → clauses_of s ≡ numbered_set n
unfolding clauses_of
set_clauses zero s e = absurd (not_accepted s (sym e))
set_clauses (suc zero) s e = ap clauses_of (let q : s ≡ Minimal = cc in q)
set_clauses (suc (suc zero)) s e = ap clauses_of (let q : s ≡ Extended = cc in q)
set_clauses (suc (suc (suc n))) s e = absurd (not_accepted s (sym e))

-- a clause of a set has nine literals or two
two_or_nine : (s : ClauseSet) (n : ℕ) → n < length (clauses_of s) → let c = get_or (clauses_of s) n [] in (length c ≡ 2) ⊎ (length c ≡ 9)
unfolding clause_of
two_or_nine s n h = rw ((shape_numbers s).clause n h) (go (shape_of n))
  where
    go : (x : Shape) → (length (clause_of x) ≡ 2) ⊎ (length (clause_of x) ≡ 9)
    go (OneOf g) = inr refl
    go (NotBoth g i j) = inl refl

module _ (set number : ℕ) (out : List ℤ) where
  abbrev told : Given → Option Refusal
  told y = result_err y.0

  clause_broken : told (clause_call set number out) ≡ first_broken (clause_rules set number out)
  unfolding clause_call clause_rules clause_given
  clause_broken =
      checked_first (refused out) told (λ f. refl) (set_of set) _ (set_rule set ∷ []) _ (set_broken set) λ s known.
      rw (← set_clauses set s known)
      (tested_first (refused out) told (λ f. refl) (ltb number (length (clauses_of s))) refusal.ClauseNumber _ _ λ has.
      tested_first (refused out) told (λ f. refl) (eqb (length out) 9) refusal.LiteralsLength _ _ λ nine. refl)

  -- what holds of a refusal and of a clause of the set holds of the call
  by_checks : (P : Given → Type 0) → ((f : Refusal) → P (refused out f))
      → ((s : ClauseSet) → set_of set ≡ Ok s → number < length (clauses_of s) → let c = get_or (clauses_of s) number [] in P (Ok (length c), padded c))
      → P (clause_call set number out)
  unfolding clause_call clause_given
  by_checks P refuses gives =
      checked (refused out) P refuses (set_of set) _ λ s known.
      tested (refused out) P refuses (ltb number (length (clauses_of s))) refusal.ClauseNumber _ λ has.
      tested (refused out) P refuses (eqb (length out) 9) refusal.LiteralsLength _ λ nine. gives s known (ltb-true number (length (clauses_of s)) has)

  -- the lent literals stay
  abbrev Stays : Given → Type 0
  Stays y = OnErr y.0 (y.1 ≡ out)

  -- they are the clause's
  abbrev Answers : Given → Type 0
  Answers y = IfOk y.0 (GivesClause set number y.1)

  clause_answers : Answers (clause_call set number out)
  clause_answers = by_checks Answers (λ f. tt) λ s known has.
      let c = get_or (clauses_of s) number [] in
      record {
        two_or_nine = two_or_nine s number has;
        literals = take-append_seam c _ ∙ ap (λ cs. get_or cs number []) (set_clauses set s known);
        zeros = drop-append_seam c _;
      }

  -- so of what gives back what the call does
  module _ (r : Result ℕ Refusal) (out' : List ℤ) (e : (r, out') ≡ clause_call set number out) where
    pub refused_so : result_err r ≡ first_broken (clause_rules set number out)
    refused_so = ap told e ∙ clause_broken

    pub stays_so : Stays (r, out')
    stays_so = subst Stays (sym e) (by_checks Stays (λ f. refl) (λ s known has. tt))

    pub answers_so : Answers (r, out')
    answers_so = subst Answers (sym e) clause_answers
