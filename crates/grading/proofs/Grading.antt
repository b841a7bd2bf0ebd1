-- A grading, as it is defined: what the search has found tells whether techniques run, one after the other, and each one's job makes no more trials
-- than are left of the ceiling. The one completion that is found is legal, and its marks name only literals that are its own.
-- Assumes nothing.
use mathlib.Core.Path.{◌≡◌, refl, ap, sym, subst, ◌∙◌}
use mathlib.Core.Bool.{Bool, true, false, cond, not}
use mathlib.Core.List.{List, [], ◌∷◌, Memᴰ}
use Prim.Native.Nat.{ℕ, zero, suc, ◌-◌, ◌%◌, ◌≤◌}
use native.Mathlib.Omega.{arith}
use lib.Dec.{T}
use lib.IntN.{ℤ, pos, negsuc}
use lib.ListN.{get_or}
use Rattle.grid.specs.Completion.{Legal}
use Rattle.clauses.specs.Clauses.{clauses_of}
use Rattle.clauses.specs.Literal.{Literal}
use Rattle.clauses.specs.Models.{givens, holds, truth_of}
use Rattle.closure.specs.Job.{End, count_of}
use Rattle.closure.proofs.Ceiling.{count_below}
use Rattle.worklist.proofs.Literals.{index_place}
use Rattle.trials.specs.Known.{Named, CompletionOk}
use Rattle.inference.specs.Call.{job_end_of}
use Rattle.completions.specs.Completions.{completions}
use Rattle.completions.proofs.Completions.{completions_in_order}
use Rattle.exploration.specs.Search.{zeros, found_of}
use Rattle.exploration.specs.declared.Found.TheVariants.{Nothing, One, Several}
use Rattle.grading.specs.Grade.{rating, ladder, after_job, rate_from, MarksOf, Given, grade_by, grade_of}
use Rattle.orders.specs.declared.technique.Technique.{Technique}
use Rattle.grading.specs.declared.Rating.{Rating}
use Rattle.grading.specs.declared.Verdict.{Verdict}
use Rattle.grading.specs.declared.Verdict.TheVariants.{NoCompletion, Unfinished, SeveralCompletions}
use Rattle.std.specs.Prelude.{Ok}

module _ (g : List ℕ) (o : List ℤ) (ceiling : ℕ) where
  -- the job of a technique, t trials having been made before it
  abbrev pub job_at : Technique → ℕ → End
  job_at s t = job_end_of s o g (ceiling - t)

  -- one technique
  pub rate_next : (ss rest : List Technique) (s : Technique) (t : ℕ) (e : End) → ss ≡ s ∷ rest → e ≡ job_at s t
      → after_job e s t (rate_from g o ceiling rest) ≡ rate_from g o ceiling ss t
  unfolding rate_from
  rate_next ss rest s t e q r = ap (λ x. after_job x s t (rate_from g o ceiling rest)) r ∙ ap (λ x. rate_from g o ceiling x t) (sym q)

  pub rate_none : (ss : List Technique) (t : ℕ) → ss ≡ [] → rating Unfinished t ≡ rate_from g o ceiling ss t
  unfolding rate_from
  rate_none ss t q = ap (λ x. rate_from g o ceiling x t) (sym q)

  -- its trials are within what is left of the ceiling
  pub count_left : (s : Technique) (t : ℕ) (e : End) → e ≡ job_at s t → count_of e ≤ ceiling - t
  count_left s t e q = rw q (count_below (clauses_of s.set) (ceiling - t) s.trials o (givens g))

-- by what the search has found
module _ (k : Unit {0} → Rating) where
  by_one : (bs : List (List ℕ)) (x : List ℕ) → found_of bs ≡ One x → ◌≡◌ {A = Given} (Ok (k tt), x) (grade_by bs k)
  unfolding found_of
  by_one [] x e = cc
  by_one (a ∷ []) x e = cc
  by_one (a ∷ b ∷ bs) x e = cc

  by_none : (bs : List (List ℕ)) → found_of bs ≡ Nothing → ◌≡◌ {A = Given} (Ok (rating NoCompletion 0), zeros) (grade_by bs k)
  unfolding found_of
  by_none [] e = refl
  by_none (a ∷ []) e = cc
  by_none (a ∷ b ∷ bs) e = cc

  by_several : (bs : List (List ℕ)) (x y : List ℕ) → found_of bs ≡ Several x y → ◌≡◌ {A = Given} (Ok (rating SeveralCompletions 0), zeros) (grade_by bs k)
  unfolding found_of
  by_several [] x y e = cc
  by_several (a ∷ []) x y e = cc
  by_several (a ∷ b ∷ bs) x y e = refl

module _ (g : List ℕ) (o : List ℤ) (ceiling : ℕ) where
  abbrev rated : Unit {0} → Rating
  rated u = rate_from g o ceiling ladder 0

  -- one completion
  pub graded_one : (x : List ℕ) (r : Rating) → One x ≡ found_of (completions g) → r ≡ rated tt → ◌≡◌ {A = Given} (Ok r, x) (grade_of g o ceiling)
  unfolding grade_of
  graded_one x r e p = rw p (by_one rated (completions g) x (sym e))

  -- none, or several
  pub graded_none : (v : Verdict) → Nothing ≡ found_of (completions g) → v ≡ NoCompletion → ◌≡◌ {A = Given} (Ok (rating v 0), zeros) (grade_of g o ceiling)
  unfolding grade_of
  graded_none v e p = rw p (by_none rated (completions g) (sym e))

  pub graded_several : (a b : List ℕ) (v : Verdict) → Several a b ≡ found_of (completions g) → v ≡ SeveralCompletions → ◌≡◌ {A = Given} (Ok (rating v 0), zeros) (grade_of g o ceiling)
  unfolding grade_of
  graded_several a b v e p = rw p (by_several rated (completions g) a b (sym e))

-- the literals that the marks of a legal completion name are its own
pub marks_complete : (g b m : List ℕ) → Legal g b → MarksOf b m → CompletionOk g m
marks_complete g b m h r = record { long = r.long; each = λ l v n. (b, h, own l v n) }
  where
    odd : (t : Bool) → cond t 1 2 % 2 ≡ 1 → T t
    odd true e = tt
    odd false e = absurd (omega arith)

    high : (t : Bool) → 2 ≤ cond t 1 2 → T (not t)
    high true e = absurd (omega arith)
    high false e = tt

    own : (l : ℤ) → Literal l → Named m l → T (holds (truth_of b) l)
    own (pos zero) v n = absurd v
    own (pos (suc k)) v n = odd (truth_of b (suc k)) (subst (λ x. x % 2 ≡ 1) (r.marks k v) (subst (λ p. get_or m p 0 % 2 ≡ 1) (index_place (pos (suc k)) v) n))
    own (negsuc k) v n = high (truth_of b (suc k)) (subst (λ x. 2 ≤ x) (r.marks k v) (subst (λ p. 2 ≤ get_or m p 0) (index_place (negsuc k) v) n))

-- the only completion that is found is legal
pub only_legal : (g x : List ℕ) → One x ≡ found_of (completions g) → Legal g x
unfolding found_of
only_legal g x e = go (completions g) (λ b. ((completions_in_order g).members b).0) e
  where
    go : (bs : List (List ℕ)) → ((b : List ℕ) → Memᴰ b bs → Legal g b) → One x ≡ found_of bs → Legal g x
    go [] k q = absurd cc
    go (b ∷ []) k q = k x (Memᴰ.head cc)
    go (a ∷ b ∷ bs) k q = absurd cc
