-- Two gradings compared. What completes the second grid completes the first, so both have the same one completion. A technique that
-- solves the first is not stopped in the second, and then solves it too: all that the first has marked is marked in the second.
-- Assumes nothing.
use mathlib.Core.Path.{◌≡◌, refl, ap, sym, subst, ◌∙◌}
use mathlib.Core.Logic.{⊎_elim}
use mathlib.Core.List.{List, [], ◌∷◌}
use Prim.Native.Nat.{ℕ, ◌+◌, ◌-◌, ◌≤◌}
use native.Mathlib.Omega.{arith}
use lib.IntN.{ℤ}
use Rattle.std.specs.Prelude.{Ok}
use Rattle.grid.specs.Completion.{Legal}
use Rattle.clauses.specs.declared.ClauseSet.{ClauseSet}
use Rattle.clauses.specs.declared.ClauseSet.TheVariants.{Minimal, Extended}
use Rattle.closure.specs.Job.{End, solved, opened, stopped, contradiction, outcome_of}
use Rattle.orders.specs.Order.{order_check}
use Rattle.orders.specs.Technique as technique
use Rattle.orders.specs.Technique.{SetWithin}
use Rattle.orders.specs.declared.technique.Technique.{Technique}
use Rattle.inference.proofs.Says as job
use Rattle.completions.specs.Completions.{completions}
use Rattle.grading.specs.Grade.{ladder, after_job, rate_from, grade_by, grade_of}
use Rattle.grading.specs.Says.{IsOnly, GradingSays}
use Rattle.grading.specs.declared.Rating.{Rating}
use Rattle.grading.proofs.Grading.{job_at}
use Rattle.grading.proofs.Says.{number_range, verdict_in, none_of_list, several_of_list, not_several, Answers, says}
use Rattle.grid.proofs.Checks.{same_answer}
use Rattle.grading.proofs.Calls.{call_graded}
use Rattle.demands.specs.Comparison.{GradingCall, verdict, HasGivens, OfGradings}
use Rattle.demands.proofs.JobsCompared.{compared}

-- what completes a grid completes one with fewer givens
legal_carries : (g h b : List ℕ) → HasGivens g h → Legal h b → Legal g b
legal_carries g h b same l =
    record {
      long = l.long;
      digits = l.digits;
      keeps = λ p i d. let e = same p i d in l.keeps p i (rw e d) ∙ e;
      once = l.once;
    }

within_itself : (s : ClauseSet) → SetWithin s s
within_itself Minimal = tt
within_itself Extended = tt

-- techniques whose numbers rise, all at least v
abbrev From : ℕ → List Technique → Type 0
From v [] = Unit {0}
From v (s ∷ ss) = (v ≤ technique.number_of s) × From v ss

abbrev Climbs : List Technique → Type 0
Climbs [] = Unit {0}
Climbs (s ∷ ss) = From (technique.number_of s) ss × Climbs ss

climbs : Climbs ladder
climbs = ((omega arith, (omega arith, (omega arith, tt))), ((omega arith, (omega arith, tt)), ((omega arith, tt), (tt, tt))))

-- no verdict is below those of the techniques
least_verdict : (g : List ℕ) (o : List ℤ) (c v : ℕ) (ss : List Technique) (t : ℕ) → v ≤ 5 → From v ss → v ≤ verdict_in (rate_from g o c ss t)
unfolding rate_from
least_verdict g o c v [] t h f = h
least_verdict g o c v (s ∷ ss) t h f = go (job_at g o c s t) (λ k. least_verdict g o c v ss k h f.1)
  where
    go : (e : End) → ((k : ℕ) → v ≤ verdict_in (rate_from g o c ss k)) → v ≤ verdict_in (after_job e s t (rate_from g o c ss))
    go (solved m n) r = f.0
    go (stopped m n) r = omega arith
    go (opened m n) r = r (t + n)
    go (contradiction n) r = r (t + n)

-- the grids g and h, of which h has every given of g and is completed by b, graded along two accepted orders, under two ceilings
module _ (g h : List ℕ) (given : HasGivens g h) (b : List ℕ) (legal : Legal h b) (o o' : List ℤ) (accepted : order_check o ≡ Ok tt) (accepted' : order_check o' ≡ Ok tt) (c c' : ℕ) where
  -- a technique that solves the first, and is not stopped in the second, solves it too
  solves : (u : Technique) (t k : ℕ) → outcome_of (job_at g o c u t) ≡ 1 → (outcome_of (job_at h o' c' u k) ≡ 3 → ⊥) → outcome_of (job_at h o' c' u k) ≡ 1
  solves u t k e on =
      let first = job.says u g o (c - t) accepted in
      let second = job.says u h o' (c' - k) accepted' in
      let full = first.marks.all.0 e in
      ⊎_elim (λ q. absurd (second.completions.none q b legal)) (λ same. second.marks.all.1 (λ p i z. full p i (sym (same p i (full p i)) ∙ z)))
      (compared u u (within_itself u.set, λ x. x) g h given o o' (c - t) (c' - k) _ _ _ _ _ _ first second on).0

  abbrev rate_first : List Technique → ℕ → Rating
  rate_first = rate_from g o c

  abbrev rate_second : List Technique → ℕ → Rating
  rate_second = rate_from h o' c'

  -- so the second's verdict is no higher
  no_higher : (ss : List Technique) (t k : ℕ) → Climbs ss → verdict_in (rate_first ss t) ≤ 5 → (verdict_in (rate_second ss k) ≡ 6 → ⊥)
      → verdict_in (rate_second ss k) ≤ verdict_in (rate_first ss t)
  unfolding rate_from
  no_higher [] t k climb low on = omega arith
  no_higher (s ∷ ss) t k climb low on =
      go (job_at g o c s t) (job_at h o' c' s k) (solves s t k) (λ x y. no_higher ss x y climb.1)
      (λ x. least_verdict g o c (technique.number_of s) ss x (omega (arith, number_range s)) climb.0) low on
    where
      go : (e f : End) → (outcome_of e ≡ 1 → (outcome_of f ≡ 3 → ⊥) → outcome_of f ≡ 1)
          → ((x y : ℕ) → verdict_in (rate_first ss x) ≤ 5 → (verdict_in (rate_second ss y) ≡ 6 → ⊥) → verdict_in (rate_second ss y) ≤ verdict_in (rate_first ss x))
          → ((x : ℕ) → technique.number_of s ≤ verdict_in (rate_first ss x))
          → verdict_in (after_job e s t (rate_first ss)) ≤ 5 → (verdict_in (after_job f s k (rate_second ss)) ≡ 6 → ⊥)
          → verdict_in (after_job f s k (rate_second ss)) ≤ verdict_in (after_job e s t (rate_first ss))
      go (stopped m n) f w r l h d = absurd (omega (arith, h))
      go (solved m n) (solved m' n') w r l h d = omega arith
      go (solved m n) (stopped m' n') w r l h d = absurd (d refl)
      go (solved m n) (opened m' n') w r l h d = absurd (let z = w refl (λ x. omega (arith, x)) in omega (arith, z))
      go (solved m n) (contradiction n') w r l h d = absurd (let z = w refl (λ x. omega (arith, x)) in omega (arith, z))
      go (opened m n) (solved m' n') w r l h d = l (t + n)
      go (opened m n) (stopped m' n') w r l h d = absurd (d refl)
      go (opened m n) (opened m' n') w r l h d = r (t + n) (k + n') h d
      go (opened m n) (contradiction n') w r l h d = r (t + n) (k + n') h d
      go (contradiction n) (solved m' n') w r l h d = l (t + n)
      go (contradiction n) (stopped m' n') w r l h d = absurd (d refl)
      go (contradiction n) (opened m' n') w r l h d = r (t + n) (k + n') h d
      go (contradiction n) (contradiction n') w r l h d = r (t + n) (k + n') h d

-- what a grading call that is not refused says
abbrev SaysOf : GradingCall → Type 0
SaysOf r = GradingSays r.grid r.order r.ceiling (verdict r) r.rating.trials r.completion

graded : (r : GradingCall) → (order_check r.order ≡ Ok tt) × (grade_of r.grid r.order r.ceiling ≡ (Ok r.rating, r.completion))
graded r = call_graded r.grid r.order r.ceiling r.lent r.rating r.completion r.gave

says_call : (r : GradingCall) → SaysOf r
says_call r = let w = graded r in subst (Answers r.grid r.order r.ceiling) w.1 (says r.grid r.order r.ceiling w.0)

-- with one completion the verdict is that of the techniques
by_techniques : (r : GradingCall) (b : List ℕ) → IsOnly r.grid b → verdict r ≡ verdict_in (rate_from r.grid r.order r.ceiling ladder 0)
unfolding grade_of
by_techniques r b only = go (completions r.grid) refl (graded r).1
  where
    go : (bs : List (List ℕ)) → completions r.grid ≡ bs → grade_by bs (λ u. rate_from r.grid r.order r.ceiling ladder 0) ≡ (Ok r.rating, r.completion)
        → verdict r ≡ verdict_in (rate_from r.grid r.order r.ceiling ladder 0)
    go [] e q = absurd (none_of_list r.grid e b only.0)
    go (x ∷ []) e q = sym (ap verdict_in (same_answer (ap (λ y. y.0) q)))
    go (x ∷ y ∷ bs) e q = absurd (not_several r.grid (b, only) (several_of_list r.grid x y bs e))

pub of_gradings : OfGradings
of_gradings first second (low, high) given (b, legal) whole =
    let one = (says_call first).completions.only (λ q. omega (arith, q, low)) (λ q. omega (arith, q, high)) in
    let only : (x : List ℕ) → Legal second.grid x → x ≡ first.completion = λ x l. one.1 x (legal_carries first.grid second.grid x given l) in
    let both : IsOnly second.grid first.completion = (subst (Legal second.grid) (only b legal) legal, only) in
    let e = by_techniques first first.completion one in
    let f = by_techniques second first.completion both in
    let told = (says_call second).completions in
    let two : IsOnly second.grid second.completion =
    told.only (λ q. told.none.0 q b legal) (λ q. not_several second.grid (first.completion, both) (told.several.0 q)) in
    let least = no_higher first.grid second.grid given b legal first.order second.order (graded first).0 (graded second).0 first.ceiling second.ceiling ladder 0 0 climbs
    (omega (arith, e, high)) (λ z. whole (f ∙ z)) in
    (only second.completion two.0, omega (arith, e, f, least))
