-- What a grading says. The search has found none, one or several of all completions; where there is one, the first job that is solved or stopped gives
-- the verdict. Each job's count is within what is left of the ceiling, and all of it where the job is stopped. Two full grids complete a grid with no given,
-- so that one with just one completion has a given: each technique starts with a variable decided, and makes at most 728 · 729 trials then, or none if it has
-- no trials, and two have trials.
-- Assumes nothing.
use mathlib.Core.Path.{◌≡◌, refl, ap, sym, subst, ◌∙◌}
use mathlib.Core.Logic.{◌⊎◌, inl, inr, ⊎_elim, ◌↔◌}
use mathlib.Core.Bool.{Bool, true, false, cond}
use mathlib.Core.List.Memᴰ
use mathlib.Core.List.{List, [], ◌∷◌, ◌++◌, Memᴰ}
use Prim.Native.Nat.{ℕ, ◌+◌, ◌*◌, ◌-◌, ◌≤◌, ◌<◌}
use native.Mathlib.Decide.{dec_lt}
use native.Mathlib.Omega.{arith}
use lib.Dec.{T}
use lib.IntN.{ℤ, pos}
use lib.ListN.{take, drop}
use Rattle.std.specs.Prelude.{Option, None, Some, Ok, IfOk}
use Rattle.std.specs.List.{find}
use Rattle.std.specs.Option.{IsSomeAnd}
use Rattle.grid.specs.Counting.{total, tally, all}
use Rattle.grid.specs.Grid.{byte, is_digit, digit_of}
use Rattle.grid.specs.House.{cell_of}
use Rattle.grid.specs.Completion.{Legal, times, is_legal}
use Rattle.grid.specs.Examples.{G}
use Rattle.grid.proofs.Counting.{tally_some, tally_find}
use Rattle.grid.proofs.Completion.{legal_iff}
use Rattle.clauses.specs.Clauses.{clauses_of}
use Rattle.clauses.specs.Models.{givens}
use Rattle.clauses.specs.declared.ClauseSet.{ClauseSet}
use Rattle.clauses.specs.declared.ClauseSet.TheVariants.{Minimal, Extended}
use Rattle.clauses.proofs.Members.{givens_iff, given_literal}
use Rattle.closure.specs.Job.{End, solved, opened, stopped, contradiction, job_end, count_of, outcome_of}
use Rattle.closure.proofs.Marks.{decided_some}
use Rattle.orders.specs.Order.{order_check}
use Rattle.orders.specs.Technique as technique
use Rattle.orders.specs.declared.technique.Technique.{Technique}
use Rattle.inference.proofs.Says.{end_ok, unit_end, says_trials}
use Rattle.completions.specs.Completions.{completions, Before, Rising}
use Rattle.completions.proofs.ByteOrder.{before_once}
use Rattle.completions.proofs.Completions.{completions_in_order}
use Rattle.exploration.specs.Search.{zeros}
use Rattle.grading.specs.Grade.{number_of, rating, ladder, after_job, rate_from, Given, grade_by, grade_of}
use Rattle.grading.specs.Says.{IsOnly, HasOne, HasSeveral, Run, ends_grading, made_in, runs_from, runs, deciding_run, technique_most, SaysTechniques, GradingSays}
use Rattle.grading.specs.declared.Rating.{Rating}
use Rattle.grading.specs.declared.Verdict.{Verdict}
use Rattle.grading.specs.declared.Verdict.TheVariants.{NoCompletion, Finished, Unfinished, Stopped, SeveralCompletions}
use Rattle.grading.proofs.Grading.{job_at}

-- a technique's number is 1 to 4, and tells the technique
pub number_range : (t : Technique) → (1 ≤ technique.number_of t) × (technique.number_of t ≤ 4)
number_range t = go t.set t.trials
  where
    go : (s : ClauseSet) (b : Bool) → (1 ≤ technique.number_in s b) × (technique.number_in s b ≤ 4)
    go Minimal false = (omega arith, omega arith)
    go Extended false = (omega arith, omega arith)
    go Minimal true = (omega arith, omega arith)
    go Extended true = (omega arith, omega arith)

number_once : (t u : Technique) → technique.number_of t ≡ technique.number_of u → t ≡ u
number_once t u = go t.set u.set t.trials u.trials
  where
    same : (s : ClauseSet) (a : Bool) → ◌≡◌ {A = Technique} (record { set = s; trials = a }) (record { set = s; trials = a })
    same s a = refl

    go : (s r : ClauseSet) (a b : Bool) → technique.number_in s a ≡ technique.number_in r b
        → ◌≡◌ {A = Technique} (record { set = s; trials = a }) (record { set = r; trials = b })
    go Minimal Minimal false false e = refl
    go Minimal Minimal false true e = absurd (omega arith)
    go Minimal Minimal true false e = absurd (omega arith)
    go Minimal Minimal true true e = refl
    go Minimal Extended false false e = absurd (omega arith)
    go Minimal Extended false true e = absurd (omega arith)
    go Minimal Extended true false e = absurd (omega arith)
    go Minimal Extended true true e = absurd (omega arith)
    go Extended Minimal false false e = absurd (omega arith)
    go Extended Minimal false true e = absurd (omega arith)
    go Extended Minimal true false e = absurd (omega arith)
    go Extended Minimal true true e = absurd (omega arith)
    go Extended Extended false false e = refl
    go Extended Extended false true e = absurd (omega arith)
    go Extended Extended true false e = absurd (omega arith)
    go Extended Extended true true e = refl

-- the number of a rating's verdict
abbrev pub verdict_in : Rating → ℕ
verdict_in r = number_of r.verdict

-- the verdict of the first job that is solved or stopped
abbrev of_end : End → Technique → Verdict
of_end (solved m n) t = Finished t
of_end (stopped m n) t = Stopped
of_end (opened m n) t = Unfinished
of_end (contradiction n) t = Unfinished

abbrev of_run : Option Run → Verdict
of_run None = Unfinished
of_run (Some r) = of_end r.end r.technique

-- verdict 6 is stopped
six_stopped : (v : Verdict) → number_of v ≡ 6 → v ≡ Stopped
six_stopped NoCompletion e = absurd (omega arith)
six_stopped (Finished t) e = absurd (omega (arith, e, number_range t))
six_stopped Unfinished e = absurd (omega arith)
six_stopped Stopped e = refl
six_stopped SeveralCompletions e = absurd (omega arith)

-- what is found passes the test
found_passes : {A : Type 0} (p : A → Bool) (xs : List A) (x : A) → find p xs ≡ Some x → p x ≡ true
found_passes p [] x e = cc
found_passes p (y ∷ ys) x e = go (p y) refl (found_passes p ys x) e
  where
    go : (b : Bool) → p y ≡ b → (find p ys ≡ Some x → p x ≡ true) → cond b (Some y) (find p ys) ≡ Some x → p x ≡ true
    go true q r e = let z : y ≡ x = cc in subst (λ w. p w ≡ true) z q
    go false q r e = r e

module _ (g : List ℕ) (o : List ℤ) (c : ℕ) where
  -- the jobs of s and ss, where that of s ends so, t trials having been made before it
  abbrev pub ran : Technique → List Technique → ℕ → End → List Run
  ran s ss t e = record { technique = s; end = e } ∷ runs_from g o c ss (t + count_of e)

  -- a rating is that of the first job that is solved or stopped
  rated_by : (ss : List Technique) (t : ℕ)
      → rate_from g o c ss t ≡ rating (of_run (find ends_grading (runs_from g o c ss t))) (t + made_in (runs_from g o c ss t))
  unfolding rate_from
  rated_by [] t = ap (rating Unfinished) (omega arith)
  rated_by (s ∷ ss) t = go (job_at g o c s t) (rated_by ss)
    where
      go : (e : End) → ((k : ℕ) → rate_from g o c ss k ≡ rating (of_run (find ends_grading (runs_from g o c ss k))) (k + made_in (runs_from g o c ss k)))
          → after_job e s t (rate_from g o c ss) ≡ rating (of_run (find ends_grading (ran s ss t e))) (t + made_in (ran s ss t e))
      go (solved m n) r = ap (rating (Finished s)) (omega arith)
      go (stopped m n) r = ap (rating Stopped) (omega arith)
      go (opened m n) r = r (t + n) ∙ ap (rating _) (omega arith)
      go (contradiction n) r = r (t + n) ∙ ap (rating _) (omega arith)

-- of the first job that is solved or stopped
module _ (r : Option Run) (passes : (x : Run) → r ≡ Some x → ends_grading x ≡ true) where
  abbrev v : ℕ
  v = number_of (of_run r)

  low : (1 ≤ v) × (v ≤ 6)
  low = go r
    where
      at_end : (e : End) (t : Technique) → (1 ≤ number_of (of_end e t)) × (number_of (of_end e t) ≤ 6)
      at_end (solved m n) t = let w = number_range t in (w.0, omega (arith, w.1))
      at_end (stopped m n) t = (omega arith, omega arith)
      at_end (opened m n) t = (omega arith, omega arith)
      at_end (contradiction n) t = (omega arith, omega arith)

      go : (x : Option Run) → (1 ≤ number_of (of_run x)) × (number_of (of_run x) ≤ 6)
      go None = (omega arith, omega arith)
      go (Some x) = at_end x.end x.technique

  -- its verdict is that of its technique where it is solved,
  by_solved : (t : Technique) → (v ≡ technique.number_of t) ↔ IsSomeAnd r (λ x. (outcome_of x.end ≡ 1) × (x.technique ≡ t))
  by_solved t = go r
    where
      at_end : (e : End) (u : Technique) → (number_of (of_end e u) ≡ technique.number_of t) ↔ ((outcome_of e ≡ 1) × (u ≡ t))
      at_end (solved m n) u = ((λ q. (refl, number_once u t q)), λ w. ap technique.number_of w.1)
      at_end (stopped m n) u = ((λ q. absurd (omega (arith, q, number_range t))), λ w. absurd (omega (arith, w.0)))
      at_end (opened m n) u = ((λ q. absurd (omega (arith, q, number_range t))), λ w. absurd (omega (arith, w.0)))
      at_end (contradiction n) u = ((λ q. absurd (omega (arith, q, number_range t))), λ w. absurd (omega (arith, w.0)))

      go : (x : Option Run) → (number_of (of_run x) ≡ technique.number_of t) ↔ IsSomeAnd x (λ y. (outcome_of y.end ≡ 1) × (y.technique ≡ t))
      go None = ((λ q. absurd (omega (arith, q, number_range t))), λ w. absurd w)
      go (Some x) = at_end x.end x.technique

  -- 6 where it is stopped,
  by_stopped : (v ≡ 6) ↔ IsSomeAnd r (λ x. outcome_of x.end ≡ 3)
  by_stopped = go r
    where
      at_end : (e : End) (u : Technique) → (number_of (of_end e u) ≡ 6) ↔ (outcome_of e ≡ 3)
      at_end (solved m n) u = ((λ q. absurd (omega (arith, q, number_range u))), λ w. absurd (omega (arith, w)))
      at_end (stopped m n) u = ((λ q. refl), λ w. refl)
      at_end (opened m n) u = ((λ q. absurd (omega (arith, q))), λ w. absurd (omega (arith, w)))
      at_end (contradiction n) u = ((λ q. absurd (omega (arith, q))), λ w. absurd (omega (arith, w)))

      go : (x : Option Run) → (number_of (of_run x) ≡ 6) ↔ IsSomeAnd x (λ y. outcome_of y.end ≡ 3)
      go None = ((λ q. absurd (omega (arith, q))), λ w. absurd w)
      go (Some x) = at_end x.end x.technique

  -- and 5 where there is none
  by_none : (v ≡ 5) ↔ (r ≡ None)
  by_none = go r passes
    where
      at_end : (e : End) (u : Technique) → ends_grading (record { technique = u; end = e }) ≡ true → number_of (of_end e u) ≡ 5 → ⊥
      at_end (solved m n) u p q = omega (arith, q, number_range u)
      at_end (stopped m n) u p q = omega (arith, q)
      at_end (opened m n) u p q = let z : false ≡ true = p in cc
      at_end (contradiction n) u p q = let z : false ≡ true = p in cc

      go : (x : Option Run) → ((y : Run) → x ≡ Some y → ends_grading y ≡ true) → (number_of (of_run x) ≡ 5) ↔ (x ≡ None)
      go None p = ((λ q. refl), λ w. refl)
      go (Some x) p = ((λ q. absurd (at_end x.end x.technique (p x refl) q)), λ w. absurd (let z : ◌≡◌ {A = Option Run} (Some x) None = w in cc))

module _ (g : List ℕ) (o : List ℤ) (c : ℕ) (accepted : order_check o ≡ Ok tt) where
  -- the trials of some techniques are within the ceiling, and at it where one is stopped
  made_within : (ss : List Technique) (t : ℕ) → t ≤ c
      → let rs = runs_from g o c ss t in (t + made_in rs ≤ c) × (of_run (find ends_grading rs) ≡ Stopped → t + made_in rs ≡ c)
  made_within [] t h = (omega arith, λ q. let z : Unfinished ≡ Stopped = q in cc)
  made_within (s ∷ ss) t h =
      let k = says_trials s g o (c - t) accepted in
      go (job_at g o c s t) k.within k.reached (made_within ss)
    where
      go : (e : End) → count_of e ≤ c - t → (outcome_of e ≡ 3 → count_of e ≡ c - t)
          → ((k : ℕ) → k ≤ c → let rs = runs_from g o c ss k in (k + made_in rs ≤ c) × (of_run (find ends_grading rs) ≡ Stopped → k + made_in rs ≡ c))
          → (t + made_in (ran g o c s ss t e) ≤ c) × (of_run (find ends_grading (ran g o c s ss t e)) ≡ Stopped → t + made_in (ran g o c s ss t e) ≡ c)
      go (solved m n) low at r = (omega (arith, low, h), λ q. let z : Finished s ≡ Stopped = q in cc)
      go (stopped m n) low at r = (omega (arith, low, h), λ q. omega (arith, at refl, h))
      go (opened m n) low at r = let w = r (t + n) (omega (arith, low, h)) in (omega (arith, w.0), λ q. omega (arith, w.1 q))
      go (contradiction n) low at r = let w = r (t + n) (omega (arith, low, h)) in (omega (arith, w.0), λ q. omega (arith, w.1 q))

-- the full grid G with its upper three rows below the others
another : List ℕ
another = drop 27 G ++ take 27 G

-- both complete a grid with no given,
both_legal : T (is_legal [] G) × T (is_legal [] another)
unfolding another G is_legal all is_digit times total cell_of
both_legal = (tt, tt)

-- and they differ in their first cell
both_differ : G ≡ another → ⊥
unfolding another G
both_differ e = omega (arith, ap (λ b. byte b 0) e)

-- a grid with one completion has a given
some_given : (g b : List ℕ) → IsOnly g b → (l : ℤ) × Memᴰ l (givens g)
some_given g b only = elim (dec_lt 0 (tally 81 given)) [
  | yes y ↦ (let w = tally_find given 81 y in (pos (9 * w.0 + digit_of (byte g w.0)), (givens_iff g _).1 (w.0, w.1, w.2, refl)))
  | no n ↦ absurd (both_differ (only.1 G (blank n G both_legal.0) ∙ sym (only.1 another (blank n another both_legal.1))))
]
  where
    given : ℕ → Bool
    given c = is_digit (byte g c)

    blank : (0 < tally 81 given → ⊥) → (x : List ℕ) → T (is_legal [] x) → Legal g x
    blank n x t =
        let l = (legal_iff [] x).0 t in
        record { long = l.long; digits = l.digits; keeps = λ p h d. absurd (n (tally_some given 81 p h d)); once = l.once }

-- the trials that a technique, or some techniques one after the other, make at most
abbrev most : Bool → ℕ
most true = technique_most
most false = 0

abbrev most_of : List Technique → ℕ
most_of [] = 0
most_of (s ∷ ss) = most s.trials + most_of ss

module _ (g : List ℕ) (o : List ℤ) (accepted : order_check o ≡ Ok tt) (l : ℤ) (i : Memᴰ l (givens g)) where
  -- one technique
  most_made : (s : ClauseSet) (t : Bool) (c : ℕ)
      → let e = job_end (clauses_of s) c t o (givens g) in (count_of e ≤ most t) × (most t ≤ c → outcome_of e ≡ 3 → ⊥)
  most_made s false c = let w = unit_end (clauses_of s) c o (givens g) in (omega (arith, w.0), λ h. w.1)
  most_made s true c =
      let w = end_ok o accepted (record { set = s; trials = true }) g c 728 (omega arith) (λ m h. omega (arith, decided_some m l (given_literal g l i) (h l i))) in
      (omega (arith, w.count), λ h. w.whole (omega arith))

  -- where the ceiling has room for the techniques that are left, none is stopped
  roomy : (c : ℕ) (ss : List Technique) (t : ℕ) → t + most_of ss ≤ c → verdict_in (rate_from g o c ss t) ≤ 5
  unfolding rate_from
  roomy c [] t room = omega arith
  roomy c (s ∷ ss) t room = go (job_at g o c s t) (most_made s.set s.trials (c - t)) (roomy c ss)
    where
      go : (e : End) → (count_of e ≤ most s.trials) × (most s.trials ≤ c - t → outcome_of e ≡ 3 → ⊥)
          → ((k : ℕ) → k + most_of ss ≤ c → verdict_in (rate_from g o c ss k) ≤ 5) → verdict_in (after_job e s t (rate_from g o c ss)) ≤ 5
      go (solved m n) w r = omega (arith, number_range s)
      go (stopped m n) w r = absurd (w.1 (omega arith) refl)
      go (opened m n) w r = r (t + n) (omega (arith, w.0))
      go (contradiction n) w r = r (t + n) (omega (arith, w.0))

-- the number of completions tells what the list of them is
module _ (g : List ℕ) where
  one_of_list : (b : List ℕ) → completions g ≡ b ∷ [] → IsOnly g b
  one_of_list b e =
      let m = (completions_in_order g).members in
      ((m b).0 (subst (Memᴰ b) (sym e) (Memᴰ.head refl)), λ d l. Memᴰ.eq_of_singleton (subst (Memᴰ d) e ((m d).1 l)))

  pub none_of_list : completions g ≡ [] → (d : List ℕ) → Legal g d → ⊥
  none_of_list e d l = Memᴰ.not-nil (subst (Memᴰ d) e (((completions_in_order g).members d).1 l))

  pub several_of_list : (a b : List ℕ) (bs : List (List ℕ)) → completions g ≡ a ∷ b ∷ bs → HasSeveral g
  several_of_list a b bs e =
      let i = completions_in_order g in
      let rise : Before a b = (subst Rising e i.rising).0 b (Memᴰ.head refl) in
      let here : Legal g a = (i.members a).0 (subst (Memᴰ a) (sym e) (Memᴰ.head refl)) in
      let next : Legal g b = (i.members b).0 (subst (Memᴰ b) (sym e) (Memᴰ.tail (Memᴰ.head refl))) in
      (a, b, here, next, λ q. let w = subst (Before a) (sym q) rise in before_once a a w w)

-- one and several, none and some exclude each other
pub not_several : (g : List ℕ) → HasOne g → HasSeveral g → ⊥
not_several g one w = w.4 (one.1.1 w.0 w.2 ∙ sym (one.1.1 w.1 w.3))

module _ (g : List ℕ) (o : List ℤ) (c : ℕ) where
  -- where no technique is run
  says_untried : (v : ℕ) → (HasOne g → ⊥) → (v ≡ 0) ⊎ (v ≡ 7) → SaysTechniques g o c v 0
  says_untried v not_one which = record {
    solved = λ t. ((λ q. absurd (⊎_elim (λ e. omega (arith, e, q, number_range t)) (λ e. omega (arith, e, q, number_range t)) which)), λ w. absurd (not_one w.0));
    unfinished = ((λ q. absurd (⊎_elim (λ e. omega (arith, e, q)) (λ e. omega (arith, e, q)) which)), λ w. absurd (not_one w.0));
    stopped = ((λ q. absurd (⊎_elim (λ e. omega (arith, e, q)) (λ e. omega (arith, e, q)) which)), λ w. absurd (not_one w.0));
    made = λ x y. absurd (⊎_elim x y which);
  }

  says_none : ((d : List ℕ) → Legal g d → ⊥) → GradingSays g o c 0 0 zeros
  says_none nothing = record {
    completions = record {
      none = ((λ q. nothing), λ n. refl);
      several = ((λ q. absurd (omega arith)), λ w. absurd (nothing w.0 w.2));
      only = λ x y. absurd (x refl);
      unused = λ w. (refl, refl);
    };
    techniques = says_untried 0 (λ one. nothing one.0 one.1.0) (inl refl);
    total = record { within = omega arith; reached = λ q. absurd (omega arith); enough = λ h q. omega arith };
  }

  says_several : HasSeveral g → GradingSays g o c 7 0 zeros
  says_several w = record {
    completions = record {
      none = ((λ q. absurd (omega arith)), λ n. absurd (n w.0 w.2));
      several = ((λ q. w), λ x. refl);
      only = λ x y. absurd (y refl);
      unused = λ x. (refl, refl);
    };
    techniques = says_untried 7 (λ one. not_several g one w) (inr refl);
    total = record { within = omega arith; reached = λ q. absurd (omega arith); enough = λ h q. omega arith };
  }

  -- the first job that is solved or stopped passes the test
  decides : (x : Run) → deciding_run g o c ≡ Some x → ends_grading x ≡ true
  decides x e = found_passes ends_grading (runs g o c) x e

  says_one : order_check o ≡ Ok tt → (b : List ℕ) → IsOnly g b → let r = rate_from g o c ladder 0 in GradingSays g o c (verdict_in r) r.trials b
  says_one accepted b only =
      let first = deciding_run g o c in
      let e = rated_by g o c ladder 0 in
      let one : HasOne g = (b, only) in
      let bounds = low first decides in
      let w = some_given g b only in
      let sum = made_within g o c accepted ladder 0 (omega arith) in
      let room = roomy g o accepted w.0 w.1 c ladder 0 in
      let x : ℕ = number_of (of_run first) in
      let n : ℕ = made_in (runs g o c) in
      let six : x ≡ 6 → of_run first ≡ Stopped = λ q. six_stopped (of_run first) q in
      let says : GradingSays g o c x (0 + n) b = record {
        completions = record {
          none = ((λ q. absurd (omega (arith, q, bounds))), λ nothing. absurd (nothing b only.0));
          several = ((λ q. absurd (omega (arith, q, bounds))), λ two. absurd (not_several g one two));
          only = λ y z. only;
          unused = λ y. absurd (⊎_elim (λ q. omega (arith, q, bounds)) (λ q. omega (arith, q, bounds)) y);
        };
        techniques = record {
          solved = λ t. ((λ q. (one, (by_solved first decides t).0 q)), λ y. (by_solved first decides t).1 y.1);
          unfinished = ((λ q. (one, (by_none first decides).0 q)), λ y. (by_none first decides).1 y.1);
          stopped = ((λ q. (one, (by_stopped first decides).0 q)), λ y. (by_stopped first decides).1 y.1);
          made = λ y z. omega arith;
        };
        total = record {
          within = sum.0;
          reached = λ q. sum.1 (six q);
          enough = λ h q. (let k = ap verdict_in e in omega (arith, k, q, room (omega (arith, h))));
        };
      } in
      subst (λ r. GradingSays g o c (verdict_in r) r.trials b) (sym e) says

  -- what a grading gave says all this
  abbrev pub Answers : Given → Type 0
  Answers y = IfOk y.0 (λ r. GradingSays g o c (number_of r.verdict) r.trials y.1)

  pub says : order_check o ≡ Ok tt → Answers (grade_of g o c)
  unfolding grade_of
  says accepted = go (completions g) refl
    where
      go : (bs : List (List ℕ)) → completions g ≡ bs → Answers (grade_by bs (λ u. rate_from g o c ladder 0))
      go [] e = says_none (none_of_list g e)
      go (b ∷ []) e = says_one accepted b (one_of_list g b e)
      go (a ∷ b ∷ bs) e = says_several (several_of_list g a b bs e)
