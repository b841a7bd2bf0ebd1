-- A job ends with the closure of its givens under its rules, unless the ceiling stops it within that closure. A failed trial adds what the
-- trial rule gives; in a pass with no failure every literal is decided or was tried in vain, so that the state is closed under trials; and
-- each other pass decides a variable, so that there are passes enough. A pass makes at most two trials for each variable that is undecided
-- at its start: from u undecided variables on, all passes together make at most 2 u + 2 (u - 1) + .. + 2 = u (u + 1), whatever the ceiling.
-- Assumes nothing.
use mathlib.Core.Path.{◌≡◌, refl}
use mathlib.Core.Logic.{◌⊎◌, inl, inr, ⊎_elim, ◌↔◌}
use mathlib.Core.Bool.{Bool, true, false}
use mathlib.Core.List.Memᴰ
use mathlib.Core.List.{List, [], ◌∷◌, Memᴰ}
use Prim.Native.Nat.{ℕ, zero, suc, ◌+◌, ◌*◌, ◌≤◌, ◌<◌}
use native.Mathlib.Nat.{suc-mul, mul-suc}
use native.Mathlib.Omega.{arith}
use borrow.Author.Tests.{eq-eqb, ne_eqb, eqb-true}
use native.Mathlib.Decide.{ℕ_discrete}
use lib.Dec.{T, eqb}
use lib.IntN.{ℤ, pos, negsuc, neg_ℤ, neg_ℤ-neg_ℤ}
use Rattle.grid.specs.Counting.{tick}
use Rattle.clauses.specs.Literal.{Literal}
use Rattle.clauses.specs.Clauses.{Clause}
use Rattle.clauses.proofs.Signed.{negation_literal}
use Rattle.closure.specs.Sets.{Holds, Within, Least, IsLeast}
use Rattle.closure.specs.Closure.{Contradiction, With, UnitClosed, Rules}
use Rattle.closure.specs.Marks.{has, is_decided, put, mark, decided_in, decided, blank, IsMarks}
use Rattle.closure.specs.Propagation.{Answer, clash, closed, bind, remaining, sweep, sweeps, unit_closure, join, Closes}
use Rattle.closure.specs.Job.{is_full, Step, skip, halt, kept, broken, refuted, try, step_of, step}
use Rattle.closure.specs.Job.{Walk, walked, ended, unless_full, after, next_pass, walk, passes, from_closure, start, job_end}
use Rattle.closure.proofs.Sets.{least_within, least_mono}
use Rattle.closure.proofs.Closure.{contradiction_mono, rules_unit, TrialAt, trial_decided}
use Rattle.closure.proofs.Marks.{has_consistent, has_mark, or_iff, decided_rises, decided_grows, decided_bounded, decided_total, is_marks_blank, is_marks_mark}
use Rattle.closure.specs.Laws.{NoneTwice, JobOk}
use Rattle.closure.proofs.Clauses.{WellFormed}
use Rattle.closure.proofs.Trials.{passing, is_open, open_most, open_falls, spends, step_spends}
use Rattle.closure.proofs.Propagation.{InMarks, unit_closure_ok, unit_closure_marks, closes_same, no_clash, givens_closed}

-- A case that is computed, −v written `negsuc (v - 1)`. Of these clauses the trial of −1 fails, so that +1 joins; that of +1 succeeds.
failing : List Clause
failing = (pos 1 ∷ pos 2 ∷ []) ∷ (pos 1 ∷ negsuc 1 ∷ []) ∷ []

steps : (step failing 9 [] 0 (negsuc 0) ≡ refuted (1 ∷ [])) × (step failing 9 [] 0 (pos 1) ≡ kept)
unfolding failing step unit_closure sweeps sweep remaining has mark put decided_in
steps = (refl, refl)

-- what holds of the state all along a job with trials
pub record Sound (cs : List Clause) (G : ℤ → Type 0) (m : List ℕ) : Type 0 where
  pub holds : Holds G (has m)
  pub unit : UnitClosed cs (has m)
  pub within : Within (has m) (Least (Rules cs true) G)
  pub marks : IsMarks m

-- by whether every variable is decided
full_cases : (P : Bool → Type 0) (m : List ℕ) → (decided m ≡ 729 → P true) → (decided m < 729 → P false) → P (is_full m)
full_cases P m y z = elim (ℕ_discrete (decided m) 729) [
  | yes e ↦ rw (eq-eqb (decided m) 729 e) (y e)
  | no n ↦ rw (ne_eqb (decided m) 729 n) (z (omega (arith, decided_bounded m)))
]

-- every literal that m has marked is marked in t
abbrev Grown : List ℕ → List ℕ → Type 0
Grown m t = (l : ℤ) → T (has m l) → T (has t l)

-- what a step says: the trial rule holds of its literal, or the count is at the ceiling, or its negation joins with all that follows, or the
-- closure is a contradiction
abbrev StepOk : List Clause → (ℤ → Type 0) → ℕ → List ℕ → ℕ → ℤ → Step → Type 0
StepOk cs G ceiling m n l skip = TrialAt cs (has m) l
StepOk cs G ceiling m n l halt = n ≡ ceiling
StepOk cs G ceiling m n l kept = TrialAt cs (has m) l
StepOk cs G ceiling m n l broken = Contradiction (Least (Rules cs true) G)
StepOk cs G ceiling m n l (refuted t) = Sound cs G t × Grown m t × (decided m < decided t)

module _ (cs : List Clause) (wf : WellFormed cs) (G : ℤ → Type 0) where
  -- the unit closure of the state with a literal
  pub closes_with : (m : List ℕ) (l : ℤ) → Literal l → (T (has m (neg_ℤ l)) → ⊥) → Closes (UnitClosed cs) (With (has m) l) (unit_closure cs (mark m l))
  closes_with m l v new = closes_same (UnitClosed cs) _ _ (has_mark m l v new) (unit_closure cs (mark m l)) (unit_closure_ok cs wf (mark m l))

  module _ (m : List ℕ) (i : Sound cs G m) (l : ℤ) (v : Literal l) where
    -- after a failed trial the negation is in the closure
    failed : Contradiction (Least (UnitClosed cs) (With (has m) l)) → (k : ℤ) → With (has m) (neg_ℤ l) k → Least (Rules cs true) G k
    failed c k (inl z) = i.within k z
    failed c k (inr e) = λ S r h.
        rw e (r.1 l v (contradiction_mono (least_mono (λ S' u. u) (λ x w. ⊎_elim (λ z. inl (i.within x z S r h)) inr w)) c))

    -- a trial by both its closures
    try_ok : (ceiling n : ℕ) → (T (has m (neg_ℤ l)) → ⊥) → (a b : Answer) → Closes (UnitClosed cs) (With (has m) l) a
        → Closes (UnitClosed cs) (With (has m) (neg_ℤ l)) b → InMarks b → StepOk cs G ceiling m n l (try a (λ u. b))
    try_ok ceiling n new (closed t) b p q j = λ c. absurd (no_clash t p c)
    try_ok ceiling n new clash clash p q j = contradiction_mono (least_within (λ S r. r.0) (failed p)) q
    try_ok ceiling n new clash (closed t) p q j = (
      record {
        holds = λ x g. q.holds x (inl (i.holds x g));
        unit = q.closed;
        within = λ x g. least_within (λ S r. r.0) (failed p) x (q.within x g);
        marks = j;
      },
      (λ x g. q.holds x (inl g)),
      decided_grows m t (λ x g. q.holds x (inl g)) (neg_ℤ l) (negation_literal l v).0 (q.holds (neg_ℤ l) (inr refl)) new,
    )

    step_ok : (ceiling n : ℕ) → StepOk cs G ceiling m n l (step cs ceiling m n l)
    unfolding step
    step_ok ceiling n = go (is_decided m l) refl (eqb n ceiling) refl
      where
        go : (b : Bool) → is_decided m l ≡ b → (c : Bool) → eqb n ceiling ≡ c
            → StepOk cs G ceiling m n l (step_of b c (λ u. try (unit_closure cs (mark m l)) (λ u. unit_closure cs (mark m (neg_ℤ l)))))
        go true e c d = trial_decided cs (has m) i.unit (has_consistent m) l ((or_iff (has m l) (has m (neg_ℤ l))).0 (rw e tt))
        go false e true d = eqb-true n ceiling d
        go false e false d =
            let none : T (has m l) ⊎ T (has m (neg_ℤ l)) → ⊥ = λ t. rw e at ((or_iff (has m l) (has m (neg_ℤ l))).1 t) in
            let w = (negation_literal l v).0 in
            try_ok ceiling n (λ t. none (inr t)) (unit_closure cs (mark m l)) (unit_closure cs (mark m (neg_ℤ l)))
            (closes_with m l v (λ t. none (inr t))) (closes_with m (neg_ℤ l) w (λ t. none (inl (rw neg_ℤ-neg_ℤ at t))))
            (unit_closure_marks cs wf (mark m (neg_ℤ l)) (is_marks_mark m (neg_ℤ l) i.marks w))

  settled_least : (m : List ℕ) → Sound cs G m → ((l : ℤ) → Literal l → TrialAt cs (has m) l) → IsLeast (Rules cs true) G (has m)
  settled_least m i t = record { holds = i.holds; closed = (i.unit, t); within = i.within }

  full_least : (m : List ℕ) → Sound cs G m → decided m ≡ 729 → IsLeast (Rules cs true) G (has m)
  full_least m i e = settled_least m i (λ l v. trial_decided cs (has m) i.unit (has_consistent m) l (decided_total m e l v))

-- of a pass that began with d decided: after a failure more are decided; before one the trial rule holds of all but the rest of the order
abbrev Pending : List Clause → ℕ → List ℕ → List ℤ → Bool → Type 0
Pending cs d m ls true = d < decided m
Pending cs d m ls false = (l : ℤ) → Literal l → TrialAt cs (has m) l ⊎ Memᴰ l ls

-- what holds along a pass that began at state s, where ls is the rest of the order
record Along (cs : List Clause) (G : ℤ → Type 0) (s : List ℕ) (bound : ℕ) (ls : List ℤ) (m : List ℕ) (n : ℕ) (f : Bool) : Type 0 where
  sound : Sound cs G m
  grown : Grown s m
  part : decided m < 729
  count : n + passing (is_open s) ls ≤ bound
  pending : Pending cs (decided s) m ls f

-- and at its end
abbrev WalkOk : List Clause → (ℤ → Type 0) → ℕ → List ℕ → ℕ → Walk → Type 0
WalkOk cs G ceiling s bound (walked m n f) = Along cs G s bound [] m n f
WalkOk cs G ceiling s bound (ended e) = JobOk (Rules cs true) G ceiling bound e

settle : (cs : List Clause) (d : ℕ) (m : List ℕ) (l : ℤ) (ls : List ℤ) → TrialAt cs (has m) l → (f : Bool) → Pending cs d m (l ∷ ls) f → Pending cs d m ls f
settle cs d m l ls k true p = p
settle cs d m l ls k false p = λ x v. ⊎_elim inl (λ i. ⊎_elim (λ e. inl (rw e k)) inr (Memᴰ.cases_cons i)) (p x v)

module _ (cs : List Clause) (wf : WellFormed cs) (G : ℤ → Type 0) (ceiling : ℕ) where
  walk_ok : (s : List ℕ) (bound : ℕ) (ls : List ℤ) → ((l : ℤ) → Memᴰ l ls → Literal l) → (m : List ℕ) (n : ℕ) (f : Bool)
      → Along cs G s bound ls m n f → WalkOk cs G ceiling s bound (walk cs ceiling ls m n f)
  unfolding walk passing
  walk_ok s bound [] lits m n f o = o
  walk_ok s bound (l ∷ ls) lits m n f o =
      go (step cs ceiling m n l) (step_ok cs wf G m o.sound l (lits l (Memᴰ.head refl)) ceiling n) (step_spends cs ceiling m n l)
      (walk_ok s bound ls (λ k j. lits k (Memᴰ.tail j)))
    where
      Next : Type 0
      Next = (t : List ℕ) (c : ℕ) (b : Bool) → Along cs G s bound ls t c b → WalkOk cs G ceiling s bound (walk cs ceiling ls t c b)

      -- the bound has room for the trial of an open literal
      room : (c : ℕ) → c ≤ n + tick (is_open m l) → c + passing (is_open s) ls ≤ bound
      room c h = omega (arith, o.count, open_falls s m o.grown l)

      stay : (c : ℕ) → c ≤ n + tick (is_open m l) → TrialAt cs (has m) l → Along cs G s bound ls m c f
      stay c h k = record { sound = o.sound; grown = o.grown; part = o.part; count = room c h; pending = settle cs (decided s) m l ls k f o.pending }

      go : (x : Step) → StepOk cs G ceiling m n l x → spends x ≤ tick (is_open m l) → Next → WalkOk cs G ceiling s bound (after x m n f (walk cs ceiling ls))
      go skip k h r = r m n f (stay n (omega arith) k)
      go kept k h r = r m (n + 1) f (stay (n + 1) (omega arith) k)
      go halt k h r =
          let more = room (n + 1) (omega arith) in
          record { end = (o.sound.within, o.part); count = omega arith; whole = λ b q. omega (arith, k); marks = o.sound.marks }
      go broken k h r = record { end = k; count = omega (arith, room (n + 1) (omega arith)); whole = λ b q. omega arith; marks = is_marks_blank }
      go (refuted t) k h r =
          full_cases (λ b. WalkOk cs G ceiling s bound (unless_full b t (n + 1) (walk cs ceiling ls))) t
          (λ e. record { end = (full_least cs wf G t k.0 e, e); count = omega (arith, room (n + 1) (omega arith)); whole = λ b q. omega arith; marks = k.0.marks })
          (λ u. let more : decided s < decided t = omega (arith, k.2, decided_rises s m o.grown) in
          r t (n + 1) true (record { sound = k.0; grown = λ x g. k.1 x (o.grown x g); part = u; count = room (n + 1) (omega arith); pending = more }))

  module _ (order : List ℤ) (covers : (l : ℤ) → Literal l ↔ Memᴰ l order) (once : NoneTwice order) where
    -- at most u variables are undecided, and there are passes enough for them
    passes_ok : (bound k u : ℕ) (m : List ℕ) (n : ℕ) → Sound cs G m → decided m < 729 → 729 ≤ u + decided m → u ≤ k → n + u * suc u ≤ bound
        → JobOk (Rules cs true) G ceiling bound (passes cs ceiling k order m n)
    unfolding passes
    passes_ok bound k zero m n i h e a b = absurd (omega arith)
    passes_ok bound zero (suc u) m n i h e a b = absurd (omega arith)
    passes_ok bound (suc k) (suc u) m n i h e a b =
        go (walk cs ceiling order m n false)
        (walk_ok m (n + passing (is_open m) order) order (λ l. (covers l).1) m n false
        (record { sound = i; grown = λ l t. t; part = h; count = omega arith; pending = λ l v. inr ((covers l).0 v) }))
        (passes_ok bound k u)
      where
        fits : n + passing (is_open m) order + u * suc u ≤ bound
        fits = omega (arith, open_most order (λ l. (covers l).1) once m, suc-mul u (suc (suc u)), mul-suc u (suc u))

        go : (w : Walk) → WalkOk cs G ceiling m (n + passing (is_open m) order) w
            → ((t : List ℕ) (c : ℕ) → Sound cs G t → decided t < 729 → 729 ≤ u + decided t → u ≤ k → c + u * suc u ≤ bound
            → JobOk (Rules cs true) G ceiling bound (passes cs ceiling k order t c))
            → JobOk (Rules cs true) G ceiling bound (next_pass w (passes cs ceiling k order))
        go (walked t c true) o r = r t c o.sound o.part (omega (arith, o.pending)) (omega arith) (omega (arith, o.count, fits))
        go (walked t c false) o r =
            record {
              end = (settled_least cs wf G t o.sound (λ l v. ⊎_elim (λ x. x) (λ j. absurd (Memᴰ.not-nil j)) (o.pending l v)), o.part);
              count = omega (arith, o.count, fits);
              whole = λ y q. omega arith;
              marks = o.sound.marks;
            }
        go (ended x) o r = record { end = o.end; count = omega (arith, o.count, fits); whole = λ y. o.whole (omega (arith, fits)); marks = o.marks }

    -- from givens that leave at most u variables undecided
    start_ok : (u : ℕ) → u ≤ 729 → ((m : List ℕ) → Holds G (has m) → 729 ≤ u + decided m)
        → (t : Bool) (a : Answer) → Closes (UnitClosed cs) G a → InMarks a → JobOk (Rules cs t) G ceiling (u * suc u) (start cs ceiling t order a)
    start_ok u most left t clash k i =
        record { end = contradiction_mono (least_mono (rules_unit cs t) (λ l p. p)) k; count = omega arith; whole = λ b q. omega arith; marks = is_marks_blank }
    start_ok u most left false (closed m) k i =
        full_cases (λ b. JobOk (Rules cs false) G ceiling (u * suc u) (from_closure cs ceiling b false order m)) m
        (λ e. record { end = (k, e); count = omega arith; whole = λ b q. omega arith; marks = i })
        (λ h. record { end = (k, h); count = omega arith; whole = λ b q. omega arith; marks = i })
    start_ok u most left true (closed m) k i =
        let inside : Within (has m) (Least (Rules cs true) G) = λ l p. least_mono (λ S r. r.0) (λ x q. q) l (k.within l p) in
        let s : Sound cs G m = record { holds = k.holds; unit = k.closed; within = inside; marks = i } in
        full_cases (λ b. JobOk (Rules cs true) G ceiling (u * suc u) (from_closure cs ceiling b true order m)) m
        (λ e. record { end = (full_least cs wf G m s e, e); count = omega arith; whole = λ b q. omega arith; marks = i })
        (λ h. passes_ok (u * suc u) 729 u m 0 s h (left m k.holds) most (omega arith))

-- Whatever the order and the ceiling, a job ends as it should. Where its givens leave at most u variables undecided, it makes at most u (u + 1)
-- trials, and no ceiling from there on stops it.
pub job_ok : (cs : List Clause) → WellFormed cs → (ceiling : ℕ) (t : Bool) (order : List ℤ) → ((l : ℤ) → Literal l ↔ Memᴰ l order) → NoneTwice order
    → (ls : List ℤ) → ((l : ℤ) → Memᴰ l ls → Literal l)
    → (u : ℕ) → u ≤ 729 → ((m : List ℕ) → Holds (λ l. Memᴰ l ls) (has m) → 729 ≤ u + decided m)
    → JobOk (Rules cs t) (λ l. Memᴰ l ls) ceiling (u * suc u) (job_end cs ceiling t order ls)
unfolding job_end
job_ok cs wf ceiling t order covers once ls lits u most left =
    let g = givens_closed cs wf ls lits in
    start_ok cs wf (λ l. Memᴰ l ls) ceiling order covers once u most left t (bind (join blank ls) (unit_closure cs)) g.0 g.1
