-- A full legal grid is solved by every technique with no trial. Its own truth is a model, so that the unit closure of its givens is no
-- contradiction; a true variable is a given; and a false one is struck by a pair clause of its row, where its digit stands elsewhere.
-- Assumes nothing.
use mathlib.Core.Path.{◌≡◌, refl, ap, sym, ◌∙◌}
use mathlib.Core.Logic.{◌⊎◌, inl, inr, ⊎_elim}
use mathlib.Core.Bool.{Bool, true, false, ◌||◌}
use mathlib.Core.List.Memᴰ
use mathlib.Core.List.{List, [], ◌∷◌, Memᴰ}
use Prim.Native.Nat.{ℕ, zero, suc, ◌+◌, ◌*◌, ◌/◌, ◌%◌, ◌<◌}
use native.Mathlib.Decide.{dec_lt}
use native.Mathlib.Omega.{arith}
use borrow.Author.Tests.{eq-eqb}
use lib.Dec.{T, eqb, eqb→eq}
use lib.IntN.{ℤ, pos, negsuc}
use Rattle.grid.specs.Grid.{byte, is_digit, digit_of}
use Rattle.grid.specs.Completion.{Legal}
use Rattle.grid.specs.Counting.{tick}
use Rattle.grid.proofs.Counting.{tally_find}
use Rattle.grid.proofs.Completion.{digit_iff}
use Rattle.grid.proofs.House.{row_cell}
use Rattle.clauses.specs.Clauses.{clauses_of}
use Rattle.clauses.specs.Models.{givens, Model, truth_of}
use Rattle.clauses.specs.Shape.{place_of, IsShape, InSet, clause_of}
use Rattle.clauses.specs.declared.ClauseSet.{ClauseSet}
use Rattle.clauses.specs.declared.ClauseSet.TheVariants.{Minimal, Extended}
use Rattle.clauses.specs.declared.Group.TheVariants.{House}
use Rattle.clauses.specs.declared.Shape.TheVariants.{NotBoth}
use Rattle.clauses.proofs.Members.{member_iff, givens_iff, given_variable, given_literal}
use Rattle.clauses.proofs.ModelsAreCompletions.{truth_at, legal_proper, models_are_completions}
use Rattle.closure.specs.Sets.{LiteralSet}
use Rattle.closure.specs.Closure.{UnitClosed}
use Rattle.closure.specs.Marks.{has, decided_in, decided, blank}
use Rattle.closure.specs.Propagation.{Answer, clash, closed, bind, unit_closure, join, Closes}
use Rattle.closure.specs.Job.{solved, start, job_end}
use Rattle.closure.proofs.Closure.{model_consistent}
use Rattle.closure.proofs.Marks.{or_iff}
use Rattle.closure.proofs.ClauseSets.{well_formed}
use Rattle.closure.proofs.Propagation.{givens_closed}

-- where each of the first n variables is marked, true or false, n are decided
all_decided : (n : ℕ) (m : List ℕ) → ((k : ℕ) → k < n → T (has m (pos (suc k))) ⊎ T (has m (negsuc k))) → decided_in n m ≡ n
unfolding decided_in has
all_decided zero m h = refl
all_decided (suc n) [] h = absurd (⊎_elim (λ t. t) (λ t. t) (h 0 (omega arith)))
all_decided (suc n) (b ∷ m) h =
    omega (arith, one (eqb b 1 || eqb b 2) ((or_iff (eqb b 1) (eqb b 2)).1 (h 0 (omega arith))), all_decided n m (λ k i. h (suc k) (omega arith)))
  where
    one : (x : Bool) → T x → tick x ≡ 1
    one true t = refl
    one false t = absurd t

-- both sets have the pairs of the houses
pair_in : (s : ClauseSet) (h d i j : ℕ) → InSet s (NotBoth (House h d) i j)
pair_in Minimal h d i j = tt
pair_in Extended h d i j = tt

module _ (s : ClauseSet) (S : LiteralSet) (u : UnitClosed (clauses_of s) S) where
  -- of two places of a house, where one is true the other is false
  pair_strikes : (h d i j : ℕ) → IsShape (NotBoth (House h d) i j)
      → (T (S (pos (suc (place_of (House h d) i)))) → T (S (negsuc (place_of (House h d) j))))
      × (T (S (pos (suc (place_of (House h d) j)))) → T (S (negsuc (place_of (House h d) i))))
  unfolding clause_of
  pair_strikes h d i j w =
      let p = place_of (House h d) i in
      let q = place_of (House h d) j in
      let rule = u (negsuc p ∷ negsuc q ∷ []) ((member_iff s (negsuc p ∷ negsuc q ∷ [])).1 (NotBoth (House h d) i j, w, pair_in s h d i j, refl)) in (
        (λ t. rule (negsuc q) (Memᴰ.tail (Memᴰ.head refl)) (λ m a n.
            ⊎_elim (λ e. rw e t) (λ r. absurd (n (Memᴰ.eq_of_singleton r))) (Memᴰ.cases_cons a))),
        λ t. rule (negsuc p) (Memᴰ.head refl) (λ m a n.
            ⊎_elim (λ e. absurd (n e)) (λ r. let e = Memᴰ.eq_of_singleton r in rw e t) (Memᴰ.cases_cons a)),
      )

module _ (s : ClauseSet) (b : List ℕ) (l : Legal b b) where
  -- the grid's own truth is a model of its givens
  own : Model s b (truth_of b)
  own = (models_are_completions s b).models b l

  module _ (S : LiteralSet) (u : UnitClosed (clauses_of s) S) (g : (x : ℤ) → Memᴰ x (givens b) → T (S x)) where
    -- a true variable is given
    true_given : (c d : ℕ) → c < 81 → d < 9 → T (truth_of b (suc (9 * c + d))) → T (S (pos (suc (9 * c + d))))
    true_given c d h i t =
        let e : byte b c ≡ 49 + d = eqb→eq (byte b c) (49 + d) (rw (truth_at b c d i) at t) in
        let digit : T (is_digit (byte b c)) = (digit_iff (byte b c)).1 (omega arith, omega arith) in
        let v : 9 * c + digit_of (byte b c) ≡ suc (9 * c + d) = given_variable c (byte b c) digit ∙ omega arith in
        g (pos (suc (9 * c + d))) ((givens_iff b _).1 (c, h, digit, ap pos (sym v)))

    -- a false one is struck where its digit stands in another cell of its row,
    struck_by : (x y d j : ℕ) → x < 9 → y < 9 → d < 9 → j < 9 → (j ≡ y → ⊥)
        → T (truth_of b (suc (9 * (9 * x + j) + d))) → T (S (negsuc (9 * (9 * x + y) + d)))
    unfolding place_of
    struck_by x y d j h i k a other t =
        let here : place_of (House x d) y ≡ 9 * (9 * x + y) + d = omega (arith, row_cell y x h) in
        let there : T (S (pos (suc (place_of (House x d) j)))) = rw (row_cell j x h) (true_given (9 * x + j) d (omega arith) k t) in
        elim (dec_lt j y) [
          | yes c ↦ rw here at ((pair_strikes s S u x d j y ((omega arith, k), c, i)).0 there)
          | no c ↦ rw here at ((pair_strikes s S u x d y j ((omega arith, k), omega (arith, other), a)).1 there)
        ]

    -- as it does somewhere
    false_struck : (x y d : ℕ) → x < 9 → y < 9 → d < 9 → (T (truth_of b (suc (9 * (9 * x + y) + d))) → ⊥) → T (S (negsuc (9 * (9 * x + y) + d)))
    unfolding place_of
    false_struck x y d h i k f =
        let w = tally_find (λ j. truth_of b (suc (place_of (House x d) j))) 9 (omega (arith, legal_proper l (House x d) (omega arith, k))) in
        let t = rw (row_cell w.0 x h) at w.2 in
        struck_by x y d w.0 h i k w.1 (λ e. f (rw e at t)) t

    -- so that each variable has a sign
    either_sign : (x y d : ℕ) → x < 9 → y < 9 → d < 9 → T (S (pos (suc (9 * (9 * x + y) + d)))) ⊎ T (S (negsuc (9 * (9 * x + y) + d)))
    either_sign x y d h i k = go (truth_of b (suc (9 * (9 * x + y) + d))) refl
      where
        go : (v : Bool) → truth_of b (suc (9 * (9 * x + y) + d)) ≡ v → T (S (pos (suc (9 * (9 * x + y) + d)))) ⊎ T (S (negsuc (9 * (9 * x + y) + d)))
        go true q = inl (true_given (9 * x + y) d (omega arith) k (rw q tt))
        go false q = inr (false_struck x y d h i k (λ t. rw q at t))

  -- the job of a full legal grid, by any technique, is solved with no trial
  pub full_solved : (ceiling : ℕ) (t : Bool) (order : List ℤ) → (m : List ℕ) × (job_end (clauses_of s) ceiling t order (givens b) ≡ solved m 0)
  unfolding job_end
  full_solved ceiling t order =
      go (bind (join blank (givens b)) (unit_closure (clauses_of s))) (givens_closed (clauses_of s) (well_formed s) (givens b) (given_literal b)).0
    where
      go : (a : Answer) → Closes (UnitClosed (clauses_of s)) (λ x. Memᴰ x (givens b)) a
          → (m : List ℕ) × (start (clauses_of s) ceiling t order a ≡ solved m 0)
      go clash k = absurd (model_consistent (truth_of b) (clauses_of s) own.clauses false (λ x. Memᴰ x (givens b)) own.keeps k)
      go (closed m) k =
          let each : (v : ℕ) → v < 729 → T (has m (pos (suc v))) ⊎ T (has m (negsuc v)) = λ v h.
          let e : 9 * (9 * (v / 81) + v / 9 % 9) + v % 9 ≡ v = omega arith in
          rw e at (either_sign (has m) k.closed k.holds (v / 81) (v / 9 % 9) (v % 9) (omega arith) (omega arith) (omega arith)) in
          (m, rw (eq-eqb (decided m) 729 (all_decided 729 m each)) refl)
