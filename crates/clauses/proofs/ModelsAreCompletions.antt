-- A legal completion's truth is proper, since it has one digit in each cell and each digit once in each house; and a proper truth says
-- at each cell the one digit that is true there. So a model, which is proper, is the truth of the completion that it says.
-- Assumes nothing.
use mathlib.Core.Path.{◌≡◌, refl, ap, sym, ◌∙◌}
use mathlib.Core.Bool.{Bool, true, false}
use mathlib.Core.List.{List, Memᴰ}
use Prim.Native.Nat.{ℕ, zero, suc, ◌+◌, ◌*◌, ◌-◌, ◌/◌, ◌%◌, ◌≤◌, ◌<◌}
use native.Mathlib.Decide.{dec_lt}
use native.Mathlib.Numerals.{add-one}
use native.Mathlib.Omega.{arith}
use lib.Dec.{T, eqb}
use lib.IntN.{ℤ}
use lib.ListN.{length, get_or}
use lib.Seq.{ext_get_or}
use borrow.Author.Tests.{eq-eqb, ne_eqb}
use Rattle.grid.specs.Counting.{total, tally}
use Rattle.grid.specs.Grid.{byte, is_digit}
use Rattle.grid.specs.House.{cell_of}
use Rattle.grid.specs.Completion.{times, Legal}
use Rattle.grid.proofs.Counting.{tally_same, tally_some, tally_find, tally_pair, tally_most}
use Rattle.grid.proofs.House.{cell_below}
use Rattle.grid.proofs.Completion.{digit_iff, eq_iff}
use Rattle.clauses.specs.Models.{Truth, holds, givens, truth_of, pick, table, completion_of, Precisely}
use Rattle.clauses.specs.Shape.{place_of}
use Rattle.clauses.specs.declared.ClauseSet.{ClauseSet}
use Rattle.clauses.specs.declared.Group.TheVariants.{Cell, House}
use Rattle.clauses.proofs.Members.{member_iff, givens_true_iff}
use Rattle.clauses.proofs.Proper.{Proper, proper_satisfies, satisfying_proper}

-- the entry of a table at a place
pub table_at : (a n : ℕ) (f : ℕ → ℕ) (k i : ℕ) → k < n → a + k ≡ i → get_or (table a n f) k 0 ≡ f i
unfolding table
table_at a zero f k i h e = absurd (omega arith)
table_at a (suc n) f zero i h e = ap f (omega arith)
table_at a (suc n) f (suc k) i h e = table_at (suc a) n f k i (omega arith) (omega arith)

-- where at most one number below n passes, one that passes is picked
pick_is : (n : ℕ) (p : ℕ → Bool) → tally n p ≤ 1 → (d : ℕ) → d < n → T (p d) → pick n p ≡ d
unfolding pick total
pick_is zero p h d b t = absurd (omega arith)
pick_is (suc n) p h d b t = go (p n) refl (dec_lt d n) (λ c. pick_is n p (omega arith) d c t)
  where
    go : (x : Bool) → p n ≡ x → Dec (d < n) → (d < n → pick n p ≡ d) → pick (suc n) p ≡ d
    go true e (yes c) r = absurd (tally_pair p (suc n) h d n c (omega arith) t (rw e tt))
    go true e (no c) r = rw (e, pick) (omega arith)
    go false e (yes c) r = rw (e, pick) (r c)
    go false e (no c) r = let f : d ≡ n = omega arith in absurd (rw (f, e) at t)

-- a digit's byte is that of one digit
one_digit : (x : ℕ) → T (is_digit x) → tally 9 (λ d. eqb x (49 + d)) ≡ 1
one_digit x t =
    let h = (digit_iff x).0 t in
    let least = tally_some (λ d. eqb x (49 + d)) 9 (x - 49) (omega arith) ((eq_iff x (49 + (x - 49))).1 (omega arith)) in
    let most = tally_most (λ d. eqb x (49 + d)) 9 (λ i j a b u v. omega (arith, (eq_iff x (49 + i)).0 u, (eq_iff x (49 + j)).0 v)) in
    omega arith

-- the variable of digit d + 1 at cell c is true where the cell's byte is the digit
pub truth_at : (b : List ℕ) (c d : ℕ) → d < 9 → truth_of b (suc (9 * c + d)) ≡ eqb (byte b c) (49 + d)
unfolding truth_of
truth_at b c d h =
    let e : (suc (9 * c + d) - 1) / 9 ≡ c = omega arith in
    let f : (suc (9 * c + d) - 1) % 9 ≡ d = omega arith in
    rw (e, f)

-- where a cell's byte is the digit x, the variable of x is true
byte_true : (b : List ℕ) (c x : ℕ) → T (is_digit x) → byte b c ≡ x → T (truth_of b (suc (9 * c + (x - 49))))
byte_true b c x t e =
    let h = (digit_iff x).0 t in
    rw (truth_at b c (x - 49) (omega arith)) ((eq_iff (byte b c) (49 + (x - 49))).1 (omega arith))

-- a legal completion's truth is proper
pub legal_proper : {g b : List ℕ} → Legal g b → Proper (truth_of b)
unfolding times place_of
legal_proper {g} {b} l (Cell c) h = tally_same 9 _ _ (truth_at b c) ∙ one_digit (byte b c) (l.digits c h)
legal_proper {g} {b} l (House h d) i = tally_same 9 _ _ (λ k u. truth_at b (cell_of h k) d i.1) ∙ l.once h d i.0 i.1

-- a truth says 81 digits
pub completion_long : (A : Truth) → length (completion_of A) ≡ 81
unfolding completion_of table
completion_long A = refl

module _ (A : Truth) (p : Proper A) where
  some_true : (c : ℕ) → c < 81 → (d : ℕ) × (d < 9) × T (A (suc (9 * c + d)))
  unfolding place_of
  some_true c h = tally_find (λ d. A (suc (9 * c + d))) 9 (omega (arith, p (Cell c) h))

  -- a proper truth says the digit that is true at a cell,
  pub says : (c d : ℕ) → c < 81 → d < 9 → T (A (suc (9 * c + d))) → byte (completion_of A) c ≡ 49 + d
  unfolding completion_of place_of
  says c d h k t =
      let e = pick_is 9 (λ d. A (9 * c + d + 1)) (simp add-one (omega (arith, p (Cell c) h))) d k (rw add-one t) in
      table_at 0 81 _ c c h (omega arith) ∙ ap (λ x. 49 + x) e

  -- and no other,
  says_at : (c d : ℕ) → c < 81 → d < 9 → eqb (byte (completion_of A) c) (49 + d) ≡ A (suc (9 * c + d))
  says_at c d h k = go (A (suc (9 * c + d))) refl
    where
      go : (x : Bool) → A (suc (9 * c + d)) ≡ x → eqb (byte (completion_of A) c) (49 + d) ≡ x
      go true q = eq-eqb (byte (completion_of A) c) (49 + d) (says c d h k (rw q tt))
      go false q = ne_eqb (byte (completion_of A) c) (49 + d) (λ r.
          let w = some_true c h in
          let e : w.0 ≡ d = omega (arith, says c w.0 h w.1 w.2) in
          rw (e, q) at w.2)

  -- so it is the truth of the digits that it says,
  pub proper_truth : (v : ℕ) → 1 ≤ v → v ≤ 729 → truth_of (completion_of A) v ≡ A v
  proper_truth v a b =
      let c = (v - 1) / 9 in
      let d = (v - 1) % 9 in
      let e : suc (9 * c + d) ≡ v = omega arith in
      rw e at (truth_at (completion_of A) c d (omega arith) ∙ says_at c d (omega arith) (omega arith))

  -- which are a legal completion of a grid whose givens are true
  pub proper_legal : (g : List ℕ) → ((l : ℤ) → Memᴰ l (givens g) → T (holds A l)) → Legal g (completion_of A)
  unfolding times place_of
  proper_legal g keeps = record {
    long = completion_long A;
    digits = λ c h. let w = some_true c h in (digit_iff (byte (completion_of A) c)).1 (omega (arith, w.1, says c w.0 h w.1 w.2));
    keeps = λ c h t.
        let i = (digit_iff (byte g c)).0 t in
        omega (arith, says c (byte g c - 49) h (omega arith) ((givens_true_iff A g).0 keeps c h t));
    once = λ h d i j. tally_same 9 _ _ (λ k u. says_at (cell_of h k) d (cell_below h k i u) j) ∙ p (House h d) (i, j);
  }

-- The models of either clause set and of a grid's givens are precisely the grid's legal completions.
pub models_are_completions : (s : ClauseSet) (g : List ℕ) → Precisely s g
models_are_completions s g =
    record {
      models = λ b l. record {
        clauses = λ c m. let w = (member_iff s c).0 m in rw (← w.3) (proper_satisfies (truth_of b) (legal_proper l) w.0 w.1);
        keeps = (givens_true_iff (truth_of b) g).1 (λ c h t. byte_true b c (byte g c) t (l.keeps c h t));
      };
      completions = λ A m. proper_legal A (satisfying_proper A s m.clauses) g m.keeps;
      same_digits = λ b l. ext_get_or 0 (completion_of (truth_of b)) b (completion_long (truth_of b) ∙ sym l.long) (λ c h.
          let i : c < 81 = omega (arith, completion_long (truth_of b)) in
          let j = (digit_iff (byte b c)).0 (l.digits c i) in
          omega (arith, says (truth_of b) (legal_proper l) c (byte b c - 49) i (omega arith) (byte_true b c (byte b c) (l.digits c i) refl)));
      same_truth = λ A m. proper_truth A (satisfying_proper A s m.clauses);
    }
