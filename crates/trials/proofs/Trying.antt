-- The next literal of an order comes to what the definition's tests say in turn: it is passed over where its variable is decided, the job stops at
-- the ceiling, and else a trial is made. Where that fails, the closure of the negation follows, which ends the job where it decides every variable.
-- Assumes nothing.
use mathlib.Core.Path.{◌≡◌, refl, ap, subst, ◌∙◌}
use mathlib.Core.Logic.{inl, inr, ⊎_elim}
use mathlib.Core.Bool.{Bool, true, false, cond}
use mathlib.Core.List.{List}
use Prim.Native.Nat.{ℕ, ◌+◌}
use lib.Dec.{T, eqb}
use lib.IntN.{ℤ, pos, neg_ℤ, neg_ℤ-neg_ℤ}
use lib.ListN.{get_or}
use Rattle.grid.proofs.Completion.{eq_iff}
use Rattle.grid.proofs.Table.{true_is, false_is}
use Rattle.clauses.specs.Literal.{Literal, is_literal, negation}
use Rattle.clauses.proofs.Signed.{literal_iff}
use Rattle.clauses.specs.Clauses.{Clause}
use Rattle.closure.specs.Marks.{has, is_decided, mark, decided, IsMarks}
use Rattle.closure.specs.Propagation.{Answer, clash, unit_closure}
use Rattle.closure.specs.Job.{Step, refuted, refute, try, step_of, step, Walk, walked, ended, after, is_full, solved, stopped}
use Rattle.closure.proofs.Marks.{or_iff}
use Rattle.worklist.proofs.Literals.{place_at, open_byte}

not_not : (b : Bool) → ((T b → ⊥) → ⊥) → T b
not_not true n = tt
not_not false n = absurd (n (λ t. t))

-- a trial that fails, by the closure of the negation
pub try_failed : {a b : Answer} → clash ≡ a → (n : Answer) → n ≡ b → refute n ≡ try a (λ u. b)
try_failed {a} {b} e n f = ap refute f ∙ ap (λ x. try x (λ u. b)) e

-- the negation of a literal
pub negation_is : (l : ℤ) → Literal l → negation l ≡ neg_ℤ l
unfolding negation
negation_is l v = go (is_literal l) ((literal_iff l).1 v)
  where
    go : (b : Bool) → T b → cond b (neg_ℤ l) (pos 0) ≡ neg_ℤ l
    go true t = refl
    go false t = absurd t

-- a literal's variable is decided as its negation's is
pub open_negation : (m : List ℕ) (l : ℤ) → (T (is_decided m l) → ⊥) → T (is_decided m (neg_ℤ l)) → ⊥
open_negation m l n t =
    ⊎_elim (λ x. n ((or_iff (has m l) (has m (neg_ℤ l))).1 (inr x))) (λ x. n ((or_iff (has m l) (has m (neg_ℤ l))).1 (inl (subst (λ y. T (has m y)) (neg_ℤ-neg_ℤ l) x))))
    ((or_iff (has m (neg_ℤ l)) (has m (neg_ℤ (neg_ℤ l)))).0 t)

-- a place is decided where its byte is not 0
pub byte_decided : (m : List ℕ) → IsMarks m → (l : ℤ) → Literal l → (get_or m (place_at l) 0 ≡ 0 → ⊥) → T (is_decided m l)
byte_decided m i l v n = not_not (is_decided m l) (λ t. n (open_byte m i l v t))

-- the next literal of an order
module _ (cs : List Clause) (ceiling : ℕ) (m : List ℕ) (n : ℕ) (l : ℤ) (f : Bool) where
  abbrev Next : Walk
  Next = after (step cs ceiling m n l) m n f (λ t k b. walked t k b)

  abbrev trial : Unit {0} → Step
  trial u = try (unit_closure cs (mark m l)) (λ v. unit_closure cs (mark m (neg_ℤ l)))

  by_test : (d e : Bool) → is_decided m l ≡ d → eqb n ceiling ≡ e → after (step_of d e trial) m n f (λ t k b. walked t k b) ≡ Next
  unfolding step
  by_test d e x y = rw (x, y) refl

  pub next_skip : T (is_decided m l) → walked m n f ≡ Next
  next_skip t = by_test true (eqb n ceiling) (true_is (is_decided m l) t) refl

  pub next_halt : (T (is_decided m l) → ⊥) → n ≡ ceiling → ended (stopped m n) ≡ Next
  next_halt t e = by_test false true (false_is (is_decided m l) t) (true_is (eqb n ceiling) ((eq_iff n ceiling).1 e))

  pub next_tried : (T (is_decided m l) → ⊥) → (n ≡ ceiling → ⊥) → (t : Step) → t ≡ trial tt → after t m n f (λ t k b. walked t k b) ≡ Next
  next_tried t e s q =
      ap (λ x. after x m n f (λ t k b. walked t k b)) q ∙ by_test false false (false_is (is_decided m l) t) (false_is (eqb n ceiling) (λ x. e ((eq_iff n ceiling).0 x)))

-- after a failed trial
pub next_solved : (m m' : List ℕ) (n : ℕ) (f : Bool) → decided m' ≡ 729 → ended (solved m' (n + 1)) ≡ after (refuted m') m n f (λ t k b. walked t k b)
next_solved m m' n f e = rw (true_is (is_full m') ((eq_iff (decided m') 729).1 e)) refl

pub next_more : (m m' : List ℕ) (n : ℕ) (f : Bool) → (decided m' ≡ 729 → ⊥) → walked m' (n + 1) true ≡ after (refuted m') m n f (λ t k b. walked t k b)
next_more m m' n f e = rw (false_is (is_full m') (λ t. e ((eq_iff (decided m') 729).0 t))) refl
