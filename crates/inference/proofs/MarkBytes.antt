-- Marks as bytes: a mark that is not 0 is 1 or 2, its variable true or false. So marks decide all variables exactly where none is 0, and a
-- mark that is not 0 is the same in marks that have all its literals.
-- Assumes nothing.
use mathlib.Core.Path.{◌≡◌, refl, sym, ◌∙◌}
use mathlib.Core.Logic.{◌⊎◌, inl, inr, ⊎_elim, ◌↔◌}
use mathlib.Core.Bool.{cond}
use mathlib.Core.List.{List, [], ◌∷◌}
use Prim.Native.Nat.{ℕ, zero, suc, ◌≤◌, ◌<◌}
use native.Mathlib.Decide.{ℕ_discrete}
use native.Mathlib.Omega.{arith}
use lib.Dec.{T, eqb}
use lib.IntN.{ℤ, pos, negsuc}
use Rattle.grid.proofs.Completion.{eq_iff}
use Rattle.closure.specs.Marks.{has, decided_in, decided, IsMarks}
use Rattle.closure.proofs.Marks.{decided_total}
use Rattle.inference.specs.Job.{mark_at, AllDecided}

-- the mark is true or false
abbrev Marked : List ℕ → ℕ → Type 0
Marked m p = (mark_at m p ≡ 1) ⊎ (mark_at m p ≡ 2)

marked : (m : List ℕ) (p : ℕ) → mark_at m p ≤ 2 → (mark_at m p ≡ 0 → ⊥) → Marked m p
marked m p low some = elim (ℕ_discrete (mark_at m p) 1) [ yes e ↦ inl e | no n ↦ inr (omega (arith, low, some)) ]

-- each mark is 0, 1 or 2
pub each_low : (m : List ℕ) → IsMarks m → (p : ℕ) → mark_at m p ≤ 2
each_low m i p = i.small p

full_marked : (m : List ℕ) → decided m ≡ 729 → (p : ℕ) → p < 729 → Marked m p
unfolding has
full_marked m e p h =
    ⊎_elim (λ t. inl ((eq_iff (mark_at m p) 1).0 t)) (λ t. inr ((eq_iff (mark_at m p) 2).0 t)) (decided_total m e (pos (suc p)) h)

marked_full : (n : ℕ) (m : List ℕ) → ((p : ℕ) → p < n → Marked m p) → decided_in n m ≡ n
unfolding decided_in
marked_full zero m f = refl
marked_full (suc n) [] f = absurd (⊎_elim (λ q. omega arith) (λ q. omega arith) (f 0 (omega arith)))
marked_full (suc n) (b ∷ m) f =
    let r = marked_full n m (λ p h. f (suc p) (omega arith)) in
    ⊎_elim (λ q. rw q (omega arith)) (λ q. rw q (omega arith)) (f 0 (omega arith))

-- all variables are decided where no mark is 0
pub full_iff : (m : List ℕ) → IsMarks m → (decided m ≡ 729) ↔ AllDecided m
full_iff m i = (
  (λ e p h z. ⊎_elim (λ q. omega arith) (λ q. omega arith) (full_marked m e p h)),
  λ f. marked_full 729 m (λ p h. marked m p (i.small p) (f p h)),
)

-- there a mark tells which of its variable's literals is marked
pub full_mark : (m : List ℕ) → decided m ≡ 729 → (p : ℕ) → p < 729 → mark_at m p ≡ cond (has m (pos (suc p))) 1 2
unfolding has
full_mark m e p h = ⊎_elim (λ q. rw q) (λ q. rw q) (full_marked m e p h)

-- marks of which all literals are marked again are the same there
pub marks_same : (m n : List ℕ) → ((p : ℕ) → p < 729 → mark_at m p ≤ 2) → ((l : ℤ) → T (has m l) → T (has n l)) → (p : ℕ) → p < 729 → (mark_at m p ≡ 0 → ⊥)
    → mark_at n p ≡ mark_at m p
unfolding has
marks_same m n low sub p h some = ⊎_elim (again 1 (sub (pos (suc p)))) (again 2 (sub (negsuc p))) (marked m p (low p h) some)
  where
    again : (b : ℕ) → (T (eqb (mark_at m p) b) → T (eqb (mark_at n p) b)) → mark_at m p ≡ b → mark_at n p ≡ mark_at m p
    again b t e = (eq_iff (mark_at n p) b).0 (t ((eq_iff (mark_at m p) b).1 e)) ∙ sym e
