-- A pass makes at most two trials for each variable that is undecided at its start. It tries an entry of the order only where the entry's
-- variable is undecided; and a list that has no literal twice has no more entries that pass a test than there are literals that pass it.
-- Assumes nothing.
use mathlib.Core.Path.{◌≡◌, refl, sym, subst}
use mathlib.Core.Logic.{◌⊎◌, inl, inr, ⊎_elim, ⊎_swap, ◌↔◌}
use mathlib.Core.Bool.{Bool, true, false, not}
use mathlib.Core.List.{List, [], ◌∷◌, Memᴰ}
use Prim.Native.Nat.{ℕ, zero, suc, ◌+◌, ◌*◌, ◌≤◌, ◌<◌}
use native.Mathlib.Omega.{arith}
use lib.Dec.{T, eqb, T_not, not_T}
use lib.IntN.{ℤ, pos, negsuc, neg_ℤ, ℤ_discrete}
use Rattle.grid.specs.Counting.{tick, tally}
use Rattle.clauses.specs.Literal.{Literal}
use Rattle.clauses.specs.Clauses.{Clause}
use Rattle.closure.specs.Sets.{LiteralSet}
use Rattle.closure.specs.Marks.{has, is_decided, mark, decided}
use Rattle.closure.specs.Propagation.{unit_closure}
use Rattle.closure.specs.Job.{Step, skip, halt, kept, broken, refuted, try, step_of, step}
use Rattle.closure.proofs.Tally.{tick_compare, tally_compare, tally_less, tally_apart}
use Rattle.closure.proofs.Marks.{decided_at, decided_tally, or_iff, place_iff}
use Rattle.closure.specs.Laws.{NoneTwice}
use Rattle.closure.proofs.Clauses.{once_head, once_tail}

-- how many entries of a list pass a test
unfoldable pub passing : (ℤ → Bool) → List ℤ → ℕ
passing p [] = 0
passing p (l ∷ ls) = tick (p l) + passing p ls

-- how many literals are in a set
abbrev size : LiteralSet → ℕ
size S = tally 729 (λ k. S (pos (suc k))) + tally 729 (λ k. S (negsuc k))

-- false where A is decided to hold
abbrev unless : {A : Type 0} → Dec A → Bool → Bool
unless (yes e) b = false
unless (no n) b = b

unless_iff : {A : Type 0} (d : Dec A) (b : Bool) → T (unless d b) ↔ (T b × (A → ⊥))
unless_iff (yes e) b = ((λ t. absurd t), λ w. w.1 e)
unless_iff (no n) b = ((λ t. (t, n)), λ w. w.0)

-- the set without a literal
abbrev without : LiteralSet → ℤ → LiteralSet
without S l x = unless (ℤ_discrete x l) (S x)

without_iff : (S : LiteralSet) (l x : ℤ) → T (without S l x) ↔ (T (S x) × (x ≡ l → ⊥))
without_iff S l x = unless_iff (ℤ_discrete x l) (S x)

-- it is smaller where it had that literal
size_less : (S : LiteralSet) (l : ℤ) → Literal l → T (S l) → size (without S l) < size S
size_less S l v t = go l v t (λ u. ((without_iff S l l).0 u).1 refl)
  where
    Q : LiteralSet
    Q = without S l

    sub : (x : ℤ) → T (Q x) → T (S x)
    sub x u = ((without_iff S l x).0 u).0

    go : (x : ℤ) → Literal x → T (S x) → (T (Q x) → ⊥) → size Q < size S
    go (pos zero) v t n = absurd v
    go (pos (suc k)) v t n =
        omega (
          arith,
          tally_less 729 (λ k. Q (pos (suc k))) (λ k. S (pos (suc k))) (λ k b. sub (pos (suc k))) k v t n,
          (tally_compare 729 (λ k. Q (negsuc k)) (λ k. S (negsuc k)) (λ k b. sub (negsuc k))).0,
        )
    go (negsuc k) v t n =
        omega (
          arith,
          tally_less 729 (λ k. Q (negsuc k)) (λ k. S (negsuc k)) (λ k b. sub (negsuc k)) k v t n,
          (tally_compare 729 (λ k. Q (pos (suc k))) (λ k. S (pos (suc k))) (λ k b. sub (pos (suc k)))).0,
        )

-- entries that all pass a second test pass it at least as often
passing_rises : (p q : ℤ → Bool) (ls : List ℤ) → ((l : ℤ) → Memᴰ l ls → T (p l) → T (q l)) → passing p ls ≤ passing q ls
unfolding passing
passing_rises p q [] h = omega arith
passing_rises p q (l ∷ ls) h = omega (arith, (tick_compare (p l) (q l) (h l (Memᴰ.head refl))).0, passing_rises p q ls (λ x i. h x (Memᴰ.tail i)))

-- of literals, none twice, no more are in a set than the set has
passing_most : (ls : List ℤ) → ((l : ℤ) → Memᴰ l ls → Literal l) → NoneTwice ls → (S : LiteralSet) → passing S ls ≤ size S
unfolding passing
passing_most [] lits once S = omega arith
passing_most (l ∷ ls) lits once S = go (S l) refl (passing_most ls (λ x i. lits x (Memᴰ.tail i)) (once_tail l ls once))
  where
    go : (b : Bool) → S l ≡ b → ((P : LiteralSet) → passing P ls ≤ size P) → tick b + passing S ls ≤ size S
    go false e r = omega (arith, r S)
    go true e r =
        let others = passing_rises S (without S l) ls (λ x i t. (without_iff S l x).1 (t, λ q. once_head l ls once (subst (λ y. Memᴰ y ls) q i))) in
        omega (arith, others, r (without S l), size_less S l (lits l (Memᴰ.head refl)) (subst T (sym e) tt))

-- the variable of the literal is undecided
abbrev pub is_open : List ℕ → ℤ → Bool
is_open m l = not (is_decided m l)

open_iff : (m : List ℕ) (l : ℤ) → T (is_open m l) ↔ (T (has m l) ⊎ T (has m (neg_ℤ l)) → ⊥)
open_iff m l =
    let d = or_iff (has m l) (has m (neg_ℤ l)) in
    ((λ t z. T_not (is_decided m l) t (d.1 z)), λ f. not_T (is_decided m l) (λ z. f (d.0 z)))

-- two literals for each undecided variable are open
open_size : (m : List ℕ) → size (is_open m) + 2 * decided m ≤ 1458
open_size m =
    omega (
      arith,
      decided_tally 729 m,
      tally_apart 729 (λ k. is_open m (pos (suc k))) (decided_at m) (λ k b t d. (open_iff m (pos (suc k))).0 t ((place_iff m k).0 d)),
      tally_apart 729 (λ k. is_open m (negsuc k)) (decided_at m) (λ k b t d. (open_iff m (negsuc k)).0 t (⊎_swap ((place_iff m k).0 d))),
    )

-- so at most two entries of the order are open for each undecided variable
pub open_most : (order : List ℤ) → ((l : ℤ) → Memᴰ l order → Literal l) → NoneTwice order → (m : List ℕ) → passing (is_open m) order + 2 * decided m ≤ 1458
open_most order lits once m = omega (arith, passing_most order lits once (is_open m), open_size m)

-- what is open after more marks was open before them
pub open_falls : (m t : List ℕ) → ((l : ℤ) → T (has m l) → T (has t l)) → (l : ℤ) → tick (is_open t l) ≤ tick (is_open m l)
open_falls m t sub l =
    (tick_compare (is_open t l) (is_open m l) (λ u. (open_iff m l).1 (λ d. (open_iff t l).0 u (⊎_elim (λ z. inl (sub l z)) (λ z. inr (sub (neg_ℤ l) z)) d)))).0

-- the trials of a step, with the one that the ceiling stops
abbrev pub spends : Step → ℕ
spends skip = 0
spends halt = 1
spends kept = 1
spends broken = 1
spends (refuted t) = 1

-- only an open literal is tried
pub step_spends : (cs : List Clause) (ceiling : ℕ) (m : List ℕ) (n : ℕ) (l : ℤ) → spends (step cs ceiling m n l) ≤ tick (is_open m l)
unfolding step
step_spends cs ceiling m n l = go (is_decided m l) (eqb n ceiling) (λ u. try (unit_closure cs (mark m l)) (λ v. unit_closure cs (mark m (neg_ℤ l))))
  where
    most : (s : Step) → spends s ≤ 1
    most skip = omega arith
    most halt = omega arith
    most kept = omega arith
    most broken = omega arith
    most (refuted t) = omega arith

    go : (d e : Bool) (s : Unit {0} → Step) → spends (step_of d e s) ≤ tick (not d)
    go true e s = omega arith
    go false true s = omega arith
    go false false s = most (s tt)
