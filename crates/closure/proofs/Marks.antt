-- Laws of marks. A byte put at a place is read there and changes no other place. Each place has one byte, so that no literal is marked with
-- its negation. Marks that lie in others decide no more of any place; so they are as many only where they are the same.
-- Assumes nothing.
use mathlib.Core.Path.{◌≡◌, refl, sym, ap, subst, ◌∙◌}
use mathlib.Core.Logic.{◌⊎◌, inl, inr, ⊎_elim, ⊎_swap, ◌↔◌}
use mathlib.Core.Bool.{Bool, true, false, ◌||◌}
use mathlib.Core.List.{List, [], ◌∷◌}
use Prim.Native.Nat.{ℕ, zero, suc, ◌≤◌, ◌<◌}
use native.Mathlib.Decide.{ℕ_discrete, dec_lt}
use native.Mathlib.Omega.{arith}
use lib.Dec.{T, eqb}
use lib.IntN.{ℤ, pos, negsuc, neg_ℤ}
use lib.ListN.{length, get_or, set, replicate, length-set, length-replicate, get_or-eq_default}
use lib.Seq.{ext_get_or}
use Rattle.grid.specs.Counting.{total, tally}
use Rattle.grid.proofs.Completion.{eq_iff}
use Rattle.clauses.specs.Literal.{Literal}
use Rattle.closure.specs.Closure.{Contradiction, With}
use Rattle.closure.specs.Marks.{has, put, mark, decided_in, decided, blank, IsMarks}
use Rattle.closure.proofs.Tally.{tally_first, tally_compare, tally_true}

-- never both a literal and its negation
pub has_single : (m : List ℕ) (l : ℤ) → T (has m l) → T (has m (neg_ℤ l)) → ⊥
unfolding has
has_single m (pos zero) p q = p
has_single m (pos (suc k)) p q = omega (arith, (eq_iff (get_or m k 0) 1).0 p, (eq_iff (get_or m k 0) 2).0 q)
has_single m (negsuc k) p q = omega (arith, (eq_iff (get_or m k 0) 2).0 p, (eq_iff (get_or m k 0) 1).0 q)

-- so that no state is a contradiction
pub has_consistent : (m : List ℕ) → Contradiction (λ l. T (has m l)) → ⊥
has_consistent m k = has_single m (pos (suc k.0)) k.1 k.2

-- a byte that is put
put_here : (m : List ℕ) (k b : ℕ) → get_or (put m k b) k 0 ≡ b
unfolding put
put_here [] zero b = refl
put_here [] (suc k) b = put_here [] k b
put_here (x ∷ m) zero b = refl
put_here (x ∷ m) (suc k) b = put_here m k b

put_there : (m : List ℕ) (k b i : ℕ) → (i ≡ k → ⊥) → get_or (put m k b) i 0 ≡ get_or m i 0
unfolding put
put_there [] zero b zero n = absurd (n refl)
put_there [] zero b (suc i) n = refl
put_there [] (suc k) b zero n = refl
put_there [] (suc k) b (suc i) n = put_there [] k b i (λ e. n (ap suc e))
put_there (x ∷ m) zero b zero n = absurd (n refl)
put_there (x ∷ m) zero b (suc i) n = refl
put_there (x ∷ m) (suc k) b zero n = refl
put_there (x ∷ m) (suc k) b (suc i) n = put_there m k b i (λ e. n (ap suc e))

-- within the list it is lib.ListN's
pub put_set : (m : List ℕ) (k b : ℕ) → k < length m → put m k b ≡ set m k b
unfolding put
put_set [] k b h = absurd (omega arith)
put_set (x ∷ m) zero b h = refl
put_set (x ∷ m) (suc k) b h = ap (λ r. x ∷ r) (put_set m k b (omega arith))

-- after byte b at place k a place has c if it had c before, or if it is k and c is b, where place k had no c but b
put_byte : {D : Type 0} (m : List ℕ) (k b i c : ℕ) → (get_or m k 0 ≡ c → c ≡ b) → ((i ≡ k) × (c ≡ b)) ↔ D
    → T (eqb (get_or (put m k b) i 0) c) ↔ (T (eqb (get_or m i 0) c) ⊎ D)
put_byte m k b i c new d =
    let now = eq_iff (get_or (put m k b) i 0) c in
    let old = eq_iff (get_or m i 0) c in
    elim (ℕ_discrete i k) [
      | yes e ↦ (
          let here : get_or (put m k b) i 0 ≡ b = rw e (put_here m k b) in
          let was : get_or m i 0 ≡ c → c ≡ b = rw e new in
          ((λ t. inr (d.0 (e, sym (now.0 t) ∙ here))), λ t. now.1 (here ∙ sym (⊎_elim (λ z. was (old.0 z)) (λ z. (d.1 z).1) t))))
      | no n ↦ (
          let same = put_there m k b i n in
          ((λ t. inl (old.1 (sym same ∙ now.0 t))), λ t. ⊎_elim (λ z. now.1 (same ∙ old.0 z)) (λ z. absurd (n (d.1 z).0)) t))
    ]

-- the state with a literal more has just that literal more
pub has_mark : (m : List ℕ) (l : ℤ) → Literal l → (T (has m (neg_ℤ l)) → ⊥) → (k : ℤ) → T (has (mark m l) k) ↔ With (has m) l k
unfolding has mark
has_mark m l v new (pos zero) = ((λ t. absurd t), ⊎_elim (λ t. t) (λ e. subst Literal (sym e) v))
has_mark m (pos zero) v new (pos (suc i)) = absurd v
has_mark m (pos zero) v new (negsuc i) = absurd v
has_mark m (pos (suc j)) v new (pos (suc i)) = put_byte m j 1 i 1 (λ e. refl) ((λ z. cc), λ e. ((cc), (cc)))
has_mark m (pos (suc j)) v new (negsuc i) = put_byte m j 1 i 2 (λ e. absurd (new ((eq_iff _ 2).1 e))) ((λ z. cc), λ e. ((cc), (cc)))
has_mark m (negsuc j) v new (pos (suc i)) = put_byte m j 2 i 1 (λ e. absurd (new ((eq_iff _ 1).1 e))) ((λ z. cc), λ e. ((cc), (cc)))
has_mark m (negsuc j) v new (negsuc i) = put_byte m j 2 i 2 (λ e. refl) ((λ z. cc), λ e. ((cc), (cc)))

-- the place decides its variable
abbrev pub decided_at : List ℕ → ℕ → Bool
decided_at m k = eqb (get_or m k 0) 1 || eqb (get_or m k 0) 2

decided_none : (n : ℕ) → decided_in n [] ≡ 0
unfolding decided_in
decided_none zero = refl
decided_none (suc n) = refl

pub decided_tally : (n : ℕ) (m : List ℕ) → decided_in n m ≡ tally n (decided_at m)
unfolding decided_in
decided_tally zero m = unfold total in refl
decided_tally (suc n) [] = omega (arith, tally_first n (decided_at []), decided_none n, decided_tally n [])
decided_tally (suc n) (b ∷ m) = omega (arith, tally_first n (decided_at (b ∷ m)), decided_tally n m)

-- one of two tests passes
pub or_iff : (a b : Bool) → T (a || b) ↔ (T a ⊎ T b)
or_iff true b = (inl, λ x. tt)
or_iff false b = (inr, ⊎_elim absurd (λ y. y))

pub place_iff : (m : List ℕ) (k : ℕ) → T (decided_at m k) ↔ (T (has m (pos (suc k))) ⊎ T (has m (negsuc k)))
unfolding has
place_iff m k = or_iff (eqb (get_or m k 0) 1) (eqb (get_or m k 0) 2)

-- a literal has a place, which decides its variable where the literal or its negation is marked
place_of : (l : ℤ) → Literal l → (k : ℕ) × (k < 729) × ((m : List ℕ) → T (decided_at m k) ↔ (T (has m l) ⊎ T (has m (neg_ℤ l))))
place_of (pos zero) v = absurd v
place_of (pos (suc k)) v = (k, v, λ m. place_iff m k)
place_of (negsuc k) v = (k, v, λ m. ((λ t. ⊎_swap ((place_iff m k).0 t)), λ t. (place_iff m k).1 (⊎_swap t)))

module _ (m t : List ℕ) (sub : (l : ℤ) → T (has m l) → T (has t l)) where
  compared : (tally 729 (decided_at m) ≤ tally 729 (decided_at t))
      × (tally 729 (decided_at t) ≤ tally 729 (decided_at m) → (k : ℕ) → k < 729 → T (decided_at t k) → T (decided_at m k))
  compared = tally_compare 729 (decided_at m) (decided_at t)
      (λ k b d. (place_iff t k).1 (⊎_elim (λ z. inl (sub (pos (suc k)) z)) (λ z. inr (sub (negsuc k) z)) ((place_iff m k).0 d)))

  -- more marks decide no fewer variables
  pub decided_rises : decided m ≤ decided t
  decided_rises = omega (arith, decided_tally 729 m, decided_tally 729 t, compared.0)

  -- marks that lie in others and are as many are the same,
  pub decided_same : decided t ≤ decided m → (l : ℤ) → Literal l → T (has t l) → T (has m l)
  decided_same e l v y =
      let w = place_of l v in
      let d = compared.1 (omega (arith, decided_tally 729 m, decided_tally 729 t)) w.0 w.1 ((w.2 t).1 (inl y)) in
      ⊎_elim (λ z. z) (λ z. absurd (has_single t l y (sub (neg_ℤ l) z))) ((w.2 m).0 d)

  -- so that a new literal makes them more
  pub decided_grows : (l : ℤ) → Literal l → T (has t l) → (T (has m l) → ⊥) → decided m < decided t
  decided_grows l v y new = let more : ¬ (decided t ≤ decided m) = λ e. new (decided_same e l v y) in omega arith

module _ (m : List ℕ) where
  full : (tally 729 (decided_at m) ≤ tally 729 (λ k. true))
      × (tally 729 (λ k. true) ≤ tally 729 (decided_at m) → (k : ℕ) → k < 729 → T true → T (decided_at m k))
  full = tally_compare 729 (decided_at m) (λ k. true) (λ k b t. tt)

  -- there are 729 variables
  pub decided_bounded : decided m ≤ 729
  decided_bounded = omega (arith, decided_tally 729 m, tally_true 729, full.0)

  -- where all 729 variables are decided, each literal or its negation is marked
  pub decided_total : decided m ≡ 729 → (l : ℤ) → Literal l → T (has m l) ⊎ T (has m (neg_ℤ l))
  decided_total e l v =
      let w = place_of l v in
      (w.2 m).0 (full.1 (omega (arith, decided_tally 729 m, tally_true 729)) w.0 w.1 tt)

pub zeros : (n k : ℕ) → get_or {A = ℕ} (replicate n 0) k 0 ≡ 0
zeros zero k = refl
zeros (suc n) zero = refl
zeros (suc n) (suc k) = zeros n k

-- nothing is marked at the start
pub has_blank : (l : ℤ) → T (has blank l) → ⊥
unfolding has
has_blank (pos zero) t = t
has_blank (pos (suc k)) t = omega (arith, zeros 729 k, (eq_iff (get_or blank k 0) 1).0 t)
has_blank (negsuc k) t = omega (arith, zeros 729 k, (eq_iff (get_or blank k 0) 2).0 t)

-- it is 729 marks,
pub is_marks_blank : IsMarks blank
is_marks_blank = record { long = length-replicate {A = ℕ} 729 0; small = λ k. omega (arith, zeros 729 k) }

is_marks_put : (m : List ℕ) (k b : ℕ) → IsMarks m → k < 729 → b ≤ 2 → IsMarks (put m k b)
is_marks_put m k b i h s =
    record {
      long = rw (put_set m k b (omega (arith, i.long)), length-set m k b) i.long;
      small = λ j. elim (ℕ_discrete j k) [ yes e ↦ rw (e, put_here m k b) s | no n ↦ rw (put_there m k b j n) (i.small j) ];
    }

-- and stays so with a literal more
pub is_marks_mark : (m : List ℕ) (l : ℤ) → IsMarks m → Literal l → IsMarks (mark m l)
unfolding mark
is_marks_mark m (pos zero) i v = absurd v
is_marks_mark m (pos (suc k)) i v = is_marks_put m k 1 i v (omega arith)
is_marks_mark m (negsuc k) i v = is_marks_put m k 2 i v (omega arith)

-- a marked literal decides a variable
pub decided_some : (m : List ℕ) (l : ℤ) → Literal l → T (has m l) → 1 ≤ decided m
decided_some m l v t = omega (arith, decided_grows blank m (λ x u. absurd (has_blank x u)) l v t (has_blank l))

-- past the last place nothing is marked
pub has_literal : (m : List ℕ) (l : ℤ) → IsMarks m → T (has m l) → Literal l
unfolding has
has_literal m l i t = go l t
  where
    below : (k b : ℕ) → 0 < b → T (eqb (get_or m k 0) b) → k < 729
    below k b h t = elim (dec_lt k 729) [
      | yes y ↦ y
      | no n ↦ absurd (omega (arith, i.long, (eq_iff (get_or m k 0) b).0 t, get_or-eq_default m 0 {n = k} (omega (arith, i.long))))
    ]

    go : (l : ℤ) → T (has m l) → Literal l
    go (pos zero) t = t
    go (pos (suc k)) t = below k 1 (omega arith) t
    go (negsuc k) t = below k 2 (omega arith) t

byte_ext : (x y : ℕ) → x ≤ 2 → y ≤ 2 → T (eqb x 1) ↔ T (eqb y 1) → T (eqb x 2) ↔ T (eqb y 2) → x ≡ y
byte_ext zero zero a b e f = refl
byte_ext zero (suc zero) a b e f = absurd (e.1 tt)
byte_ext zero (suc (suc zero)) a b e f = absurd (f.1 tt)
byte_ext zero (suc (suc (suc y))) a b e f = absurd (omega arith)
byte_ext (suc zero) y a b e f = sym ((eq_iff y 1).0 (e.0 tt))
byte_ext (suc (suc zero)) y a b e f = sym ((eq_iff y 2).0 (f.0 tt))
byte_ext (suc (suc (suc x))) y a b e f = absurd (omega arith)

-- marks are the same where the same literals are marked
pub marks_ext : (m t : List ℕ) → IsMarks m → IsMarks t → ((l : ℤ) → Literal l → T (has m l) ↔ T (has t l)) → m ≡ t
unfolding has
marks_ext m t i j e = ext_get_or 0 m t (i.long ∙ sym j.long) (λ k h.
    let b : k < 729 = omega (arith, i.long) in
    byte_ext (get_or m k 0) (get_or t k 0) (i.small k) (j.small k) (e (pos (suc k)) b) (e (negsuc k) b))
