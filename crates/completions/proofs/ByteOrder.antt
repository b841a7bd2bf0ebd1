-- Lists in byte order. No string comes before itself, so that a list in order has none twice, and what stands in it decides the list.
-- Assumes nothing.
use mathlib.Core.Path.{◌≡◌, refl, sym, subst, ◌∙◌}
use mathlib.Core.Logic.{◌⊎◌, inl, inr, ⊎_elim, ◌↔◌}
use mathlib.Core.Bool.{Bool, true, false}
use mathlib.Core.List.Memᴰ
use mathlib.Core.List.{List, [], ◌∷◌, ◌++◌, Memᴰ}
use Prim.Native.Nat.{ℕ, ◌<◌}
use native.Mathlib.Decide.{dec_lt}
use native.Mathlib.Omega.{arith}
use lib.Dec.{T}
use Rattle.completions.specs.Completions.{keep_if, those, Before, Rising, InOrder}

-- of two strings at most one comes before the other
pub before_once : (a b : List ℕ) → Before a b → Before b a → ⊥
before_once a b v w = go (dec_lt v.0 w.0) (dec_lt w.0 v.0)
  where
    go : Dec (v.0 < w.0) → Dec (w.0 < v.0) → ⊥
    go (yes h) i = omega (arith, w.1 v.0 h, v.2)
    go (no h) (yes i) = omega (arith, v.1 w.0 i, w.2)
    go (no h) (no i) = let e : v.0 ≡ w.0 = omega arith in omega (arith, rw e at v.2, w.2)

-- strings in order with the same members are the same
same_list : (xs ys : List (List ℕ)) → Rising xs → Rising ys → ((b : List ℕ) → Memᴰ b xs ↔ Memᴰ b ys) → xs ≡ ys
same_list [] [] r s e = refl
same_list [] (y ∷ ys) r s e = absurd (Memᴰ.not-nil ((e y).1 (Memᴰ.head refl)))
same_list (x ∷ xs) [] r s e = absurd (Memᴰ.not-nil ((e x).0 (Memᴰ.head refl)))
same_list (x ∷ xs) (y ∷ ys) r s e = rw (first, same_list xs ys r.1 s.1 (λ b. (forth b, back b)))
  where
    first : x ≡ y
    first =
        ⊎_elim (λ q. q) (λ i. ⊎_elim (λ q. sym q) (λ j. absurd (before_once x y (r.0 y j) (s.0 x i)))
        (Memᴰ.cases_cons ((e y).1 (Memᴰ.head refl)))) (Memᴰ.cases_cons ((e x).0 (Memᴰ.head refl)))

    forth : (b : List ℕ) → Memᴰ b xs → Memᴰ b ys
    forth b i =
        ⊎_elim (λ q. let w = subst (Before x) (q ∙ sym first) (r.0 b i) in absurd (before_once x x w w)) (λ j. j) (Memᴰ.cases_cons ((e b).0 (Memᴰ.tail i)))

    back : (b : List ℕ) → Memᴰ b ys → Memᴰ b xs
    back b i =
        ⊎_elim (λ q. let w = subst (Before y) (q ∙ first) (s.0 b i) in absurd (before_once y y w w)) (λ j. j) (Memᴰ.cases_cons ((e b).1 (Memᴰ.tail i)))

-- what stands in a list in order decides it
pub in_order_same : (P Q : List ℕ → Type 0) (xs ys : List (List ℕ)) → InOrder P xs → InOrder Q ys → ((b : List ℕ) → P b ↔ Q b) → xs ≡ ys
in_order_same P Q xs ys i j e =
    same_list xs ys i.rising j.rising
    (λ b. ((λ m. (j.members b).1 ((e b).0 ((i.members b).0 m))), λ m. (i.members b).1 ((e b).1 ((j.members b).0 m))))

-- one list for two ways to say what is in it
pub in_order_as : (P Q : List ℕ → Type 0) (xs : List (List ℕ)) → InOrder P xs → ((b : List ℕ) → P b ↔ Q b) → InOrder Q xs
in_order_as P Q xs i e =
    record { rising = i.rising; members = λ b. ((λ m. (e b).0 ((i.members b).0 m)), λ q. (i.members b).1 ((e b).1 q)) }

-- none, and one
pub in_order_none : (P : List ℕ → Type 0) → ((b : List ℕ) → P b → ⊥) → InOrder P []
in_order_none P n = record { rising = tt; members = λ b. ((λ m. absurd (Memᴰ.not-nil m)), λ p. absurd (n b p)) }

pub in_order_one : (P : List ℕ → Type 0) (a : List ℕ) → P a → ((b : List ℕ) → P b → b ≡ a) → InOrder P (a ∷ [])
in_order_one P a p only = record {
  rising = ((λ y m. absurd (Memᴰ.not-nil m)), tt);
  members = λ b. ((λ m. subst P (sym (Memᴰ.eq_of_singleton m)) p), λ q. Memᴰ.head (only b q));
}

-- the members that pass a test
module _ (p : List ℕ → Bool) where
  kept_cases : (t : Bool) (b x : List ℕ) (xs : List (List ℕ)) → Memᴰ b (keep_if t x xs) ↔ (((b ≡ x) × T t) ⊎ Memᴰ b xs)
  kept_cases true b x xs = (
    (λ m. ⊎_elim (λ e. inl (e, tt)) inr (Memᴰ.cases_cons m)),
    λ w. ⊎_elim (λ e. Memᴰ.head e.0) (λ m. Memᴰ.tail m) w,
  )
  kept_cases false b x xs = (inr, λ w. ⊎_elim (λ e. absurd e.1) (λ m. m) w)

  those_iff : (b : List ℕ) (xs : List (List ℕ)) → Memᴰ b (those p xs) ↔ (Memᴰ b xs × T (p b))
  unfolding those
  those_iff b [] = ((λ m. absurd (Memᴰ.not-nil m)), λ w. absurd (Memᴰ.not-nil w.0))
  those_iff b (x ∷ xs) =
      let k = kept_cases (p x) b x (those p xs) in
      let r = those_iff b xs in (
        (λ m. ⊎_elim (λ e. (Memᴰ.head e.0, subst (λ y. T (p y)) (sym e.0) e.1)) (λ i. (Memᴰ.tail (r.0 i).0, (r.0 i).1)) (k.0 m)),
        λ w. k.1 (⊎_elim (λ e. inl (e, subst (λ y. T (p y)) e w.1)) (λ i. inr (r.1 (i, w.1))) (Memᴰ.cases_cons w.0)),
      )

  those_rising : (xs : List (List ℕ)) → Rising xs → Rising (those p xs)
  unfolding those
  those_rising [] r = tt
  those_rising (x ∷ xs) r = go (p x) (those_rising xs r.1)
    where
      go : (t : Bool) → Rising (those p xs) → Rising (keep_if t x (those p xs))
      go true s = ((λ y m. r.0 y ((those_iff y xs).0 m).0), s)
      go false s = s

  pub in_order_those : (P : List ℕ → Type 0) (xs : List (List ℕ)) → InOrder P xs → InOrder (λ b. P b × T (p b)) (those p xs)
  in_order_those P xs i = record {
    rising = those_rising xs i.rising;
    members = λ b.
        let t = those_iff b xs in
        ((λ m. ((i.members b).0 (t.0 m).0, (t.0 m).1)), λ w. t.1 ((i.members b).1 w.0, w.1));
  }

-- one list after the other, where all of the first come before all of the second
pub rising_append : (xs ys : List (List ℕ)) → Rising xs → Rising ys → ((x y : List ℕ) → Memᴰ x xs → Memᴰ y ys → Before x y) → Rising (xs ++ ys)
rising_append [] ys r s h = s
rising_append (x ∷ xs) ys r s h = (
  (λ y m. ⊎_elim (r.0 y) (h x y (Memᴰ.head refl)) (Memᴰ.append_cases xs m)),
  rising_append xs ys r.1 s (λ u v m. h u v (Memᴰ.tail m)),
)

pub in_order_append : (P Q : List ℕ → Type 0) (xs ys : List (List ℕ)) → InOrder P xs → InOrder Q ys
    → ((x y : List ℕ) → P x → Q y → Before x y) → InOrder (λ b. P b ⊎ Q b) (xs ++ ys)
in_order_append P Q xs ys i j h = record {
  rising = rising_append xs ys i.rising j.rising (λ x y m n. h x y ((i.members x).0 m) ((j.members y).0 n));
  members = λ b. (
    (λ m. ⊎_elim (λ n. inl ((i.members b).0 n)) (λ n. inr ((j.members b).0 n)) (Memᴰ.append_cases xs m)),
    λ w. ⊎_elim (λ p. Memᴰ.append_left ys ((i.members b).1 p)) (λ q. Memᴰ.append_right xs ((j.members b).1 q)) w,
  );
}
