-- The test of a legal completion decides the statement, part by part. The keyer's check accepts exactly the grids, since each byte before the first
-- of no meaning has one. Two grids that differ only in their blanks have the same completions, since a given is told by its digit.
-- Assumes nothing.
use mathlib.Core.Path.{◌≡◌, refl, ap, sym, ◌∙◌, subst}
use mathlib.Core.Logic.{◌↔◌}
use mathlib.Core.Bool.{Bool, true, false, cond, ◌&&◌, ◌||◌, not}
use mathlib.Core.List.{List}
use Prim.Native.Nat.{ℕ, ◌-◌, ◌≤◌, ◌<◌}
use native.Mathlib.Omega.{arith}
use borrow.Author.Tests.{eqb-true}
use lib.Dec.{T, eqb, leb, eqb→eq, eqb_refl, leb→le, le→leb}
use lib.ListN.{length, get_or-map}
use Rattle.grid.specs.Counting.{all}
use Rattle.grid.specs.Grid.{byte, is_digit, has_meaning, digit_of, digits_of}
use Rattle.grid.specs.Completion.{times, Legal, is_full, keeps_givens, each_once, is_legal}
use Rattle.std.specs.Prelude.{Option, Some, None, Result, Ok, Err}
use Rattle.std.proofs.lemmas.Grind.{common_steps}
use Rattle.std.specs.List.{position_or_len}
use Rattle.std.proofs.lemmas.List.Quantifiers.{position-Some}
use Rattle.std.proofs.lemmas.List.Sums.{fails_before_first}
use Rattle.grid.specs.Refusals.{first_bad, IsGrid, bytes_check, grid_check}
use Rattle.grid.specs.declared.Refusal.{Refusal}
use Rattle.grid.proofs.Table.{and_iff, true_is, not_fails, not_passes}
use Rattle.grid.proofs.Counting.{all_iff}

pub digit_iff : (b : ℕ) → T (is_digit b) ↔ ((49 ≤ b) × (b ≤ 57))
unfolding is_digit
digit_iff b =
    let i = and_iff (leb 49 b) (leb b 57) in
    ((λ t. (leb→le 49 b (i.0 t).0, leb→le b 57 (i.0 t).1)), λ h. i.1 (le→leb 49 b h.0, le→leb b 57 h.1))

pub eq_iff : (a b : ℕ) → T (eqb a b) ↔ (a ≡ b)
eq_iff a b = (eqb→eq a b, λ e. subst (λ x. T (eqb a x)) e (eqb_refl a))

keep_iff : (a b : Bool) → T (not a || b) ↔ (T a → T b)
keep_iff true b = ((λ x y. x), λ x. x tt)
keep_iff false b = ((λ x y. absurd y), λ x. tt)

full_iff : (b : List ℕ) → T (is_full b) ↔ ((length b ≡ 81) × ((c : ℕ) → c < 81 → T (is_digit (byte b c))))
full_iff b =
    let i = and_iff (eqb (length b) 81) (all 81 (λ c. is_digit (byte b c))) in
    let e = eq_iff (length b) 81 in
    let d = all_iff 81 (λ c. is_digit (byte b c)) in
    ((λ t. (e.0 (i.0 t).0, d.0 (i.0 t).1)), λ h. i.1 (e.1 h.0, d.1 h.1))

long : (l : List ℕ) (rest : Bool) → eqb (length l) 81 && rest ≡ true → length l ≡ 81
long l rest e = eqb→eq (length l) 81 ((and_iff (eqb (length l) 81) rest).0 (subst T (sym e) tt)).0

pub full_long : (b : List ℕ) → is_full b ≡ true → length b ≡ 81
full_long b e = long b _ e

pub full_digit : (b : List ℕ) → is_full b ≡ true → (c : ℕ) → c < 81 → (c < length b) × (49 ≤ byte b c) × (byte b c ≤ 57)
full_digit b f c h =
    let d = (digit_iff (byte b c)).0 (((full_iff b).0 (subst T (sym f) tt)).1 c h) in
    (omega (arith, full_long b f), d.0, d.1)

pub not_accepted : (r : Refusal) → ◌≡◌ {A = Result (Unit {0}) Refusal} (Err r) (Ok tt) → ⊥
not_accepted r q = let z : ◌≡◌ {A = ℕ} 0 1 = cc in omega arith

-- every byte of a list is accepted exactly if each has a meaning
pub bytes_iff : (b : List ℕ) → (bytes_check b ≡ Ok tt) ↔ ((c : ℕ) → c < length b → T (has_meaning (byte b c)))
unfolding bytes_check
bytes_iff b = go (first_bad b) refl
  where
    bad : ℕ → Bool
    bad x = not (has_meaning x)

    go : (o : Option ℕ) → first_bad b ≡ o → (bytes_check b ≡ Ok tt) ↔ ((c : ℕ) → c < length b → T (has_meaning (byte b c)))
    go None e =
        let late : length b ≤ position_or_len bad b = grind (arith, common_steps) in
        rw e ((λ q c h. not_fails (has_meaning (byte b c)) (fails_before_first bad b c 0 (omega arith))), λ f. refl)
    go (Some i) e = let s = position-Some bad b i 0 e in
        rw e ((λ q. absurd (not_accepted _ q)), λ f. absurd (not_passes (has_meaning (byte b i)) s.1 (f i s.0)))

-- The keyer's check accepts exactly the grids: 81 bytes, each with a meaning.
pub grid_iff : (g : List ℕ) → (grid_check g ≡ Ok tt) ↔ IsGrid g
unfolding grid_check
grid_iff g = go (eqb (length g) 81) refl
  where
    go : (x : Bool) → eqb (length g) 81 ≡ x → (grid_check g ≡ Ok tt) ↔ IsGrid g
    go false e = rw e ((λ q. absurd (not_accepted _ q)), λ w. absurd (subst T e ((eq_iff (length g) 81).1 w.0)))
    go true e = let n = eqb-true (length g) 81 e in
        rw e ((λ q. (n, λ c h. (bytes_iff g).0 q c (omega arith))), λ w. (bytes_iff g).1 (λ c h. w.1 c (omega arith)))

module _ (g b : List ℕ) where
  kept : T (keeps_givens g b) ↔ ((c : ℕ) → c < 81 → T (is_digit (byte g c)) → byte b c ≡ byte g c)
  kept =
      let k : (c : ℕ) → T (not (is_digit (byte g c)) || eqb (byte b c) (byte g c)) ↔ (T (is_digit (byte g c)) → T (eqb (byte b c) (byte g c))) = λ c. keep_iff (is_digit (byte g c)) (eqb (byte b c) (byte g c)) in
      let e : (c : ℕ) → T (eqb (byte b c) (byte g c)) ↔ (byte b c ≡ byte g c) = λ c. eq_iff (byte b c) (byte g c) in
      ((λ t c h u. (e c).0 ((k c).0 ((all_iff _ _).0 t c (omega arith)) u)), λ f. (all_iff _ _).1 (λ c h. (k c).1 (λ u. (e c).1 (f c h u))))

  once : T (each_once b) ↔ ((h d : ℕ) → h < 27 → d < 9 → times b h d ≡ 1)
  once =
      let a = all_iff 27 (λ h. all 9 (λ d. eqb (times b h d) 1)) in
      let i : (h : ℕ) → T (all 9 (λ d. eqb (times b h d) 1)) ↔ ((d : ℕ) → d < 9 → T (eqb (times b h d) 1)) = λ h. all_iff 9 (λ d. eqb (times b h d) 1) in
      let e : (h d : ℕ) → T (eqb (times b h d) 1) ↔ (times b h d ≡ 1) = λ h d. eq_iff (times b h d) 1 in
      ((λ t h d x y. (e h d).0 ((i h).0 (a.0 t h x) d y)), λ f. a.1 (λ h x. (i h).1 (λ d y. (e h d).1 (f h d x y))))

  pub legal_iff : T (is_legal g b) ↔ Legal g b
  unfolding is_legal
  legal_iff =
      let x = and_iff (is_full b) (keeps_givens g b && each_once b) in
      let y = and_iff (keeps_givens g b) (each_once b) in (
        (λ t.
            let u = x.0 t in
            let v = y.0 u.1 in
            record { long = ((full_iff b).0 u.0).0; digits = ((full_iff b).0 u.0).1; keeps = kept.0 v.0; once = once.0 v.1 }),
        λ l. x.1 ((full_iff b).1 (l.long, l.digits), y.1 (kept.1 l.keeps, once.1 l.once)),
      )

-- so does its value
pub legal_true : (g b : List ℕ) (x : Bool) → x ≡ is_legal g b → (x ≡ true) ↔ Legal g b
legal_true g b x e = (
  (λ q. (legal_iff g b).0 (subst T (sym q ∙ e) tt)),
  λ l. e ∙ true_is (is_legal g b) ((legal_iff g b).1 l),
)

-- a byte that gives the digit of a given is that given
pub same_given : (x y : ℕ) → digit_of x ≡ digit_of y → T (is_digit y) → T (is_digit x) × (x ≡ y)
unfolding digit_of
same_given x y e t = go (is_digit x) (is_digit y) e t (digit_iff x).0 (digit_iff y).0
  where
    go : (a b : Bool) → cond a (x - 48) 0 ≡ cond b (y - 48) 0 → T b → (T a → (49 ≤ x) × (x ≤ 57)) → (T b → (49 ≤ y) × (y ≤ 57)) → T a × (x ≡ y)
    go true true q u f h = let i = f tt in let j = h tt in (tt, omega arith)
    go false true q u f h = let j = h tt in absurd (omega arith)
    go true false q u f h = absurd u
    go false false q u f h = absurd u

-- grids that differ only in their blanks give the same digit in each cell,
pub same_digit : (g g' : List ℕ) → digits_of g ≡ digits_of g' → (c : ℕ) → digit_of (byte g c) ≡ digit_of (byte g' c)
unfolding digit_of is_digit
same_digit g g' e c = sym (get_or-map digit_of g c 0) ∙ ap (λ d. byte d c) e ∙ get_or-map digit_of g' c 0

-- and have the same legal completions
pub same_grid : (g g' b : List ℕ) → digits_of g ≡ digits_of g' → Legal g b → Legal g' b
same_grid g g' b e l =
    record {
      long = l.long;
      digits = l.digits;
      keeps = λ c h t. let s = same_given (byte g c) (byte g' c) (same_digit g g' e c) t in l.keeps c h s.0 ∙ s.1;
      once = l.once;
    }
