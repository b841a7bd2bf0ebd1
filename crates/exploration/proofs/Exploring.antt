-- What is found on the way: after what was found before, the completions with one of the digits that were tried. A digit that is passed over adds none;
-- one that is entered adds the completions of the grid with it.
-- Assumes nothing.
use mathlib.Core.Path.{◌≡◌, ap, sym, subst, ◌∙◌}
use mathlib.Core.Logic.{◌↔◌}
use mathlib.Core.Bool.{Bool, true, false, not}
use mathlib.Core.List.{List, ◌++◌, append-nil, append_assoc}
use Prim.Native.Nat.{ℕ, zero, suc, ◌+◌, ◌*◌, ◌/◌, ◌%◌, ◌^◌, ◌≤◌, ◌<◌}
use native.Mathlib.Decide.{ℕ_discrete}
use native.Mathlib.Omega.{arith}
use lib.Dec.{T, eqb, T_not}
use lib.ListN.{length, set}
use Rattle.std.specs.Prelude.{Option}
use Rattle.grid.specs.Counting.{tick, total, tally}
use Rattle.grid.specs.Grid.{byte, is_digit}
use Rattle.grid.specs.Completion.{Legal}
use Rattle.boards.specs.Boards.{On, Has}
use Rattle.boards.proofs.Bits.{lone}
use Rattle.boards.proofs.Positions.{some_digit, without_givens}
use Rattle.completions.specs.Completions.{completions}
use Rattle.exploration.specs.Search.{found_of, count_of, Adds, is_open, open_cells, ClosedBefore, NextDigit, MayHave, Bounds, Enters}
use Rattle.exploration.specs.declared.Found.{Found}
use Rattle.completions.proofs.ByteOrder.{in_order_same}
use Rattle.completions.proofs.Completions.{completions_in_order}
use Rattle.exploration.proofs.Finding.{enough}
use Rattle.exploration.proofs.Branches.{below, above, below_none, below_all, below_same, below_above, below_more, with_other, with_iff, is_set, closed_more}

-- where one that passes the second test fails the first, and all that pass the first pass the second, fewer pass the first
module _ (p q : ℕ → Bool) where
  tick_most : (k : ℕ) → (T (p k) → T (q k)) → tick (p k) ≤ tick (q k)
  tick_most k f = go (p k) (q k) f
    where
      go : (x y : Bool) → (T x → T y) → tick x ≤ tick y
      go true true g = omega arith
      go true false g = absurd (g tt)
      go false y g = omega arith

  tick_less : (k : ℕ) → T (q k) → (T (p k) → ⊥) → tick (p k) < tick (q k)
  tick_less k t n = go (p k) (q k) t n
    where
      go : (x y : Bool) → T y → (T x → ⊥) → tick x < tick y
      go true y t n = absurd (n tt)
      go false true t n = omega arith
      go false false t n = absurd t

  most : (n : ℕ) → ((k : ℕ) → T (p k) → T (q k)) → tally n p ≤ tally n q
  unfolding total
  most zero f = omega arith
  most (suc n) f = omega (arith, tick_most n (f n), most n f)

  fewer : (n c : ℕ) → c < n → ((k : ℕ) → T (p k) → T (q k)) → T (q c) → (T (p c) → ⊥) → tally n p < tally n q
  unfolding total
  fewer zero c h f t x = absurd (omega arith)
  fewer (suc n) c h f t x = elim (ℕ_discrete c n) [
    | yes e ↦ omega (arith, tick_less n (subst (λ k. T (q k)) e t) (λ y. x (subst (λ k. T (p k)) (sym e) y)), most n f)
    | no d ↦ omega (arith, fewer n c (omega arith) f t x, tick_most n (f n))
  ]

-- c is the first open cell of the grid g
pub record Node (g : List ℕ) (c : ℕ) : Type 0 where
  pub long : length g ≡ 81
  pub cell : c < 81
  pub no_digit : T (is_open g c)
  pub before : ClosedBefore g c

-- what is found is followed by the completions of a grid, which are those of another
pub adds_same : (f f' : Found) (g g' : List ℕ) → ((b : List ℕ) → Legal g b ↔ Legal g' b) → Adds f f' (completions g') → Adds f f' (completions g)
adds_same f f' g g' i a =
    subst (Adds f f') (sym (in_order_same (Legal g) (Legal g') (completions g) (completions g') (completions_in_order g) (completions_in_order g') i)) a

-- what is known of a grid is known of one with more digits
pub bounds_more : (only : Option (List ℕ)) (words g g' : List ℕ) → ((b : List ℕ) → Legal g' b → Legal g b) → Bounds only words g → Bounds only words g'
bounds_more only words g g' i k = record { fits = λ b l. k.fits b (i b l); single = λ b grid l e. k.single b grid (i b l) e }

module _ (g : List ℕ) (c : ℕ) (n : Node g c) where
  -- digits that are passed over add none
  over : (digits d r : ℕ) → MayHave g c digits → NextDigit digits d r → below g c r ≡ below g c d
  over digits d r all m = below_same g c n.cell d r m.low (λ b k l u v e. m.passed k u v (all b k l (omega (arith, m.high)) e))

  pub first : (f : Found) (digits r : ℕ) → MayHave g c digits → NextDigit digits 0 r → Adds f f (below g c r)
  first f digits r all m xs e = e ∙ ap found_of (sym (append-nil xs)) ∙ ap (λ ys. found_of (xs ++ ys)) (sym (over digits 0 r all m ∙ below_none g c n.cell))

  module _ (f f' : Found) where
    pub next : (digits d r : ℕ) → MayHave g c digits → NextDigit digits d r → Adds f f' (below g c d) → Adds f f' (below g c r)
    next digits d r all m a = subst (Adds f f') (sym (over digits d r all m)) a

    pub all_tried : (d : ℕ) → 9 ≤ d → d ≤ 9 → Adds f f' (below g c d) → Adds f f' (completions g)
    all_tried d low high a = let e : d ≡ 9 = omega arith in subst (Adds f f') (ap (below g c) e ∙ below_all g c n.cell) a

    -- after two no others count
    pub two_found : (d : ℕ) (r : Bool) → r ≡ eqb (count_of f') 2 → r ≡ true → Adds f f' (below g c d) → Adds f f' (completions g)
    two_found d r e t a xs q =
        enough (xs ++ below g c d) (above g c d) f' (a xs q) (sym e ∙ t)
        ∙ ap found_of (append_assoc xs (below g c d) (above g c d) ∙ ap (λ ys. xs ++ ys) (sym (below_above g c n.cell n.before d)))

  module _ (d : ℕ) (few : d < 9) where
    -- the grid with the digit in the cell
    abbrev pub branch : List ℕ
    branch = set g c (49 + d)

    pub fewer_open : open_cells branch < open_cells g
    unfolding open_cells
    fewer_open =
        fewer (is_open branch) (is_open g) 81 c n.cell
        (λ k t. elim (ℕ_discrete k c) [
          | yes e ↦ subst (λ k. T (is_open g k)) (sym e) n.no_digit
          | no m ↦ subst (λ x. T (not (is_digit x))) (with_other g c n.cell n.before n.long n.no_digit d few k m) t
        ])
        n.no_digit (λ t. T_not (is_digit (byte branch c)) t (is_set g c n.cell n.before n.long n.no_digit d few))

    pub closed_branch : ClosedBefore branch (c + 1)
    closed_branch = closed_more g c n.cell n.before n.long n.no_digit d few

    -- a completion of the branch is one of the grid, with the digit
    pub branch_iff : (b : List ℕ) → Legal branch b ↔ (Legal g b × (byte b c ≡ 49 + d))
    branch_iff = with_iff g c n.cell n.before n.long n.no_digit d few

    has : (b : List ℕ) → byte b c ≡ 49 + d → Has b d (c / 27) (c % 27)
    has b e = let q : 27 * (c / 27) + c % 27 ≡ c = omega arith in ap (byte b) q ∙ e

    -- where no other digit is left, the completions have it
    pub only_digit : (digits : ℕ) → digits ≡ 1 * 2 ^ d % 4294967296 → MayHave g c digits → (b : List ℕ) → Legal g b ↔ Legal branch b
    only_digit digits one may b = (
      (λ l.
          let w = some_digit b (without_givens g b l) (c / 27) (c % 27) (omega (arith, n.cell)) (omega arith) in
          let q : 27 * (c / 27) + c % 27 ≡ c = omega arith in
          let there : byte b c ≡ 49 + w.0 = sym (ap (byte b) q) ∙ w.2 in
          let e : w.0 ≡ d = lone d w.0 (omega arith) (subst (λ x. On x w.0) one (may b w.0 l w.1 there)) in
          (branch_iff b).1 (l, there ∙ ap (λ x. 49 + x) e)),
      λ l. ((branch_iff b).0 l).0,
    )

    module _ (only : Option (List ℕ)) (words : List ℕ) (known : Bounds only words g) (words' : List ℕ) (entered : Bool)
        (enters : Enters words words' d (c / 27) (c % 27) entered) where
      -- what is known of a branch that is entered
      pub branch_bounds : Bounds only words' branch
      branch_bounds = record {
        fits = λ b l. let w = (branch_iff b).0 l in (enters b (known.fits b w.0) (has b w.1)).1;
        single = λ b grid l e. known.single b grid ((branch_iff b).0 l).0 e;
      }

      -- one that is not adds none,
      pub passed : (f f' : Found) → entered ≡ false → Adds f f' (below g c d) → Adds f f' (below g c (d + 1))
      passed f f' e a =
          subst (Adds f f')
          (sym (below_same g c n.cell d (d + 1) (omega arith) (λ b k l u v z.
          let s : k ≡ d = omega arith in
          let t = (enters b (known.fits b l) (has b (z ∙ ap (λ k. 49 + k) s))).0 in
          let x : false ≡ true = sym e ∙ t in cc))) a

    -- and one that is entered adds its completions
    pub tried : (f f' f'' : Found) → Adds f f' (below g c d) → Adds f' f'' (completions branch) → Adds f f'' (below g c (d + 1))
    tried f f' f'' a r xs z =
        r (xs ++ below g c d) (a xs z)
        ∙ ap found_of (append_assoc xs (below g c d) (completions branch) ∙ ap (λ ys. xs ++ ys) (sym (below_more g c n.cell n.before n.long n.no_digit d few)))
