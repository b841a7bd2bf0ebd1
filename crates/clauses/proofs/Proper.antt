-- A truth is proper where each group has one true variable. A proper truth satisfies the clause of every shape. A truth that satisfies
-- clause set 1 is proper: each of a house's nine cells has some of nine digits and no digit has two of the cells, so that by the
-- pigeonhole each digit has one cell and, in a row, each cell one digit.
-- Assumes nothing.
use mathlib.Core.Path.{◌≡◌, refl}
use mathlib.Core.Logic.{◌↔◌, ◌⊎◌, inl, inr, ⊎_elim}
use mathlib.Core.Bool.{Bool, true, false, not}
use mathlib.Core.List.Memᴰ
use mathlib.Core.List.{[], ◌∷◌, Memᴰ}
use Prim.Native.Nat.{ℕ, suc, ◌/◌, ◌%◌, ◌≤◌, ◌<◌}
use native.Mathlib.Omega.{arith}
use lib.Dec.{T, T_not, not_T}
use lib.IntN.{pos, negsuc}
use Rattle.grid.specs.Counting.{tally}
use Rattle.grid.specs.House.{cell_of}
use Rattle.grid.proofs.Counting.{tally_some, tally_find, tally_pair, tally_most, square_rows, square_columns}
use Rattle.grid.proofs.House.{row_cell, cell_below}
use Rattle.clauses.specs.Clauses.{Clause, clauses_of}
use Rattle.clauses.specs.Models.{Truth, Satisfies}
use Rattle.clauses.specs.Shape.{place_of, IsGroup, IsShape, InSet, clause_of}
use Rattle.clauses.specs.declared.ClauseSet.{ClauseSet}
use Rattle.clauses.specs.declared.ClauseSet.TheVariants.{Minimal, Extended}
use Rattle.clauses.specs.declared.Group.{Group}
use Rattle.clauses.specs.declared.Group.TheVariants.{Cell, House}
use Rattle.clauses.specs.declared.Shape.{Shape}
use Rattle.clauses.specs.declared.Shape.TheVariants.{OneOf, NotBoth}
use Rattle.clauses.proofs.Members.{over_iff, member_iff}

-- the k-th variable of a group is true
abbrev pub true_in : Truth → Group → ℕ → Bool
true_in A g k = A (suc (place_of g k))

-- each group has one true variable
abbrev pub Proper : Truth → Type 0
Proper A = (g : Group) → IsGroup g → tally 9 (true_in A g) ≡ 1

-- both sets have the cells' clauses and the houses' pairs
cell_in : (s : ClauseSet) (c : ℕ) → InSet s (OneOf (Cell c))
cell_in Minimal c = tt
cell_in Extended c = tt

pair_in : (s : ClauseSet) (h d i j : ℕ) → InSet s (NotBoth (House h d) i j)
pair_in Minimal h d i j = tt
pair_in Extended h d i j = tt

either : (a b : Bool) → (T a → T b → ⊥) → T (not a) ⊎ T (not b)
either true b f = inr (not_T b (f tt))
either false b f = inl tt

module _ (A : Truth) where
  -- the clause of a group holds where some variable of the group is true
  pub one_of_iff : (g : Group) → Satisfies A (clause_of (OneOf g)) ↔ (1 ≤ tally 9 (true_in A g))
  unfolding clause_of
  one_of_iff g = let o = over_iff 0 9 (λ k. pos (suc (place_of g k)) ∷ []) in (
    (λ w.
        let v = (o w.0).0 w.1 in
        let e = Memᴰ.eq_of_singleton v.3 in
        tally_some (true_in A g) 9 v.0 v.2 (rw e at w.2)),
    λ h.
        let v = tally_find (true_in A g) 9 h in
        (pos (suc (place_of g v.0)), (o (pos (suc (place_of g v.0)))).1 (v.0, omega arith, v.1, Memᴰ.head refl), v.2),
  )

  -- the clause of a pair holds where not both variables are true
  pub not_both_iff : (g : Group) (i j : ℕ) → Satisfies A (clause_of (NotBoth g i j)) ↔ (T (true_in A g i) → T (true_in A g j) → ⊥)
  unfolding clause_of
  not_both_iff g i j = (
    (λ w t u. ⊎_elim
        (λ e. T_not (true_in A g i) (rw e at w.2) t)
        (λ m. let e = Memᴰ.eq_of_singleton m in T_not (true_in A g j) (rw e at w.2) u) (Memᴰ.cases_cons w.1)),
    λ f. ⊎_elim
        (λ t. (negsuc (place_of g i), Memᴰ.head refl, t))
        (λ t. (negsuc (place_of g j), Memᴰ.tail (Memᴰ.head refl), t)) (either (true_in A g i) (true_in A g j) f),
  )

  -- a proper truth satisfies the clause of every shape
  pub proper_satisfies : Proper A → (h : Shape) → IsShape h → Satisfies A (clause_of h)
  proper_satisfies p (OneOf g) i = (one_of_iff g).1 (omega (arith, p g i))
  proper_satisfies p (NotBoth g i j) h = (not_both_iff g i j).1 (tally_pair (true_in A g) 9 (omega (arith, p g h.0)) i j h.1 h.2)

  -- a truth that satisfies either clause set is proper
  pub satisfying_proper : (s : ClauseSet) → ((c : Clause) → Memᴰ c (clauses_of s) → Satisfies A c) → Proper A
  unfolding place_of
  satisfying_proper s m = proper
    where
      meets : (h : Shape) → IsShape h → InSet s h → Satisfies A (clause_of h)
      meets h w i = m (clause_of h) ((member_iff s (clause_of h)).1 (h, w, i, refl))

      some : (h : ℕ) → h < 27 → (k : ℕ) → k < 9 → 1 ≤ tally 9 (true_in A (Cell (cell_of h k)))
      some h b k a = let c = cell_of h k in (one_of_iff (Cell c)).0 (meets (OneOf (Cell c)) (cell_below h k b a) (cell_in s c))

      most : (h : ℕ) → h < 27 → (d : ℕ) → d < 9 → tally 9 (true_in A (House h d)) ≤ 1
      most h b d a = tally_most (true_in A (House h d)) 9 (λ i j u v.
          (not_both_iff (House h d) i j).0 (meets (NotBoth (House h d) i j) ((b, a), u, v) (pair_in s h d i j)))

      proper : Proper A
      proper (House h d) i = square_columns 9 (λ k. true_in A (Cell (cell_of h k))) (some h i.0) (most h i.0) d i.1
      proper (Cell c) i =
          let x = c / 9 in
          let e : cell_of x (c % 9) ≡ c = omega (arith, row_cell (c % 9) x (omega arith)) in
          rw e at (square_rows 9 (λ k. true_in A (Cell (cell_of x k))) (some x (omega arith)) (most x (omega arith)) (c % 9) (omega arith))
