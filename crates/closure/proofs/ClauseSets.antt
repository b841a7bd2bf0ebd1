-- The two clause sets are well formed. Each clause is that of a shape, whose literals are those of different places of one group.
-- Assumes nothing.
use mathlib.Core.Path.{◌≡◌, refl, sym, subst, ◌∙◌}
use mathlib.Core.Logic.{⊎_elim}
use mathlib.Core.List.Memᴰ
use mathlib.Core.List.{◌∷◌, []}
use Prim.Native.Nat.{ℕ, zero, suc, ◌<◌}
use native.Mathlib.Omega.{arith}
use lib.IntN.{ℤ, pos, negsuc}
use Rattle.grid.specs.House.{cell_of}
use Rattle.grid.proofs.House.{row_cell, column_cell, box_cell, by_house, cell_below}
use Rattle.clauses.specs.Literal.{Literal}
use Rattle.clauses.specs.Clauses.{clauses_of}
use Rattle.clauses.specs.Shape.{place_of, IsGroup, IsShape, clause_of}
use Rattle.clauses.specs.declared.ClauseSet.{ClauseSet}
use Rattle.clauses.specs.declared.Group.{Group}
use Rattle.clauses.specs.declared.Group.TheVariants.{Cell, House}
use Rattle.clauses.specs.declared.Shape.{Shape}
use Rattle.clauses.specs.declared.Shape.TheVariants.{OneOf, NotBoth}
use Rattle.std.proofs.lemmas.List.FromFn.{get_or-map-range_with_len}
use Rattle.clauses.proofs.Members.{over_iff, member_iff}
use Rattle.closure.specs.Laws.{NoneTwice}
use Rattle.closure.proofs.Clauses.{WellMade, WellFormed}

place_below : (g : Group) → IsGroup g → (k : ℕ) → k < 9 → place_of g k < 729
unfolding place_of
place_below (Cell c) i k h = omega arith
place_below (House x d) i k h = omega (arith, cell_below x k i.0 h)

-- the cells of a house differ
cell_once : (x i j : ℕ) → x < 27 → i < j → j < 9 → cell_of x i ≡ cell_of x j → ⊥
cell_once x i j h a b = by_house {P = λ x. cell_of x i ≡ cell_of x j → ⊥}
    (λ y u e. omega (arith, row_cell i y u, row_cell j y u))
    (λ y u e. omega (arith, column_cell i y u, column_cell j y u))
    (λ p q u v e. omega (arith, box_cell i p q u v, box_cell j p q u v)) x h

place_once : (g : Group) → IsGroup g → (i j : ℕ) → i < j → j < 9 → place_of g i ≡ place_of g j → ⊥
unfolding place_of
place_once (Cell c) h i j a b e = omega arith
place_once (House x d) h i j a b e = cell_once x i j h.0 a b (omega arith)

pair_once : (a b : ℕ) → (a ≡ b → ⊥) → NoneTwice (negsuc a ∷ negsuc b ∷ [])
pair_once a b n zero zero u v e = omega arith
pair_once a b n zero (suc zero) u v e = n (cc)
pair_once a b n zero (suc (suc j)) u v e = omega arith
pair_once a b n (suc i) j u v e = omega arith

shape_made : (h : Shape) → IsShape h → WellMade (clause_of h)
unfolding clause_of
shape_made (OneOf g) h =
    let f : ℕ → ℤ = λ k. pos (suc (place_of g k)) in
    record {
      some = (f 0, Memᴰ.head refl);
      literals = λ l m. (
          let w = (over_iff 0 9 (λ k. f k ∷ []) l).0 m in
          subst Literal (sym (Memᴰ.eq_of_singleton w.3)) (place_below g h w.0 w.2));
      once = λ i j a b e. (
          let same : f i ≡ f j = sym (get_or-map-range_with_len f 0 9 i i (pos 0) (omega arith) (omega arith)) ∙ e ∙ get_or-map-range_with_len f 0 9 j j (pos 0) b (omega arith) in
          place_once g h i j (omega arith) (omega arith) (cc));
    }
shape_made (NotBoth g x y) h = record {
  some = (negsuc (place_of g x), Memᴰ.head refl);
  literals = λ l m. ⊎_elim (λ e. subst Literal (sym e) (place_below g h.0 x (omega (arith, h.1, h.2))))
      (λ t. subst Literal (sym (Memᴰ.eq_of_singleton t)) (place_below g h.0 y h.2)) (Memᴰ.cases_cons m);
  once = pair_once (place_of g x) (place_of g y) (place_once g h.0 x y h.1 h.2);
}

-- either clause set is well formed
pub well_formed : (s : ClauseSet) → WellFormed (clauses_of s)
well_formed s c m = let w = (member_iff s c).0 m in subst WellMade w.3 (shape_made w.0 w.1)
