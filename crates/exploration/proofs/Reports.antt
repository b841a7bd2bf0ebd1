-- What is found in the list of all completions tells how many there are, and the smallest: the list has each once, in byte order.
-- Assumes nothing.
use mathlib.Core.Path.{◌≡◌, refl, sym, subst, ◌∙◌}
use mathlib.Core.Logic.{inl, inr, ⊎_elim}
use mathlib.Core.List.Memᴰ
use mathlib.Core.List.{List, [], ◌∷◌}
use Prim.Native.Nat.{ℕ}
use native.Mathlib.Omega.{arith}
use Rattle.grid.specs.Completion.{Legal}
use Rattle.completions.specs.Completions.{completions, Before, InOrder}
use Rattle.completions.proofs.ByteOrder.{before_once}
use Rattle.completions.proofs.Completions.{completions_in_order}
use Rattle.exploration.specs.Reports.{Reports}
use Rattle.exploration.specs.Search.{found_of, count_of, first_of, second_of}

reports_list : (g : List ℕ) (bs : List (List ℕ)) → InOrder (Legal g) bs → let f = found_of bs in Reports g (count_of f) (first_of f) (second_of f)
unfolding found_of
reports_list g [] i = record {
  most = omega arith;
  none = ((λ e b l. Memᴰ.not-nil ((i.members b).1 l)), λ n. refl);
  one = ((λ e. absurd (omega arith)), λ w. absurd (Memᴰ.not-nil ((i.members w.0).1 w.1)));
  several = ((λ e. absurd (omega arith)), λ w. absurd (Memᴰ.not-nil ((i.members w.0).1 w.2)));
  smallest = λ n. absurd (n refl);
  next = λ e. absurd (omega arith);
  unused = ((λ e. refl), λ h. refl);
}
reports_list g (x ∷ []) i =
    let legal : Legal g x = (i.members x).0 (Memᴰ.head refl) in
    let only : (b : List ℕ) → Legal g b → b ≡ x = λ b l. Memᴰ.eq_of_singleton ((i.members b).1 l) in
    record {
      most = omega arith;
      none = ((λ e. absurd (omega arith)), λ n. absurd (n x legal));
      one = ((λ e. (x, legal, only)), λ w. refl);
      several = ((λ e. absurd (omega arith)), λ w. absurd (w.4 (only w.0 w.2 ∙ sym (only w.1 w.3))));
      smallest = λ n. (legal, λ b l. inl (only b l));
      next = λ e. absurd (omega arith);
      unused = ((λ e. absurd (omega arith)), λ h. refl);
    }
reports_list g (x ∷ y ∷ bs) i =
    let legal : Legal g x = (i.members x).0 (Memᴰ.head refl) in
    let other : Legal g y = (i.members y).0 (Memᴰ.tail (Memᴰ.head refl)) in
    let rise : Before x y = i.rising.0 y (Memᴰ.head refl) in
    let differ : x ≡ y → ⊥ = λ e. let w = subst (Before x) (sym e) rise in before_once x x w w in
    record {
      most = omega arith;
      none = ((λ e. absurd (omega arith)), λ n. absurd (n x legal));
      one = ((λ e. absurd (omega arith)), λ w. absurd (differ (w.2 x legal ∙ sym (w.2 y other))));
      several = ((λ e. (x, y, legal, other, differ)), λ w. refl);
      smallest = λ n. (legal, λ b l. ⊎_elim inl (λ m. inr (i.rising.0 b m)) (Memᴰ.cases_cons ((i.members b).1 l)));
      next = λ e. (
        other,
        rise,
        λ b l. ⊎_elim inl (λ m. inr (⊎_elim inl (λ o. inr (i.rising.1.0 b o)) (Memᴰ.cases_cons m))) (Memᴰ.cases_cons ((i.members b).1 l)),
      );
      unused = ((λ e. absurd (omega arith)), λ h. absurd (omega arith));
    }

-- so what is found of a grid's completions reports them
pub found_reports : (g : List ℕ) → let f = found_of (completions g) in Reports g (count_of f) (first_of f) (second_of f)
found_reports g = reports_list g (completions g) (completions_in_order g)
