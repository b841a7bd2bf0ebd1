-- Places are struck one after the other. One that is undecided becomes false, and nothing else is new; one that is false stays so. So each joins
-- those that are struck before it, and a place that was not true is still not.
-- Assumes nothing.
use mathlib.Core.Path.{◌≡◌, refl, ap, sym, subst, ◌∙◌}
use mathlib.Core.Logic.{◌⊎◌, inl, inr, ⊎_elim, ◌↔◌}
use mathlib.Core.List.{List}
use Prim.Native.Nat.{ℕ, suc, ◌-◌, ◌≤◌, ◌<◌}
use native.Mathlib.Decide.{dec_lt}
use native.Mathlib.Omega.{arith}
use lib.Dec.{T}
use lib.IntN.{ℤ, pos, negsuc}
use lib.ListN.{get_or, set}
use Rattle.clauses.specs.declared.ClauseSet.{ClauseSet}
use Rattle.closure.specs.Closure.{With}
use Rattle.closure.specs.Marks.{has}
use Rattle.worklist.specs.Acting.{True, False, Ready, Strikes}
use Rattle.worklist.specs.declared.acting.State.{State}
use Rattle.worklist.specs.declared.acting.Worklist.{Worklist}
use Rattle.worklist.proofs.Literals.{has_set}
use Rattle.worklist.proofs.Sums.{true_byte, false_byte}

-- a literal is not both positive and negative
pub signs_differ : (a b : ℕ) → pos (suc a) ≡ negsuc b → ⊥
signs_differ a b e = let z : ◌≡◌ {A = ℕ} 0 1 = cc in omega arith

module _ (s : ClauseSet) where
  module _ (q : ℕ) {st : State} {l : Worklist} (h : q < 729) where
    -- a place that is false
    pub strikes_already : Ready s st l → (True st.marks q → ⊥) → (get_or st.marks q 0 ≡ 0 → ⊥) → Strikes s (λ x. x ≡ q) st.marks st l
    strikes_already r n z =
        let e : get_or st.marks q 0 ≡ 1 → ⊥ = λ e. n (true_byte st.marks q e) in
        let f : False st.marks q = false_byte st.marks q (omega (arith, r.marks.small q, e, z)) in
        record { ready = r; keeps = λ l t. t; struck = λ x o. subst (False st.marks) (sym o) f; only = λ l t. inl t }

    -- a place that is undecided
    pub strikes_new : {st' : State} {l' : Worklist} → Ready s st l → get_or st.marks q 0 ≡ 0 → st'.marks ≡ set st.marks q 2 → Ready s st' l'
        → Strikes s (λ x. x ≡ q) st.marks st' l'
    strikes_new r z d r' =
        let e = subst (λ m. (k : ℤ) → T (has m k) ↔ With (has st.marks) (negsuc q) k) (sym d) (has_set st.marks (negsuc q) r.marks h z) in
        record {
          ready = r';
          keeps = λ l t. (e l).1 (inl t);
          struck = λ x o. (e (negsuc x)).1 (inr (ap negsuc o));
          only = λ l t. ⊎_elim inl (λ k. inr (q, refl, k)) ((e l).0 t);
        }

  -- the same places, said otherwise
  pub strikes_same : {O P : ℕ → Type 0} {m : List ℕ} {st : State} {l : Worklist} → ((x : ℕ) → O x → P x) → ((x : ℕ) → P x → O x) → Strikes s O m st l → Strikes s P m st l
  strikes_same f g v =
      record {
        ready = v.ready;
        keeps = v.keeps;
        struck = λ x p. v.struck x (g x p);
        only = λ l t. ⊎_elim inl (λ k. inr (k.0, f k.0 k.1, k.2)) (v.only l t);
      }

  -- one place more
  pub strikes_more : {O P : ℕ → Type 0} {q : ℕ} {m : List ℕ} {st st' : State} {l l' : Worklist}
      → ((x : ℕ) → P x → O x ⊎ (x ≡ q)) → ((x : ℕ) → O x → P x) → P q
      → Strikes s O m st l → Strikes s (λ x. x ≡ q) st.marks st' l' → Strikes s P m st' l'
  strikes_more {P = P} d f g v w =
      record {
        ready = w.ready;
        keeps = λ l t. w.keeps l (v.keeps l t);
        struck = λ x p. ⊎_elim (λ o. w.keeps _ (v.struck x o)) (λ e. w.struck x e) (d x p);
        only = λ l t. ⊎_elim
            (λ u. ⊎_elim inl (λ k. inr (k.0, f k.0 k.1, k.2)) (v.only l u))
            (λ k. inr (k.0, subst P (sym k.1) g, k.2)) (w.only l t);
      }

  -- a place that is not true is not true after others are struck
  pub strikes_open : {O : ℕ → Type 0} {m : List ℕ} {st : State} {l : Worklist} (q : ℕ) → Strikes s O m st l → (True m q → ⊥) → True st.marks q → ⊥
  strikes_open q v n t = ⊎_elim n (λ k. absurd (signs_differ q k.0 k.2)) (v.only (pos (suc q)) t)

-- place q stands in the array, from place i on and before n
abbrev pub ListedFrom : List ℕ → ℕ → ℕ → ℕ → Type 0
ListedFrom o i n q = (j : ℕ) × (i ≤ j) × (j < n) × (get_or o j 0 ≡ q)

-- what is listed from the place before on
pub listed_next : (o : List ℕ) (i n x : ℕ) → 0 < i → ListedFrom o (i - 1) n x → ListedFrom o i n x ⊎ (x ≡ get_or o (i - 1) 0)
listed_next o i n x h k = elim (dec_lt k.0 i) [
  | yes b ↦ (let e : k.0 ≡ i - 1 = omega (arith, k.1) in inr (sym k.3 ∙ ap (λ j. get_or o j 0) e))
  | no b ↦ inl (k.0, omega arith, k.2, k.3)
]
