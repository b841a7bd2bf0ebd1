-- The clauses of a list are looked at one by one, and those with a sum below 2,048 stay. They are written to the front of the same list, never past
-- the one that is looked at, so that those to come stand where they stood. A sum of 0 among them is a contradiction.
-- Assumes nothing.
use mathlib.Core.Path.{◌≡◌, refl, ap, sym, subst, ◌∙◌}
use mathlib.Core.Logic.{◌⊎◌, inl, inr, ⊎_elim}
use mathlib.Core.Bool.{Bool, ◌||◌, false}
use mathlib.Core.List.{List}
use Prim.Native.Nat.{ℕ, ◌+◌, ◌≤◌, ◌<◌}
use native.Mathlib.Decide.{dec_lt}
use native.Mathlib.Omega.{arith}
use lib.Dec.{T, eqb}
use lib.ListN.{length, get_or, set, length-set}
use lib.Seq.{get_or-set_other}
use Rattle.std.specs.Prelude.{Result, IsErr, IsOk}
use Rattle.grid.proofs.Completion.{eq_iff}
use Rattle.clauses.specs.declared.ClauseSet.TheVariants.{Extended}
use Rattle.closure.proofs.Marks.{or_iff}
use Rattle.groups.specs.Groups.{clause_in}
use Rattle.worklist.specs.Acting.{Listed, Lists, On, Settled}
use Rattle.worklist.specs.declared.acting.Clash.{Clash}
use Rattle.worklist.specs.declared.acting.Worklist.{Worklist}
use Rattle.groups.proofs.Slots.{clause_once}
use Rattle.worklist.proofs.Lists.{lists_few, lists_skip, lists_more}
use Rattle.worklist.proofs.Denying.{Low}

-- the first i clauses of the list were looked at: so many stay, and the others stand where they stood
pub record Settling (a : List ℕ) (old : Worklist) (i : ℕ) (ls : List ℕ) (n : ℕ) (found : Bool) : Type 0 where
  pub behind : n ≤ i
  pub long : length ls ≡ 361
  pub rest : (j : ℕ) → i ≤ j → get_or ls j 0 ≡ get_or old.numbers j 0
  pub lists : Lists Extended (λ x. Listed old.numbers i (clause_in x) × Low a x) ls n
  pub clash : T found → (x : ℕ) × (x < 324) × On old x × (get_or a x 0 ≡ 0)
  pub none : (T found → ⊥) → (x : ℕ) → x < 324 → Listed old.numbers i (clause_in x) → get_or a x 0 ≡ 0 → ⊥

pub settling_none : (a : List ℕ) (old : Worklist) → length old.numbers ≡ 361 → Settling a old 0 old.numbers 0 false
settling_none a old long =
    record {
      behind = omega arith;
      long = long;
      rest = λ j h. refl;
      lists = record { sound = λ i h. absurd (omega arith); once = λ i j h k. absurd (omega arith); complete = λ x h w. absurd (omega (arith, w.0.1)) };
      clash = λ t. absurd t;
      none = λ f x h k z. omega (arith, k.1);
    }

-- all were looked at
pub settling_all : (a : List ℕ) (old : Worklist) {i : ℕ} {found : Bool} {l : Worklist} {r : Result (Unit {0}) Clash} → i ≡ old.listed → (IsErr r → T found) → (IsOk r → T found → ⊥) → Settling a old i l.numbers l.listed found → Settled a old l r
settling_all a old {l = l} e f g w =
    record {
      long = w.long;
      lists = subst (λ i. Lists Extended (λ x. Listed old.numbers i (clause_in x) × Low a x) l.numbers l.listed) e w.lists;
      clash = λ z. w.clash (f z);
      none = λ o x h k z. w.none (g o) x h (subst (λ i. Listed old.numbers i (clause_in x)) (sym e) k) z;
    }

module _ (a : List ℕ) (old : Worklist) (i : ℕ) (ls : List ℕ) (n : ℕ) (found : Bool) (r : Lists Extended (On old) old.numbers old.listed) (before : i < old.listed) (w : Settling a old i ls n found) where
  -- the slot of the clause whose turn it is
  abbrev pub slot : ℕ
  slot = (r.sound i before).0

  slot_small : slot < 324
  slot_small = (r.sound i before).1

  pub is_clause : get_or ls i 0 ≡ clause_in slot
  is_clause = w.rest i (omega arith) ∙ (r.sound i before).3

  room : n < 361
  room = omega (arith, lists_few w.lists)

  -- a clause that was looked at, this one too, is this one or one from before
  earlier : (x : ℕ) → x < 324 → Listed old.numbers (i + 1) (clause_in x) → Listed old.numbers i (clause_in x) ⊎ (x ≡ slot)
  earlier x h k = elim (dec_lt k.0 i) [
    | yes b ↦ inl (k.0, b, k.2)
    | no b ↦ (
        let e : k.0 ≡ i = omega (arith, k.1) in
        inr (clause_once x slot h slot_small (sym k.2 ∙ ap (λ j. get_or old.numbers j 0) e ∙ (r.sound i before).3)))
  ]

  later : (x : ℕ) → Listed old.numbers i (clause_in x) → Listed old.numbers (i + 1) (clause_in x)
  later x k = (k.0, omega (arith, k.1), k.2)

  pub settling_next : {n' : ℕ} → ((get_or a slot 0 < 2048) × (n' ≡ n + 1)) ⊎ ((2048 ≤ get_or a slot 0) × (n' ≡ n)) → Settling a old (i + 1) (set ls n (clause_in slot)) n' (found || eqb (get_or a slot 0) 0)
  settling_next {n'} branch =
      record {
        behind = ⊎_elim (λ b. omega (arith, b.1, w.behind)) (λ b. omega (arith, b.1, w.behind)) branch;
        long = length-set ls n (clause_in slot) ∙ w.long;
        rest = λ j h. get_or-set_other ls n j (clause_in slot) 0 (λ e. omega (arith, w.behind, h, e)) ∙ w.rest j (omega arith);
        lists = ⊎_elim
            (λ b. subst (Lists Extended After (set ls n (clause_in slot))) (sym b.1)
            (lists_more w.lists (clause_in slot) (omega (arith, room, w.long)) slot slot_small refl
            (λ k. r.once k.0.0 i k.0.1 before (k.0.2 ∙ sym (r.sound i before).3))
            ((i, omega arith, (r.sound i before).3), b.0)
            (λ x h k. (later x k.0, k.1))
            (λ x h k. ⊎_elim (λ l. inl (l, k.1)) inr (earlier x h k.0))))
            (λ b. subst (Lists Extended After (set ls n (clause_in slot))) (sym b.1)
            (lists_skip w.lists (clause_in slot)
            (λ x h k. (later x k.0, k.1))
            (λ x h k. (⊎_elim (λ l. l) (λ e. absurd (let q = ap (λ y. get_or a y 0) e in omega (arith, q, k.1, b.0))) (earlier x h k.0), k.1))))
            branch;
        clash = λ t. ⊎_elim w.clash (λ z. (slot, slot_small, (i, before, (r.sound i before).3), (eq_iff (get_or a slot 0) 0).0 z)) ((or_iff found (eqb (get_or a slot 0) 0)).0 t);
        none = λ f x h k z. let or = or_iff found (eqb (get_or a slot 0) 0) in ⊎_elim
            (λ l. w.none (λ t. f (or.1 (inl t))) x h l z)
            (λ e. f (or.1 (inr ((eq_iff (get_or a slot 0) 0).1 (ap (λ y. get_or a y 0) (sym e) ∙ z)))))
            (earlier x h k);
      }
    where
      After : ℕ → Type 0
      After x = Listed old.numbers (i + 1) (clause_in x) × Low a x
