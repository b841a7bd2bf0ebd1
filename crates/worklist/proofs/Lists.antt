-- A list of clauses, each once. A clause that was not listed may join; one that is written behind the list does not count. There are at most 324,
-- since different clauses have different slots.
-- Assumes nothing.
use mathlib.Core.Path.{◌≡◌, refl, ap, sym, subst, ◌∙◌}
use mathlib.Core.Bool.{cond}
use mathlib.Core.Logic.{◌⊎◌, inl, inr, ⊎_elim}
use mathlib.Core.List.{List, map}
use Prim.Native.Nat.{ℕ, ◌+◌, ◌-◌, ◌≤◌, ◌<◌}
use native.Mathlib.Decide.{dec_lt}
use native.Mathlib.Omega.{arith}
use borrow.Author.Tests.{ne_eqb, lt-ltb, le-ltb}
use lib.Dec.{eqb, ltb}
use lib.ListN.{length, get_or, set}
use lib.Seq.{get_or-set_same, get_or-set_other}
use Rattle.std.specs.List.{range_with_len}
use Rattle.std.proofs.lemmas.Bool.{true≢false}
use Rattle.std.proofs.lemmas.List.Folds.{list_any_none}
use Rattle.std.proofs.lemmas.List.FromFn.{length-map-range_with_len, get_or-map-range_with_len}
use Rattle.std.proofs.lemmas.Map.Keys.{IsDistinct-from_apart}
use Rattle.std.proofs.lemmas.Map.Steps.{length-le_from_distinct_below}
use Rattle.clauses.specs.declared.ClauseSet.{ClauseSet}
use Rattle.groups.specs.Groups.{clause_in}
use Rattle.worklist.specs.Sums.{InSlots}
use Rattle.worklist.specs.Acting.{Lists}
use Rattle.groups.proofs.Slots.{nines_below, clause_number, clause_once}

-- n numbers below b, no two of them the same, are at most b
few : (n b : ℕ) (f : ℕ → ℕ) → ((i : ℕ) → i < n → f i < b) → ((i j : ℕ) → i < j → j < n → f i ≡ f j → ⊥) → n ≤ b
few n b f below apart =
    let xs = map f (range_with_len 0 n) in
    let long : length xs ≡ n = length-map-range_with_len f 0 n in
    let at : (i d : ℕ) → i < length xs → get_or xs i d ≡ f i = λ i d h. get_or-map-range_with_len f 0 n i i d (omega (arith, h, long)) (omega arith) in
    omega (
      arith,
      long,
      length-le_from_distinct_below xs b
          (IsDistinct-from_apart eqb xs (λ i j d h k. ne_eqb (get_or xs i d) (get_or xs j d) (λ e. apart i j h (omega (arith, k, long)) (sym (at i d (omega arith)) ∙ e ∙ at j d k))))
          (λ q t. elim (dec_lt q b) [
            | yes h ↦ h
            | no h ↦ absurd (true≢false (sym t ∙ list_any_none (eqb q) xs (λ i d k. ne_eqb q (get_or xs i d) (λ e. h (omega (arith, e, at i d k, below i (omega (arith, k, long))))))))
          ]),
    )

-- the slot of a clause's number
abbrev slot_from : ℕ → ℕ
slot_from c = cond (ltb c 11664) c (c - 11664)

slot_back : (x : ℕ) → x < 324 → slot_from (clause_in x) ≡ x
slot_back x h = elim (clause_number x) [
  | inl u ↦ rw (u.1, lt-ltb x 11664 (omega arith))
  | inr u ↦ rw (u.1, le-ltb (x + 11664) 11664 (omega arith)) (omega arith)
]

pub slots_below : (s : ClauseSet) (x : ℕ) → InSlots s x → x < 324
slots_below s x h = omega (arith, nines_below s)

module _ {s : ClauseSet} {P : ℕ → Type 0} {ls : List ℕ} {n : ℕ} (r : Lists s P ls n) where
  pub lists_few : n ≤ 324
  lists_few =
      let back : (i : ℕ) → (h : i < n) → slot_from (get_or ls i 0) ≡ (r.sound i h).0 = λ i h. let w = r.sound i h in ap slot_from w.3 ∙ slot_back w.0 (slots_below s w.0 w.1) in
      few n 324 (λ i. slot_from (get_or ls i 0))
      (λ i h. let w = r.sound i h in omega (arith, back i h, slots_below s w.0 w.1))
      (λ i j h k e.
      let v = r.sound i (omega arith) in
      let w = r.sound j k in
      r.once i j h k (v.3 ∙ ap clause_in (sym (back i (omega arith)) ∙ e ∙ back j k) ∙ sym w.3))

  -- the slots said otherwise, for another set too
  pub lists_same : {t : ClauseSet} {Q : ℕ → Type 0} → ((x : ℕ) → InSlots s x → P x → InSlots t x × Q x) → ((x : ℕ) → InSlots t x → Q x → InSlots s x × P x) → Lists t Q ls n
  lists_same f g =
      record {
        sound = λ i h. let w = r.sound i h in let v = f w.0 w.1 w.2 in (w.0, v.0, v.1, w.3);
        once = r.once;
        complete = λ x h q. let v = g x h q in r.complete x v.0 v.1;
      }

  module _ (c : ℕ) where
    there : (j : ℕ) → j < n → get_or (set ls n c) j 0 ≡ get_or ls j 0
    there j h = get_or-set_other ls n j c 0 (λ e. omega arith)

    -- a number that is written behind the list does not count
    pub lists_skip : {Q : ℕ → Type 0} → ((x : ℕ) → InSlots s x → P x → Q x) → ((x : ℕ) → InSlots s x → Q x → P x) → Lists s Q (set ls n c) n
    lists_skip f g =
        record {
          sound = λ i h. let w = r.sound i h in (w.0, w.1, f w.0 w.1 w.2, there i h ∙ w.3);
          once = λ i j h k e. r.once i j h k (sym (there i (omega arith)) ∙ e ∙ there j k);
          complete = λ x h q. let w = r.complete x h (g x h q) in (w.0, w.1, there w.0 w.1 ∙ w.2);
        }

    -- a clause more, which was not on the list
    pub lists_more : {Q : ℕ → Type 0} → n < length ls → (y : ℕ) → InSlots s y → c ≡ clause_in y → (P y → ⊥) → Q y → ((x : ℕ) → InSlots s x → P x → Q x) → ((x : ℕ) → InSlots s x → Q x → P x ⊎ (x ≡ y))
        → Lists s Q (set ls n c) (n + 1)
    lists_more room y in_y is_y new q f g =
        record {
          sound = λ i h. elim (dec_lt i n) [
            | yes b ↦ (let w = r.sound i b in (w.0, w.1, f w.0 w.1 w.2, there i b ∙ w.3))
            | no b ↦ (y, in_y, q, at i (omega arith) ∙ is_y)
          ];
          once = λ i j h k e. elim (dec_lt j n) [
            | yes b ↦ r.once i j h b (sym (there i (omega arith)) ∙ e ∙ there j b)
            | no b ↦ (
                let w = r.sound i (omega arith) in
                let z = clause_once w.0 y (slots_below s w.0 w.1) (slots_below s y in_y) (sym w.3 ∙ sym (there i (omega arith)) ∙ e ∙ at j (omega arith) ∙ is_y) in
                new (subst P z w.2))
          ];
          complete = λ x h z. ⊎_elim
              (λ p. let w = r.complete x h p in (w.0, omega (arith, w.1), there w.0 w.1 ∙ w.2))
              (λ e. (n, omega arith, at n refl ∙ is_y ∙ ap clause_in (sym e)))
              (g x h z);
        }
      where
        at : (i : ℕ) → i ≡ n → get_or (set ls n c) i 0 ≡ c
        at i e = ap (λ j. get_or (set ls n c) j 0) e ∙ get_or-set_same ls n c 0 room
