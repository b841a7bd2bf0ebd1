-- Sums of weights. A weight is 0 or at least 1,024, so that in a sum below 2,048 at most one place weighs: it is undecided, and the sum tells which.
-- A clause has such a sum exactly where it may act. A mark changes the weight of its place alone, and the sums that the place is in by as much.
-- Assumes nothing.
use mathlib.Core.Path.{◌≡◌, refl, ap, sym, ◌∙◌}
use mathlib.Core.Logic.{◌⊎◌, inl, inr, ⊎_elim}
use mathlib.Core.List.{List}
use Prim.Native.Nat.{ℕ, zero, suc, ◌+◌, ◌*◌, ◌≤◌, ◌<◌}
use native.Mathlib.Decide.{ℕ_discrete, dec_lt}
use native.Mathlib.Omega.{arith}
use lib.ListN.{length, get_or, set}
use lib.Seq.{get_or-set_same, get_or-set_other}
use Rattle.grid.specs.Counting.{total}
use Rattle.grid.proofs.Counting.{total_same}
use Rattle.grid.proofs.Completion.{eq_iff}
use Rattle.clauses.specs.Shape.{place_of}
use Rattle.clauses.specs.declared.Group.{Group}
use Rattle.closure.specs.Marks.{has, IsMarks}
use Rattle.groups.specs.Groups.{group_in}
use Rattle.worklist.specs.Sums.{weight, sum_of}
use Rattle.worklist.specs.Acting.{True, False, AllBut, Acts}
use Rattle.groups.proofs.Slots.{slot_place, slot_once}

-- two sums that differ at one number
total_change : (n : ℕ) (f g : ℕ → ℕ) (k : ℕ) → k < n → ((j : ℕ) → j < n → (j ≡ k → ⊥) → f j ≡ g j) → total n f + g k ≡ total n g + f k
unfolding total
total_change zero f g k h same = absurd (omega arith)
total_change (suc n) f g k h same = elim (ℕ_discrete n k) [
  | yes e ↦ (
      let r = total_same n f g (λ j b. same j (omega arith) (λ q. omega arith)) in
      let a = ap f e in
      let b = ap g e in
      omega arith)
  | no d ↦ (
      let r = total_change n f g k (omega arith) (λ j b. same j (omega arith)) in
      let s = same n (omega arith) d in
      omega arith)
]

total_most : (n : ℕ) (f : ℕ → ℕ) → ((j : ℕ) → j < n → f j ≤ 2776) → total n f ≤ n * 2776
unfolding total
total_most zero f h = omega arith
total_most (suc n) f h = omega (arith, total_most n f (λ j c. h j (omega arith)), h n (omega arith))

total_none : (n : ℕ) → total n (λ j. 0) ≡ 0
unfolding total
total_none zero = refl
total_none (suc n) = omega (arith, total_none n)

-- where all numbers but one are 0, the sum is that one
total_one : (n : ℕ) (f : ℕ → ℕ) (k : ℕ) → k < n → ((j : ℕ) → j < n → (j ≡ k → ⊥) → f j ≡ 0) → total n f ≡ f k
total_one n f k h none = let r = total_change n f (λ j. 0) k h none in let z = total_none n in omega arith

-- numbers that are 0 or at least 1,024, with a sum below 2,048: all are 0, or all but one, and that is the sum
total_small : (n : ℕ) (f : ℕ → ℕ) → ((j : ℕ) → j < n → (f j ≡ 0) ⊎ (1024 ≤ f j)) → total n f < 2048
    → ((total n f ≡ 0) × ((j : ℕ) → j < n → f j ≡ 0)) ⊎ ((k : ℕ) × (k < n) × (total n f ≡ f k) × (1024 ≤ f k) × ((j : ℕ) → j < n → (j ≡ k → ⊥) → f j ≡ 0))
unfolding total
total_small zero f h b = inl (refl, λ j c. absurd (omega arith))
total_small (suc n) f h b = ⊎_elim
    (λ z. elim (total_small n f (λ j c. h j (omega arith)) (omega (arith, z))) [
      | inl r ↦ inl (omega (arith, z, r.0), λ j c. elim (ℕ_discrete j n) [ yes e ↦ ap f e ∙ z | no d ↦ r.1 j (omega arith) ])
      | inr r ↦ inr (r.0, omega (arith, r.1), omega (arith, z, r.2), r.3, λ j c d. elim (ℕ_discrete j n) [ yes e ↦ ap f e ∙ z | no q ↦ r.4 j (omega arith) d ])
    ])
    (λ z. elim (total_small n f (λ j c. h j (omega arith)) (omega (arith, z))) [
      | inl r ↦ inr (n, omega arith, omega (arith, r.0), z, λ j c d. r.1 j (omega arith))
      | inr r ↦ absurd (omega (arith, z, r.2, r.3))
    ])
    (h n (omega arith))

-- weights by marks
weight_or : (b p : ℕ) → (weight b p ≡ 0) ⊎ (1024 ≤ weight b p)
weight_or zero p = inr (omega arith)
weight_or (suc zero) p = inr (omega arith)
weight_or (suc (suc b)) p = inl refl

pub weight_most : (b p : ℕ) → p < 729 → weight b p ≤ 2776
weight_most zero p h = omega arith
weight_most (suc zero) p h = omega arith
weight_most (suc (suc b)) p h = omega arith

weight_none : (b p : ℕ) → b ≤ 2 → weight b p ≡ 0 → b ≡ 2
weight_none zero p h e = omega arith
weight_none (suc zero) p h e = omega arith
weight_none (suc (suc b)) p h e = omega arith

weight_left : (b p : ℕ) → 1024 ≤ weight b p → weight b p < 2048 → (b ≡ 0) × (weight b p ≡ 1024 + p)
weight_left zero p h e = (refl, refl)
weight_left (suc zero) p h e = absurd (omega arith)
weight_left (suc (suc b)) p h e = absurd (omega arith)

weight_true : (b p : ℕ) → p < 729 → 2048 ≤ weight b p → b ≡ 1
weight_true zero p h e = absurd (omega arith)
weight_true (suc zero) p h e = refl
weight_true (suc (suc b)) p h e = absurd (omega arith)

-- marks as bytes
pub true_byte : (m : List ℕ) (p : ℕ) → get_or m p 0 ≡ 1 → True m p
unfolding has
true_byte m p e = (eq_iff (get_or m p 0) 1).1 e

pub false_byte : (m : List ℕ) (p : ℕ) → get_or m p 0 ≡ 2 → False m p
unfolding has
false_byte m p e = (eq_iff (get_or m p 0) 2).1 e

pub byte_true : (m : List ℕ) (p : ℕ) → True m p → get_or m p 0 ≡ 1
unfolding has
byte_true m p t = (eq_iff (get_or m p 0) 1).0 t

pub byte_false : (m : List ℕ) (p : ℕ) → False m p → get_or m p 0 ≡ 2
unfolding has
byte_false m p t = (eq_iff (get_or m p 0) 2).0 t

-- what the sum of a group tells
module _ (m : List ℕ) (g : Group) where
  abbrev w : ℕ → ℕ
  w k = weight (get_or m (place_of g k) 0) (place_of g k)

  false_weight : (j : ℕ) → False m (place_of g j) → w j ≡ 0
  false_weight j t = ap (λ b. weight b (place_of g j)) (byte_false m (place_of g j) t)

  -- below 2,048: that all places are false, or that one is left, undecided, and which
  pub sum_small : IsMarks m → sum_of m g < 2048
      → ((sum_of m g ≡ 0) × ((j : ℕ) → j < 9 → False m (place_of g j)))
      ⊎ ((k : ℕ) × (k < 9) × (sum_of m g ≡ 1024 + place_of g k) × (get_or m (place_of g k) 0 ≡ 0) × AllBut m g k)
  unfolding sum_of
  sum_small i b = ⊎_elim (λ r. inl (r.0, λ j c. none j (r.1 j c)))
      (λ r. let v = weight_left (get_or m (place_of g r.0) 0) (place_of g r.0) r.3 (omega (arith, b, r.2)) in
      inr (r.0, r.1, r.2 ∙ v.1, v.0, λ j c d. none j (r.4 j c d)))
      (total_small 9 w (λ j c. weight_or (get_or m (place_of g j) 0) (place_of g j)) b)
    where
      none : (j : ℕ) → w j ≡ 0 → False m (place_of g j)
      none j z = false_byte m (place_of g j) (weight_none (get_or m (place_of g j) 0) (place_of g j) (i.small (place_of g j)) z)

  -- 2,048 or more: where all places but one are false, that one is true
  pub sum_large : 2048 ≤ sum_of m g → (k : ℕ) → k < 9 → place_of g k < 729 → AllBut m g k → True m (place_of g k)
  unfolding sum_of
  sum_large h k b c a =
      let e = total_one 9 w k b (λ j d n. false_weight j (a j d n)) in
      true_byte m (place_of g k) (weight_true (get_or m (place_of g k) 0) (place_of g k) c (omega (arith, h, e)))

-- the sum of a slot's group
module _ (m : List ℕ) (x : ℕ) (h : x < 324) where
  pub sum_most : sum_of m (group_in x) ≤ 24984
  unfolding sum_of
  sum_most = total_most 9 (λ k. weight (get_or m (place_of (group_in x) k) 0) (place_of (group_in x) k))
      (λ k b. weight_most (get_or m (place_of (group_in x) k) 0) (place_of (group_in x) k) (slot_place x h k b).0)

  module _ (p b : ℕ) (long : p < length m) where
    -- a mark at a place of it, which was undecided
    pub sum_marked : get_or m p 0 ≡ 0 → (k : ℕ) → k < 9 → place_of (group_in x) k ≡ p
        → sum_of (set m p b) (group_in x) + (1024 + p) ≡ sum_of m (group_in x) + weight b p
    unfolding sum_of
    sum_marked z k c e =
        let f : ℕ → ℕ = λ j. weight (get_or (set m p b) (place_of (group_in x) j) 0) (place_of (group_in x) j) in
        let g : ℕ → ℕ = λ j. weight (get_or m (place_of (group_in x) j) 0) (place_of (group_in x) j) in
        let r : total 9 f + g k ≡ total 9 g + f k = total_change 9 f g k c (λ j d n.
        ap (λ y. weight y (place_of (group_in x) j)) (get_or-set_other m p (place_of (group_in x) j) b 0 (λ q. n (slot_once x h j k d c (q ∙ sym e))))) in
        let old : g k ≡ 1024 + p = ap (λ q. weight (get_or m q 0) q) e ∙ ap (λ y. weight y p) z in
        let new : f k ≡ weight b p = ap (λ q. weight (get_or (set m p b) q 0) q) e ∙ ap (λ y. weight y p) (get_or-set_same m p b 0 long) in
        omega (arith, r, old, new)

    -- a mark at another place
    pub sum_kept : ((k : ℕ) → k < 9 → place_of (group_in x) k ≡ p → ⊥) → sum_of (set m p b) (group_in x) ≡ sum_of m (group_in x)
    unfolding sum_of
    sum_kept n = total_same 9 (λ j. weight (get_or (set m p b) (place_of (group_in x) j) 0) (place_of (group_in x) j)) (λ j. weight (get_or m (place_of (group_in x) j) 0) (place_of (group_in x) j))
        (λ j d. ap (λ y. weight y (place_of (group_in x) j)) (get_or-set_other m p (place_of (group_in x) j) b 0 (λ q. n j d q)))

-- it is below 2,048 exactly where the clause may act
pub sum_acts : (m : List ℕ) (x : ℕ) → IsMarks m → sum_of m (group_in x) < 2048 → Acts m x
sum_acts m x i h = ⊎_elim
    (λ r. (0, omega arith, (λ j c d. r.1 j c), λ t. omega (arith, byte_true m (place_of (group_in x) 0) t, byte_false m (place_of (group_in x) 0) (r.1 0 (omega arith)))))
    (λ r. (r.0, r.1, r.4, λ t. omega (arith, byte_true m (place_of (group_in x) r.0) t, r.3)))
    (sum_small m (group_in x) i h)

pub acts_sum : (m : List ℕ) (x : ℕ) → x < 324 → Acts m x → sum_of m (group_in x) < 2048
acts_sum m x h w = elim (dec_lt (sum_of m (group_in x)) 2048) [
  | yes b ↦ b
  | no b ↦ absurd (w.3 (sum_large m (group_in x) (omega arith) w.0 w.1 (slot_place x h w.0 w.1).0 w.2))
]

-- an undecided place of it weighs its part
pub sum_least : (m : List ℕ) (x p k : ℕ) → x < 324 → p < length m → get_or m p 0 ≡ 0 → k < 9 → place_of (group_in x) k ≡ p → 1024 + p ≤ sum_of m (group_in x)
sum_least m x p k h long z c e = omega (arith, sum_marked m x h p 2 long z k c e)
