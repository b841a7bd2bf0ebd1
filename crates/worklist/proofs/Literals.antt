-- A literal as a place and a byte of marks: to mark it is to put its byte at its place. A variable is undecided exactly where its byte is 0; where it
-- is, the marks with the byte put have just that literal more.
-- Assumes nothing.
use mathlib.Core.Path.{ap, ◌∙◌, ◌≡◌}
use mathlib.Core.Logic.{inl, inr, ⊎_elim, ◌↔◌}
use mathlib.Core.List.{List}
use Prim.Native.Nat.{ℕ, zero, suc, ◌<◌}
use native.Mathlib.Omega.{arith}
use lib.Dec.{T}
use lib.IntN.{ℤ, pos, negsuc, neg_ℤ}
use lib.ListN.{length, get_or, set}
use Rattle.grid.proofs.Completion.{eq_iff}
use Rattle.clauses.specs.Literal.{Literal, mark_index}
use Rattle.closure.specs.Closure.{With}
use Rattle.closure.specs.Marks.{has, is_decided, mark, IsMarks}
use Rattle.closure.proofs.Marks.{has_mark, put_set, or_iff}

-- the place of a literal's variable
abbrev pub place_at : ℤ → ℕ
place_at (pos zero) = 0
place_at (pos (suc p)) = p
place_at (negsuc p) = p

-- the byte that marks a literal
abbrev pub byte_of : ℤ → ℕ
byte_of (pos k) = 1
byte_of (negsuc k) = 2

pub place_below : (l : ℤ) → Literal l → place_at l < 729
place_below (pos zero) v = absurd v
place_below (pos (suc k)) v = v
place_below (negsuc k) v = v

pub index_place : (l : ℤ) → Literal l → mark_index l ≡ place_at l
index_place (pos zero) v = absurd v
index_place (pos (suc k)) v = omega arith
index_place (negsuc k) v = omega arith

-- the place that the code finds by a literal as it reads it
pub place_read : {p : ℕ} {l l' : ℤ} → p ≡ mark_index l' → l' ≡ l → Literal l → p ≡ place_at l
place_read e q lit = e ∙ ap mark_index q ∙ index_place _ lit

pub mark_set : (m : List ℕ) (l : ℤ) → Literal l → length m ≡ 729 → mark m l ≡ set m (place_at l) (byte_of l)
unfolding mark
mark_set m (pos zero) v n = absurd v
mark_set m (pos (suc k)) v n = put_set m k 1 (omega arith)
mark_set m (negsuc k) v n = put_set m k 2 (omega arith)

-- the byte of a variable that is not decided, and that of one that is
pub open_byte : (m : List ℕ) → IsMarks m → (l : ℤ) → Literal l → (T (is_decided m l) → ⊥) → get_or m (place_at l) 0 ≡ 0
unfolding has
open_byte m i (pos zero) v n = absurd v
open_byte m i (pos (suc k)) v n =
    let o = or_iff (has m (pos (suc k))) (has m (negsuc k)) in
    let a : get_or m k 0 ≡ 1 → ⊥ = λ e. n (o.1 (inl ((eq_iff (get_or m k 0) 1).1 e))) in
    let b : get_or m k 0 ≡ 2 → ⊥ = λ e. n (o.1 (inr ((eq_iff (get_or m k 0) 2).1 e))) in
    omega (arith, i.small k, a, b)
open_byte m i (negsuc k) v n =
    let o = or_iff (has m (negsuc k)) (has m (pos (suc k))) in
    let a : get_or m k 0 ≡ 1 → ⊥ = λ e. n (o.1 (inr ((eq_iff (get_or m k 0) 1).1 e))) in
    let b : get_or m k 0 ≡ 2 → ⊥ = λ e. n (o.1 (inl ((eq_iff (get_or m k 0) 2).1 e))) in
    omega (arith, i.small k, a, b)

pub byte_open : (m : List ℕ) (l : ℤ) → Literal l → get_or m (place_at l) 0 ≡ 0 → T (is_decided m l) → ⊥
unfolding has
byte_open m (pos zero) v z t = v
byte_open m (pos (suc k)) v z t =
    ⊎_elim (λ x. omega (arith, z, (eq_iff (get_or m k 0) 1).0 x)) (λ x. omega (arith, z, (eq_iff (get_or m k 0) 2).0 x)) ((or_iff (has m (pos (suc k))) (has m (negsuc k))).0 t)
byte_open m (negsuc k) v z t =
    ⊎_elim (λ x. omega (arith, z, (eq_iff (get_or m k 0) 2).0 x)) (λ x. omega (arith, z, (eq_iff (get_or m k 0) 1).0 x)) ((or_iff (has m (negsuc k)) (has m (pos (suc k)))).0 t)

-- a literal of an undecided variable that is marked
pub has_set : (m : List ℕ) (l : ℤ) → IsMarks m → Literal l → get_or m (place_at l) 0 ≡ 0 → (k : ℤ) → T (has (set m (place_at l) (byte_of l)) k) ↔ With (has m) l k
has_set m l i v z k = rw (← mark_set m l v i.long) (has_mark m l v (λ t. byte_open m l v z ((or_iff (has m l) (has m (neg_ℤ l))).1 (inr t))) k)
