-- The jobs of a batch one after the other: the parts before the i-th are filled, and the others are as they were lent. The next job's part joins
-- those that are filled, and after the last nothing that was lent is left.
-- Assumes nothing.
use mathlib.Core.Path.{◌≡◌, refl, sym, ap, ◌∙◌}
use mathlib.Core.List.{List, ◌++◌, append_assoc, append-nil}
use Prim.Native.Nat.{ℕ, ◌+◌, ◌*◌, ◌-◌, ◌≤◌}
use native.Mathlib.Omega.{arith}
use native.Mathlib.Numerals.{add-one}
use borrow.Rule.Slice.PartMut.{put_mid}
use lib.IntN.{ℤ}
use lib.ListN.{length, take, drop, length-append, length-drop, drop_of_length-le}
use lib.Seq.{take-append_seam, drop-append_seam, drop-drop}
use Rattle.closure.specs.Job.{End, count_of, marks_of}
use Rattle.orders.specs.declared.technique.Technique.{Technique}
use Rattle.inference.specs.Call.{job_end_of}
use Rattle.batch.specs.Call.{grid_at, numbers_of, Done, more, done_after}
use Rattle.batch.specs.Parts.{Filled, AllFilled}

-- the k entries after the first a are replaced by ys
next : (p ys r m : List ℕ) (a k : ℕ) → length p ≡ a → m ≡ p ++ drop a r → take a m ++ (ys ++ drop k (drop a m)) ≡ (p ++ ys) ++ drop (a + k) r
next p ys r m a k n e =
    rw (e, ← n, take-append_seam, drop-append_seam, drop-drop) (sym (append_assoc p ys (drop (length p + k) r)))

add_sub : (a k : ℕ) → a + k - a ≡ k
add_sub a k = omega arith

-- the same of the i-th part of k entries
next_part : (p ys r m : List ℕ) (k i : ℕ) → length p ≡ k * i → m ≡ p ++ drop (k * i) r → put_mid (k * i) (k * i + k - k * i) m ys ≡ (p ++ ys) ++ drop (k * (i + 1)) r
next_part p ys r m k i n e =
    let q : k * (i + 1) ≡ k * i + k = omega arith in
    rw (add_sub, q) (next p ys r m (k * i) k n e)

-- a filled list and the rest of one that is lent are as long as that
row_long : (p r : List ℕ) (a n : ℕ) → length p ≡ a → length r ≡ n → a ≤ n → length (p ++ drop a r) ≡ n
row_long p r a n e h k = length-append p (drop a r) ∙ omega (arith, length-drop a r)

-- and once all is filled nothing is left of it
row_full : (p r : List ℕ) (n : ℕ) → length r ≡ n → p ++ drop n r ≡ p
row_full p r n h = ap (λ l. p ++ l) (drop_of_length-le r {i = n} (omega arith)) ∙ append-nil p

-- the first i jobs of a batch are done; m₀ and n₀ were lent
pub record Underway (t : Technique) (o : List ℤ) (g : List ℕ) (c : ℕ) (m₀ n₀ : List ℕ) (i : ℕ) (marks numbers : List ℕ) (made : ℕ) : Type 0 where
  pub marks_are : marks ≡ (done_after t o g c i).marks ++ drop (729 * i) m₀
  pub numbers_are : numbers ≡ (done_after t o g c i).numbers ++ drop (2 * i) n₀
  pub marks_long : length (done_after t o g c i).marks ≡ 729 * i
  pub numbers_long : length (done_after t o g c i).numbers ≡ 2 * i
  pub made_is : made ≡ (done_after t o g c i).count

module _ {t : Technique} {o : List ℤ} {g : List ℕ} {c : ℕ} {m₀ n₀ : List ℕ} where
  pub none_done : Underway t o g c m₀ n₀ 0 m₀ n₀ 0
  unfolding done_after
  none_done = record { marks_are = refl; numbers_are = refl; marks_long = refl; numbers_long = refl; made_is = refl }

  module _ {i : ℕ} {marks numbers : List ℕ} {made : ℕ} (u : Underway t o g c m₀ n₀ i marks numbers made) where
    abbrev done : ℕ → Done
    done k = done_after t o g c k

    pub marks_length : (n : ℕ) → i ≤ n → length m₀ ≡ 729 * n → length marks ≡ 729 * n
    marks_length n h e = ap length u.marks_are ∙ row_long (done i).marks m₀ (729 * i) (729 * n) u.marks_long e (omega arith)

    pub numbers_length : (n : ℕ) → i ≤ n → length n₀ ≡ 2 * n → length numbers ≡ 2 * n
    numbers_length n h e = ap length u.numbers_are ∙ row_long (done i).numbers n₀ (2 * i) (2 * n) u.numbers_long e (omega arith)

    abbrev here : End
    here = job_end_of t o (grid_at g i) (c - (done i).count)

    -- the next job gets what is left of the ceiling
    job_is : job_end_of t o (grid_at g i) (c - made) ≡ here
    job_is = rw u.made_is refl

    next_done : done (i + 1) ≡ more (done i) here
    unfolding done_after
    next_done = rw add-one

    -- the next job is done
    pub one_more : (ms ns : List ℕ) (l : ℕ) → Filled (job_end_of t o (grid_at g i) (c - made)) made ms ns l
        → Underway t o g c m₀ n₀ (i + 1) (put_mid (729 * i) (729 * i + 729 - 729 * i) marks ms) (put_mid (2 * i) (2 * i + 2 - 2 * i) numbers ns) l
    one_more ms ns l f =
        let e = job_is in
        let m : (done i).marks ++ ms ≡ (done (i + 1)).marks = ap (λ x. (done i).marks ++ x) (f.marks_are ∙ ap marks_of e) ∙ sym (ap (λ d. d.marks) next_done) in
        let n : (done i).numbers ++ ns ≡ (done (i + 1)).numbers = ap (λ x. (done i).numbers ++ x) (f.numbers_are ∙ ap numbers_of e) ∙ sym (ap (λ d. d.numbers) next_done) in
        record {
          marks_are = next_part (done i).marks ms m₀ marks 729 i u.marks_long u.marks_are ∙ ap (λ x. x ++ drop (729 * (i + 1)) m₀) m;
          numbers_are = next_part (done i).numbers ns n₀ numbers 2 i u.numbers_long u.numbers_are ∙ ap (λ x. x ++ drop (2 * (i + 1)) n₀) n;
          marks_long = omega (arith, ap length m, length-append (done i).marks ms, u.marks_long, f.marks_long);
          numbers_long = omega (arith, ap length n, length-append (done i).numbers ns, u.numbers_long, ap length f.numbers_are);
          made_is = f.sum_is ∙ (λ j. u.made_is j + count_of (e j)) ∙ sym (ap (λ d. d.count) next_done);
        }

    -- all are
    pub all_done : (n : ℕ) → i ≡ n → length m₀ ≡ 729 * n → length n₀ ≡ 2 * n → AllFilled (done n) marks numbers
    all_done n e p q = record {
      marks_are = u.marks_are ∙ row_full (done i).marks m₀ (729 * i) (omega arith) ∙ ap (λ k. (done k).marks) e;
      numbers_are = u.numbers_are ∙ row_full (done i).numbers n₀ (2 * i) (omega arith) ∙ ap (λ k. (done k).numbers) e;
    }
