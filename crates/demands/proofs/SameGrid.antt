-- Grids that differ only in their signs for a blank have the same given, or none, in each cell, and the same grids complete them. A job, a search or a
-- grading that accepts a grid looks only at its givens and its completions, so that it does not tell the two apart.
-- Assumes nothing.
use mathlib.Core.Path.{◌≡◌, refl, sym, ap, ◌∙◌}
use mathlib.Core.Bool.{Bool, true, false}
use mathlib.Core.List.{List, [], ◌∷◌}
use Prim.Native.Nat.{ℕ, zero, suc, ◌+◌, ◌*◌}
use lib.ListN.{length, take, drop}
use Rattle.std.specs.Prelude.{Result, Ok, Err}
use lib.Dec.{T}
use lib.IntN.{ℤ, pos}
use Rattle.grid.specs.Grid.{byte, is_digit, digit_of, digits_of}
use Rattle.grid.specs.Refusals.{bytes_check, grid_check}
use Rattle.grid.specs.Completion.{Legal, is_legal, completion_call}
use Rattle.grid.proofs.Completion.{legal_iff, same_digit, same_given, same_grid}
use Rattle.clauses.specs.Clauses.{range, over}
use Rattle.clauses.specs.Models.{given_at, givens}
use Rattle.completions.specs.Completions.{completions}
use Rattle.completions.proofs.ByteOrder.{in_order_same}
use Rattle.completions.proofs.Completions.{completions_in_order}
use Rattle.inference.specs.Call.{job_of, job_call}
use Rattle.search.specs.Call.{search_call}
use Rattle.orders.specs.declared.technique.Technique.{Technique}
use Rattle.grading.specs.Grade.{rate_from, grade_of, grade_call}
use Rattle.std.proofs.lemmas.List.{take-map, drop-map, length-map}
use Rattle.orders.specs.Order.{order_check}
use Rattle.orders.specs.Technique.{technique_of}
use Rattle.grid.specs.Refusals.{on_accepted}
use Rattle.grid.specs.declared.Refusal.{Refusal}
use Rattle.batch.specs.Call.{grids_in, grid_at, lent_check, done_after, refused, ran, batch_call}
use Rattle.listing.specs.Listing.{listed}
use Rattle.demands.specs.SameGrid.{SameCalls, SameBatches}

over_same : {A : Type 0} (a n : ℕ) (f h : ℕ → List A) → ((c : ℕ) → f c ≡ h c) → over (range a n) f ≡ over (range a n) h
over_same a zero f h e = refl
over_same a (suc n) f h e = rw (e a, over_same (suc a) n f h e) refl

module _ (g h : List ℕ) (e : digits_of g ≡ digits_of h) where
  same_at : (c : ℕ) → given_at (is_digit (byte g c)) c (digit_of (byte g c)) ≡ given_at (is_digit (byte h c)) c (digit_of (byte h c))
  same_at c =
      let d = same_digit g h e c in
      go (is_digit (byte g c)) (is_digit (byte h c)) (λ t. (same_given (byte h c) (byte g c) (sym d) t).0) (λ t. (same_given (byte g c) (byte h c) d t).0)
    where
      go : (a b : Bool) → (T a → T b) → (T b → T a) → given_at a c (digit_of (byte g c)) ≡ given_at b c (digit_of (byte h c))
      go true true x y = ap (λ z. pos (9 * c + z) ∷ []) (same_digit g h e c)
      go true false x y = absurd (x tt)
      go false true x y = absurd (y tt)
      go false false x y = refl

  same_givens : givens g ≡ givens h
  unfolding givens
  same_givens = over_same 0 81 _ _ same_at

  same_completions : completions g ≡ completions h
  same_completions =
      in_order_same (Legal g) (Legal h) (completions g) (completions h) (completions_in_order g) (completions_in_order h)
      (λ b. (same_grid g h b e, same_grid h g b (sym e)))

  same_legal : (b : List ℕ) → is_legal g b ≡ is_legal h b
  same_legal b = both (is_legal g b) (is_legal h b) (λ t. (legal_iff h b).1 (same_grid g h b e ((legal_iff g b).0 t))) (λ t. (legal_iff g b).1 (same_grid h g b (sym e) ((legal_iff h b).0 t)))
    where
      both : (x y : Bool) → (T x → T y) → (T y → T x) → x ≡ y
      both true true f k = refl
      both true false f k = absurd (f tt)
      both false true f k = absurd (k tt)
      both false false f k = refl

pub same_calls : (g h : List ℕ) → grid_check g ≡ Ok tt → grid_check h ≡ Ok tt → digits_of g ≡ digits_of h → SameCalls g h
unfolding completion_call job_call job_of search_call grade_call grade_of rate_from listed
same_calls g h a b e =
    let i = same_givens g h e in
    let d = same_completions g h e in
    record {
      completions = λ x. rw (a, b, same_legal g h e x) refl;
      jobs = λ n o c m. rw (a, b, i) refl;
      searches = λ x y. rw (a, b, d) refl;
      gradings = λ o c x. rw (a, b, d, i) refl;
      lines = λ n. rw (a, b, d, i) refl;
    }

-- the grids of batches that say the same digits say the same digits
part_same : (g h : List ℕ) → digits_of g ≡ digits_of h → (i : ℕ) → digits_of (grid_at g i) ≡ digits_of (grid_at h i)
part_same g h e i = part g i ∙ ap (λ x. take 81 (drop (81 * i) x)) e ∙ sym (part h i)
  where
    part : (x : List ℕ) (k : ℕ) → digits_of (grid_at x k) ≡ take 81 (drop (81 * k) (digits_of x))
    part x k = sym (ap (take 81) (drop-map digit_of (81 * k) x) ∙ take-map digit_of 81 (drop (81 * k) x))

done_same : (t : Technique) (o : List ℤ) (g h : List ℕ) (c n : ℕ) → digits_of g ≡ digits_of h → done_after t o g c n ≡ done_after t o h c n
unfolding done_after
done_same t o g h c zero e = refl
done_same t o g h c (suc n) e = rw (done_same t o g h c n e, same_givens (grid_at g n) (grid_at h n) (part_same g h e n)) refl

pub same_batches : (g h : List ℕ) → bytes_check g ≡ Ok tt → bytes_check h ≡ Ok tt → digits_of g ≡ digits_of h → SameBatches g h
unfolding batch_call
same_batches g h a b e n o c m answers =
    let long : length g ≡ length h = sym (simp length-map) ∙ ap length e ∙ simp length-map in
    rw (a, b, long) (by_technique (technique_of n))
  where
    by_technique : (x : Result Technique Refusal)
        → on_accepted (lent_check (length h) (length m) (length answers)) (refused m answers) (λ u. on_accepted x (refused m answers) (λ t. on_accepted (order_check o) (refused m answers) (λ w. ran (done_after t o g c (grids_in (length h))))))
        ≡ on_accepted (lent_check (length h) (length m) (length answers)) (refused m answers) (λ u. on_accepted x (refused m answers) (λ t. on_accepted (order_check o) (refused m answers) (λ w. ran (done_after t o h c (grids_in (length h))))))
    by_technique (Err f) = refl
    by_technique (Ok t) = rw (done_same t o g h c (grids_in (length h)) e) refl
