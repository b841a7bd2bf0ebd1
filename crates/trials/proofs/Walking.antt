-- A walk along what is left of the order is the step of its next literal, carried on along the rest, and passes are a first walk, carried on
-- by the passes that are left. Before them stands the closure of the givens, which ends the job where it is a contradiction, where it
-- decides every variable, or where no trials are made.
-- Assumes nothing.
use mathlib.Core.Path.{◌≡◌, refl, ap, sym, ◌∙◌}
use mathlib.Core.Bool.{Bool, true, false}
use mathlib.Core.List.{List}
use Prim.Native.Nat.{ℕ, suc, ◌+◌, ◌≤◌, ◌<◌}
use lib.IntN.{ℤ, pos}
use lib.ListN.{length, get_or, drop, drop_of_length-le}
use lib.Seq.{drop-cons}
use native.Mathlib.Numerals.{add-one}
use Rattle.grid.proofs.Completion.{eq_iff}
use Rattle.grid.proofs.Table.{true_is, false_is}
use Rattle.clauses.specs.Clauses.{Clause}
use Rattle.closure.specs.Marks.{decided, blank}
use Rattle.closure.specs.Propagation.{Answer, clash, closed, bind, join, unit_closure}
use Rattle.closure.specs.Job.{Step, skip, halt, kept, broken, refuted, Walk, walked, ended, is_full, unless_full, after, step, walk, next_pass, passes, opened, solved, contradiction, from_closure, start, job_end}

-- on from a part of a walk
abbrev pub onward : Walk → (List ℕ → ℕ → Bool → Walk) → Walk
onward (walked m n f) k = k m n f
onward (ended e) k = ended e

onward_after : (s : Step) (m : List ℕ) (n : ℕ) (f : Bool) (k : List ℕ → ℕ → Bool → Walk) → onward (after s m n f (λ t i b. walked t i b)) k ≡ after s m n f k
onward_after skip m n f k = refl
onward_after halt m n f k = refl
onward_after kept m n f k = refl
onward_after broken m n f k = refl
onward_after (refuted t) m n f k = go (is_full t)
  where
    go : (b : Bool) → onward (unless_full b t (n + 1) (λ t i b. walked t i b)) k ≡ unless_full b t (n + 1) k
    go true = refl
    go false = refl

module _ (cs : List Clause) (ceiling : ℕ) (o : List ℤ) where
  -- the walk along what is left of the order from place i on
  abbrev pub rest : ℕ → List ℕ → ℕ → Bool → Walk
  rest i m n f = walk cs ceiling (drop i o) m n f

  -- one literal
  pub rest_next : (i : ℕ) (m : List ℕ) (n : ℕ) (f : Bool) → i < length o → (w : Walk) → w ≡ after (step cs ceiling m n (get_or o i (pos 0))) m n f (λ t k b. walked t k b)
      → rest i m n f ≡ onward w (rest (i + 1))
  unfolding walk
  rest_next i m n f h w e =
      ap (λ x. walk cs ceiling x m n f) (drop-cons o i (pos 0) h) ∙ sym (onward_after (step cs ceiling m n (get_or o i (pos 0))) m n f (walk cs ceiling (drop (suc i) o)))
      ∙ ap (λ x. onward x (walk cs ceiling (drop (suc i) o))) (sym e) ∙ ap (λ x. onward w (walk cs ceiling (drop x o))) (sym (add-one i))

  pub rest_end : (i : ℕ) (m : List ℕ) (n : ℕ) (f : Bool) → length o ≤ i → walked m n f ≡ rest i m n f
  unfolding walk
  rest_end i m n f h = ap (λ x. walk cs ceiling x m n f) (sym (drop_of_length-le o h))

  -- one pass
  pub passes_next : (k j : ℕ) (m : List ℕ) (n : ℕ) (w : Walk) → k ≡ suc j → w ≡ walk cs ceiling o m n false → passes cs ceiling k o m n ≡ next_pass w (passes cs ceiling j o)
  unfolding passes
  passes_next k j m n w h e = ap (λ x. passes cs ceiling x o m n) h ∙ ap (λ x. next_pass x (passes cs ceiling j o)) (sym e)

  pub passes_end : (m : List ℕ) (n : ℕ) → opened m n ≡ passes cs ceiling 0 o m n
  unfolding passes
  passes_end m n = refl

-- from the unit closure of the givens
module _ (cs : List Clause) (ceiling : ℕ) (t : Bool) (o : List ℤ) (gs : List ℤ) where
  abbrev begun : Answer
  begun = bind (join blank gs) (unit_closure cs)

  by_start : (a : Answer) → a ≡ begun → start cs ceiling t o a ≡ job_end cs ceiling t o gs
  unfolding job_end
  by_start a e = ap (start cs ceiling t o) e

  pub start_clash : clash ≡ begun → contradiction 0 ≡ job_end cs ceiling t o gs
  start_clash e = by_start clash e

  module _ (m : List ℕ) (e : closed m ≡ begun) where
    pub start_full : decided m ≡ 729 → solved m 0 ≡ job_end cs ceiling t o gs
    start_full d = ap (λ x. from_closure cs ceiling x t o m) (sym (true_is (is_full m) ((eq_iff (decided m) 729).1 d))) ∙ by_start (closed m) e

    module _ (d : decided m ≡ 729 → ⊥) where
      not_full : from_closure cs ceiling false t o m ≡ job_end cs ceiling t o gs
      not_full = ap (λ x. from_closure cs ceiling x t o m) (sym (false_is (is_full m) (λ x. d ((eq_iff (decided m) 729).0 x)))) ∙ by_start (closed m) e

      pub start_trials : t ≡ true → passes cs ceiling 729 o m 0 ≡ job_end cs ceiling t o gs
      start_trials h = ap (λ x. from_closure cs ceiling false x o m) (sym h) ∙ not_full

      pub start_open : t ≡ false → opened m 0 ≡ job_end cs ceiling t o gs
      start_open h = ap (λ x. from_closure cs ceiling false x o m) (sym h) ∙ not_full
