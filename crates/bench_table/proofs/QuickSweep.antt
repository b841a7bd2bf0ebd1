-- Quick sweeps, for computed rows. A clause that begins with two negative literals of variables that are not true gives
-- nothing, and the true variables of a sparse grid are few; so a sweep that knows them passes over nearly all clauses, with the same answer.
-- Assumes nothing.
use mathlib.Core.Path.{◌≡◌, refl}
use mathlib.Core.Bool.{Bool, true, false, not, ◌&&◌, ◌||◌}
use mathlib.Core.List.{List, [], ◌∷◌}
use mathlib.Core.Logic.{◌⊎◌, inl, inr, ⊎_elim}
use Prim.Native.Nat.{ℕ, zero, suc, ◌+◌}
use native.Mathlib.Omega.{arith}
use lib.Dec.{T, eqb, T_not}
use lib.IntN.{ℤ, pos, negsuc, neg_ℤ}
use lib.ListN.{get_or}
use Rattle.grid.proofs.Table.{and_iff, false_is}
use Rattle.grid.proofs.Completion.{eq_iff}
use Rattle.clauses.specs.Clauses.{Clause}
use Rattle.closure.specs.Marks.{has, decided}
use Rattle.closure.specs.Propagation.{Answer, clash, closed, bind, remaining, unit, sweep, again, sweeps}
use Rattle.closure.proofs.Marks.{or_iff}

-- the places, counted from k, of the variables that are true
unfoldable trues : ℕ → List ℕ → List ℕ
trues k [] = []
trues k (b ∷ m) = elim (eqb b 1) [ true ↦ k ∷ trues (suc k) m | false ↦ trues (suc k) m ]

-- the place is among these
unfoldable among : ℕ → List ℕ → Bool
among k [] = false
among k (x ∷ xs) = eqb k x || among k xs

-- a negative literal of a variable that is not true
abbrev free : List ℕ → ℤ → Bool
free ts (pos v) = false
free ts (negsuc k) = not (among k ts)

-- the clause begins with two such literals
abbrev is_idle : List ℕ → Clause → Bool
is_idle ts [] = false
is_idle ts (l ∷ []) = false
is_idle ts (l ∷ k ∷ c) = free ts l && free ts k

-- a sweep that passes over such clauses
unfoldable quick_sweep : List ℕ → List ℕ → List Clause → Answer
quick_sweep ts m [] = closed m
quick_sweep ts m (c ∷ cs) = elim (is_idle ts c) [
  | true ↦ quick_sweep ts m cs
  | false ↦ bind (unit m (remaining m c)) (λ m'. quick_sweep (trues 0 m') m' cs)
]

-- at most so many of them
unfoldable pub quick_sweeps : ℕ → List Clause → List ℕ → Answer
unfolding quick_sweep trues among
quick_sweeps zero cs m = closed m
quick_sweeps (suc n) cs m = bind (quick_sweep (trues 0 m) m cs) (λ m'. again (eqb (decided m') (decided m)) m' (λ t. quick_sweeps n cs t))

-- a place that is put in front, or that is among the others
among_more : (x : Bool) (j k : ℕ) (ts : List ℕ) → (T x × T (eqb j k)) ⊎ T (among j ts) → T (among j (elim x [ true ↦ k ∷ ts | false ↦ ts ]))
unfolding among
among_more true j k ts h = (or_iff (eqb j k) (among j ts)).1 (⊎_elim (λ e. inl e.1) inr h)
among_more false j k ts h = ⊎_elim (λ e. absurd e.0) (λ u. u) h

-- a true variable is among them
true_among : (k i j : ℕ) → k + i ≡ j → (m : List ℕ) → T (eqb (get_or m i 0) 1) → T (among j (trues k m))
unfolding trues
true_among k i j e [] t = absurd t
true_among k zero j e (b ∷ m) t = among_more (eqb b 1) j k (trues (suc k) m) (inl (t, (eq_iff j k).1 (omega arith)))
true_among k (suc i) j e (b ∷ m) t = among_more (eqb b 1) j k (trues (suc k) m) (inr (true_among (suc k) i j (omega arith) m t))

-- the list has every true variable
abbrev Knows : List ℕ → List ℕ → Type 0
Knows ts m = (k : ℕ) → T (has m (pos (suc k))) → T (among k ts)

knows : (m : List ℕ) → Knows (trues 0 m) m
unfolding has
knows m k t = true_among 0 k k (omega arith) m t

module _ (ts m : List ℕ) (all : Knows ts m) where
  free_remains : (l : ℤ) → T (free ts l) → has m (neg_ℤ l) ≡ false
  free_remains (pos v) t = absurd t
  free_remains (negsuc k) t = false_is (has m (pos (suc k))) (λ u. T_not (among k ts) t (all k u))

  -- a clause that is passed over gives nothing
  idle_gives_nothing : (c : Clause) → T (is_idle ts c) → unit m (remaining m c) ≡ closed m
  unfolding remaining
  idle_gives_nothing [] t = absurd t
  idle_gives_nothing (l ∷ []) t = absurd t
  idle_gives_nothing (l ∷ k ∷ c) t = let a = (and_iff (free ts l) (free ts k)).0 t in rw (free_remains l a.0, free_remains k a.1, remaining) refl

quick_sweep_lem : (cs : List Clause) (ts m : List ℕ) → Knows ts m → quick_sweep ts m cs ≡ sweep m cs
unfolding quick_sweep sweep
quick_sweep_lem [] ts m all = refl
quick_sweep_lem (c ∷ cs) ts m all = go (is_idle ts c) (idle_gives_nothing ts m all c) (quick_sweep_lem cs)
  where
    go : (b : Bool) → (T b → unit m (remaining m c) ≡ closed m) → ((ts m : List ℕ) → Knows ts m → quick_sweep ts m cs ≡ sweep m cs)
        → elim b [ true ↦ quick_sweep ts m cs | false ↦ bind (unit m (remaining m c)) (λ m'. quick_sweep (trues 0 m') m' cs) ]
        ≡ bind (unit m (remaining m c)) (λ m'. sweep m' cs)
    go true p r = rw (p tt) (r ts m all)
    go false p r = next (unit m (remaining m c))
      where
        next : (a : Answer) → bind a (λ m'. quick_sweep (trues 0 m') m' cs) ≡ bind a (λ m'. sweep m' cs)
        next clash = refl
        next (closed t) = r (trues 0 t) t (knows t)

-- the same answer
pub quick_sweeps_lem : (n : ℕ) (cs : List Clause) (m : List ℕ) → quick_sweeps n cs m ≡ sweeps n cs m
unfolding quick_sweeps sweeps
quick_sweeps_lem zero cs m = refl
quick_sweeps_lem (suc n) cs m = rw (quick_sweep_lem cs (trues 0 m) m (knows m)) (go (sweep m cs) (quick_sweeps_lem n cs))
  where
    go : (a : Answer) → ((t : List ℕ) → quick_sweeps n cs t ≡ sweeps n cs t)
        → bind a (λ m'. again (eqb (decided m') (decided m)) m' (λ t. quick_sweeps n cs t))
        ≡ bind a (λ m'. again (eqb (decided m') (decided m)) m' (λ t. sweeps n cs t))
    go clash r = refl
    go (closed u) r = stop (eqb (decided u) (decided m))
      where
        stop : (b : Bool) → again b u (λ t. quick_sweeps n cs t) ≡ again b u (λ t. sweeps n cs t)
        stop true = refl
        stop false = r u
