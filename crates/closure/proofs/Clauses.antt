-- What the laws ask of a clause set. A clause with one literal twice would keep two literals that remain where the unit rule has one.
-- Assumes nothing.
use mathlib.Core.Path.{sym}
use mathlib.Core.List.{List, ◌∷◌, Memᴰ}
use Prim.Native.Nat.{suc}
use native.Mathlib.Omega.{arith}
use lib.IntN.{ℤ, pos}
use Rattle.clauses.specs.Literal.{Literal}
use Rattle.clauses.specs.Clauses.{Clause}
use Rattle.clauses.proofs.Members.{place_of}
use Rattle.closure.specs.Laws.{NoneTwice}

-- the clause has some literal, only literals, and none twice
pub record WellMade (c : Clause) : Type 0 where
  pub some : (l : ℤ) × Memᴰ l c
  pub literals : (l : ℤ) → Memᴰ l c → Literal l
  pub once : NoneTwice c

-- so is each clause of the set
abbrev pub WellFormed : List Clause → Type 0
WellFormed cs = (c : Clause) → Memᴰ c cs → WellMade c

module _ (l : ℤ) (ls : List ℤ) (d : NoneTwice (l ∷ ls)) where
  -- the first literal is none of the others,
  pub once_head : Memᴰ l ls → ⊥
  once_head i = let w = place_of (pos 0) ls i in d 0 (suc w.0) (omega arith) (omega (arith, w.1)) (sym w.2)

  -- and of the others none stands twice
  pub once_tail : NoneTwice ls
  once_tail i j a b e = d (suc i) (suc j) (omega arith) (omega arith) e
