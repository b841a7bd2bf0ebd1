-- The walk from piece to piece, one step at a time: from each place that it comes to, what is left of it gives what the whole walk gives. Each piece
-- takes the place further, so that as many steps as the file has bytes are enough.
-- Assumes nothing.
use mathlib.Core.Path.{◌≡◌, refl}
use mathlib.Core.List.{List}
use Prim.Native.Nat.{ℕ, zero, suc, ◌+◌, ◌≤◌, ◌<◌}
use native.Mathlib.Omega.{arith}
use borrow.Author.Tests.{lt-ltb, le-ltb}
use lib.ListN.{length, drop}
use Rattle.std.specs.Prelude.{Option, None, Some, Result, Ok, Err}
use Rattle.grid.specs.Refusals.{on_accepted}
use Rattle.grid.specs.declared.Refusal.{Refusal}
use Rattle.pieces.specs.Pieces.{piece_at, with_body, no_bodies, walk_from, walked}
use Rattle.pieces.specs.declared.piece.Kind.{Kind}
use Rattle.pieces.specs.declared.piece.Piece.{Piece}
use Rattle.pieces.specs.declared.piece.Found.{Found}

module _ (f : List ℕ) where
  -- the walk has come to a place: what is left of it gives what the whole walk gives, and there are steps enough
  pub record Walking (b : Found) (last : Option Kind) (at : ℕ) : Type 0 where
    pub steps : ℕ
    pub enough : length f ≤ at + steps
    pub same : walk_from steps f at last b ≡ walked f

  pub walking_begins : (b : Found) → (b.grid ≡ None) × ((b.technique ≡ None) × ((b.ceiling ≡ None) × (b.order ≡ None))) → Walking b None 0
  walking_begins b e =
      let empty : b ≡ no_bodies = λ i. record { grid = e.0 i; technique = e.1.0 i; ceiling = e.1.1.0 i; order = e.1.1.1 i } in
      record { steps = length f; enough = omega arith; same = rw empty refl }

  module _ (b : Found) (last : Option Kind) (at : ℕ) (w : Walking b last at) where
    pub walking_ends : length f ≤ at → Ok b ≡ walked f
    unfolding walk_from
    walking_ends h = go w.steps w.same
      where
        go : (n : ℕ) → walk_from n f at last b ≡ walked f → Ok b ≡ walked f
        go zero e = e
        go (suc n) e = rw (le-ltb at (length f) h) at e

    -- a piece is read, and there is a step left for it
    step : (p : Result Piece Refusal) → at < length f → p ≡ piece_at f at last
        → (n : ℕ) × (length f ≤ at + suc n) × (on_accepted p Err (λ p. walk_from n f p.next (Some p.kind) (with_body b p.kind (drop (at + 4) f))) ≡ walked f)
    unfolding walk_from
    step p h q = go w.steps w.enough w.same
      where
        go : (n : ℕ) → length f ≤ at + n → walk_from n f at last b ≡ walked f
            → (n : ℕ) × (length f ≤ at + suc n)
            × (on_accepted p Err (λ p. walk_from n f p.next (Some p.kind) (with_body b p.kind (drop (at + 4) f))) ≡ walked f)
        go zero m e = absurd (omega arith)
        go (suc n) m e = (n, m, rw (lt-ltb at (length f) h, ← q) at e)

    pub walking_refused : (r : Refusal) → at < length f → Err r ≡ piece_at f at last → Err r ≡ walked f
    walking_refused r h q = (step (Err r) h q).2

    pub walking_on : (p : Piece) → at < length f → at < p.next → Ok p ≡ piece_at f at last
        → Walking (with_body b p.kind (drop (at + 4) f)) (Some p.kind) p.next
    walking_on p h g q =
        let s = step (Ok p) h q in
        record { steps = s.0; enough = omega (arith, s.1, g); same = s.2 }
