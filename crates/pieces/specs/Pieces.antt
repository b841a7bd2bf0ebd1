-- A job file is pieces: body length (2 bytes), kind (2 bytes), body, little-endian. Kinds strictly rise: 1 grid, 2 technique, 3 ceiling,
-- 4 order; 1 and 2 must be there.
use Rattle.std.specs.Prelude.{Bool, true, cond, ◌&&◌, List, ℕ, zero, suc, ◌+◌, ◌-◌, eqb, leb, ltb, length, take, drop, Option, None, Some, Result, Ok, Err}
use Rattle.std.specs.Option.{ok_or}
use Rattle.grid.specs.Refusals.{on_accepted}
use Rattle.grid.specs.declared.Refusal.{Refusal}
use Rattle.grid.specs.declared.Refusal.TheVariants.{PieceCut, PieceKind, PieceLength, PieceMissing}
use Rattle.grid.specs.Grid.{byte}
use Rattle.pieces.specs.Number.{word_at, double_at}
use Rattle.pieces.specs.declared.piece.Kind.{Kind}
use Rattle.pieces.specs.declared.piece.Kind.TheVariants.{Grid, Technique, Ceiling, Order}
use Rattle.pieces.specs.declared.piece.Piece.{Piece}
use Rattle.pieces.specs.declared.piece.Found.{Found}
use Rattle.pieces.specs.declared.piece.Bodies.{Bodies}

-- the numbers of the kinds
abbrev pub number_of : Kind → ℕ
number_of Grid = 1
number_of Technique = 2
number_of Ceiling = 3
number_of Order = 4

-- the kind of a number, if there is one
abbrev pub kind_of : ℕ → Option Kind
kind_of n =
    cond (eqb n 1) (Some Grid)
    (cond (eqb n 2) (Some Technique) (cond (eqb n 3) (Some Ceiling) (cond (eqb n 4) (Some Order) None)))

-- the body lengths of the kinds
abbrev pub body_length : Kind → ℕ
body_length Grid = 81
body_length Technique = 1
body_length Ceiling = 4
body_length Order = 2916

-- a kind rises above the last one, if any came before
abbrev pub rises : Option Kind → Kind → Bool
rises None kind = true
rises (Some last) kind = ltb (number_of last) (number_of kind)

-- a piece of a body length and the number of a kind, with so many bytes left from its place on, after a piece of the kind `last`
abbrev pub piece_of : ℕ → ℕ → ℕ → ℕ → Option Kind → Result Piece Refusal
piece_of long number left at last =
    cond (leb 4 left && leb (4 + long) left)
    (on_accepted (ok_or (kind_of number) (PieceKind at)) Err λ kind. cond (rises last kind)
    (cond (eqb long (body_length kind)) (Ok (record { kind = kind; next = at + 4 + long })) (Err (PieceLength at)))
    (Err (PieceKind at)))
    (Err (PieceCut at))

-- The piece at a place, after a piece of the kind `last`, if any: its kind, and the place after it. 31: cut short, with fewer
-- bytes left than 4, or than 4 and the body length; 32: a kind that is unknown or does not rise; 33: a wrong body length.
unfoldable pub piece_at : List ℕ → ℕ → Option Kind → Result Piece Refusal
piece_at f at last = piece_of (word_at f at) (word_at f (at + 2)) (length f - at) at last

-- the bodies with that of one piece more, with which the bytes begin
abbrev pub with_body : Found → Kind → List ℕ → Found
with_body b Grid f = record b { grid = Some (take 81 f) }
with_body b Technique f = record b { technique = Some (byte f 0) }
with_body b Ceiling f = record b { ceiling = Some (double_at f 0) }
with_body b Order f = record b { order = Some (take 2916 f) }

-- no body
abbrev pub no_bodies : Found
no_bodies = record { grid = None; technique = None; ceiling = None; order = None }

-- the pieces from a place on, of which there are at most n: no bytes left is the end of the file
unfoldable pub walk_from : ℕ → List ℕ → ℕ → Option Kind → Found → Result Found Refusal
walk_from zero f at last b = Ok b
walk_from (suc n) f at last b =
    cond (ltb at (length f)) (on_accepted (piece_at f at last) Err λ p. walk_from n f p.next (Some p.kind) (with_body b p.kind (drop (at + 4) f))) (Ok b)

-- the pieces of a file, of which there are no more than bytes
abbrev pub walked : List ℕ → Result Found Refusal
walked f = walk_from (length f) f 0 None no_bodies

-- 34: at the end, the grid or the technique is missing
abbrev pub complete : Found → Result Bodies Refusal
complete b =
    on_accepted (ok_or b.grid PieceMissing) Err λ g. on_accepted (ok_or b.technique PieceMissing) Err λ t.
    Ok (record { grid = g; technique = t; ceiling = b.ceiling; order = b.order })

-- the layout software's part
unfoldable pub pieces_of : List ℕ → Result Bodies Refusal
pieces_of f = on_accepted (walked f) Err complete
