-- The format of a job file in words: the pieces of some bodies, in the order of their kinds. A file that is refused begins with the pieces of some bodies,
-- and what comes after them breaks a rule of the next piece, or of the end.
use Rattle.std.specs.Prelude.{◌≡◌, ◌&&◌, if◌then◌else◌, false, List, [], ◌∷◌, ◌++◌, ℕ, ◌+◌, ◌/◌, ◌%◌, ◌==◌, nat_le, length, Option, None, Some, is_some, IfSome}
use Rattle.std.specs.Option.{option_map, option_map_or}
use Rattle.grid.specs.Refusals.{rule, first_broken}
use Rattle.grid.specs.declared.Refusal.{Refusal}
use Rattle.grid.specs.declared.Refusal.TheVariants.{PieceCut, PieceKind, PieceLength, PieceMissing}
use Rattle.pieces.specs.Number.{word_at}
use Rattle.pieces.specs.Pieces.{number_of, kind_of, body_length, rises}
use Rattle.pieces.specs.declared.piece.Kind.{Kind}
use Rattle.pieces.specs.declared.piece.Kind.TheVariants.{Grid, Technique, Ceiling, Order}
use Rattle.pieces.specs.declared.piece.Found.{Found}
use Rattle.pieces.specs.declared.piece.Bodies.{Bodies}

-- the two bytes of a number, little-endian
abbrev pub two_bytes : ℕ → List ℕ
two_bytes n = n % 256 ∷ n / 256 ∷ []

-- the four bytes of a number, little-endian
abbrev pub four_bytes : ℕ → List ℕ
four_bytes n = n % 256 ∷ n / 256 % 256 ∷ n / 65536 % 256 ∷ n / 16777216 ∷ []

-- a piece: the length of its body and the number of its kind, two bytes each, and its body
unfoldable pub piece : Kind → List ℕ → List ℕ
piece kind body = two_bytes (length body) ++ (two_bytes (number_of kind) ++ body)

-- the piece of a body, if there is one
abbrev pub piece_if : Kind → Option (List ℕ) → List ℕ
piece_if kind None = []
piece_if kind (Some body) = piece kind body

-- the pieces of some bodies: 1 the grid's 81 bytes, 2 the technique's number in one byte, 3 the ceiling in four, 4 the order's 2,916
unfoldable pub pieces_spelled : Found → List ℕ
pieces_spelled found =
    piece_if Grid found.grid
    ++ (piece_if Technique (option_map (λ number. number ∷ []) found.technique)
    ++ (piece_if Ceiling (option_map four_bytes found.ceiling)
    ++ piece_if Order found.order))

-- the bodies of grid and order have their lengths
pub record AreLong (found : Found) : Type 0 where
  pub grid : IfSome found.grid (λ body. length body ≡ 81)
  pub order : IfSome found.order (λ body. length body ≡ 2916)

-- the bodies that a whole file has, in which grid and technique are there
abbrev pub found_in : Bodies → Found
found_in bodies = record { grid = Some bodies.grid; technique = Some bodies.technique; ceiling = bodies.ceiling; order = bodies.order }

-- a file of these bodies
pub record Spells (file : List ℕ) (bodies : Bodies) : Type 0 where
  pub long : AreLong (found_in bodies)
  pub spelled : file ≡ pieces_spelled (found_in bodies)

-- the kind of the last of them, if there is one
abbrev pub last_kind : Found → Option Kind
last_kind found =
    if is_some found.order then Some Order else
    (if is_some found.ceiling then Some Ceiling else (if is_some found.technique then Some Technique else (if is_some found.grid then Some Grid else None)))

-- the rules of a piece at a place, with which the rest of a file begins, after a piece of the kind `last`: 31, that it is not cut short: there are 4 bytes,
-- and as many as its body length says; 32, that its kind is known and rises; 33, that its body has the length of its kind
unfoldable pub piece_rules : Option Kind → ℕ → List ℕ → List (Option Refusal)
piece_rules last place rest =
    rule (nat_le 4 (length rest) && nat_le (4 + word_at rest 0) (length rest)) (PieceCut place)
    ∷ rule (option_map_or (rises last) (kind_of (word_at rest 2)) false) (PieceKind place)
    ∷ rule (option_map_or (λ kind. word_at rest 0 == body_length kind) (kind_of (word_at rest 2)) false) (PieceLength place) ∷ []

-- the rules of what comes after the pieces of some bodies: of the next piece; or at the end 34, that grid and technique are there
abbrev pub rules_after : Found → List ℕ → List (Option Refusal)
rules_after found [] = rule (is_some found.grid && is_some found.technique) PieceMissing ∷ []
rules_after found (b ∷ rest) = piece_rules (last_kind found) (length (pieces_spelled found)) (b ∷ rest)

-- a file that is refused: after the pieces of some bodies a rule is broken, the first one of the next piece or the end's
pub record IsFault (file : List ℕ) (refusal : Refusal) : Type 0 where
  pub found : Found
  pub long : AreLong found
  pub rest : List ℕ
  pub begins : file ≡ pieces_spelled found ++ rest
  pub broken : first_broken (rules_after found rest) ≡ Some refusal
