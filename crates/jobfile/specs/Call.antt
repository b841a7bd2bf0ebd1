-- The reading call: its answer, and what it leaves in the lent grid and in the lent order.
use Rattle.std.specs.Prelude.{◌≡◌, cond, List, [], ◌∷◌, ℕ, eqb, ◌==◌, ℤ, length, Option, Some, Result, Ok, Err}
use Rattle.grid.specs.Refusals.{rule, on_accepted, bytes_rule, IsGrid, grid_check}
use Rattle.grid.specs.declared.Refusal.{Refusal}
use Rattle.grid.specs.declared.Refusal.TheVariants.{BufferLength, OrderBuffer}
use Rattle.orders.specs.Order.{order_rules, order_check, EachOnce}
use Rattle.orders.specs.Technique.{number_of, technique_rule, technique_of}
use Rattle.orders.specs.declared.technique.Technique.{Technique}
use Rattle.pieces.specs.Format.{Spells}
use Rattle.pieces.specs.Pieces.{pieces_of}
use Rattle.pieces.specs.declared.piece.Bodies.{Bodies}
use Rattle.jobfile.specs.Contents.{ceiling_in, order_in}
use Rattle.jobfile.specs.declared.Settings.{Settings}

-- the host's part, by lengths. 42: not 81 bytes for the grid; 46: not 1,458 literals for the order
unfoldable pub lent_check : ℕ → ℕ → Result (Unit {0}) Refusal
lent_check grid order = cond (eqb grid 81) (cond (eqb order 1458) (Ok tt) (Err OrderBuffer)) (Err BufferLength)

-- the keyer's check of the grid, the technique, and the operator's check of the order
unfoldable pub contents_check : List ℕ → ℕ → List ℤ → Result Technique Refusal
contents_check grid technique order =
    on_accepted (grid_check grid) Err λ u. on_accepted (technique_of technique) Err λ t. on_accepted (order_check order) Err λ v. Ok t

-- the rules of what bodies say: 12, that each byte of the grid has a meaning; 21, that the technique's number is 1 to 4; 23 and 24, those of the order,
-- which has its 1,458 entries
abbrev pub contents_rules : Bodies → List (Option Refusal)
contents_rules bodies = bytes_rule bodies.grid ∷ technique_rule bodies.technique ∷ order_rules (order_in bodies.order)

-- the rules of a file: 31 to 34, that its pieces have no fault, of which `read_pieces` promises just what they are; then those of what its bodies say
abbrev pub file_rules : Result Bodies Refusal → List (Option Refusal)
file_rules (Err fault) = Some fault ∷ []
file_rules (Ok bodies) = contents_rules bodies

-- the rules of a reading call: 42, that 81 bytes are lent for the grid; 46, that 1,458 literals are lent for the order; then those of the file
unfoldable pub read_rules : List ℕ → List ℕ → List ℤ → List (Option Refusal)
read_rules file grid order = rule (length grid == 81) BufferLength ∷ rule (length order == 1458) OrderBuffer ∷ file_rules (pieces_of file)

-- what a file sets that is read: it spells some bodies, and from them come the grid as it is in the file, the technique by its number, the ceiling, 1,062,882
-- where none is named, and the order, +1, −1 to −729 where none is named. The grid is one that the keyer's check accepts, and the order has each literal
-- once.
pub record Sets (file : List ℕ) (settings : Settings) (grid : List ℕ) (order : List ℤ) : Type 0 where
  pub bodies : Bodies
  pub spelled : Spells file bodies
  pub grid_is : grid ≡ bodies.grid
  pub technique_is : number_of settings.technique ≡ bodies.technique
  pub ceiling_is : settings.ceiling ≡ ceiling_in bodies.ceiling
  pub order_is : order ≡ order_in bodies.order
  pub keyed : IsGrid grid
  pub each_once : EachOnce order

-- what a reading call gives back: its answer, and the lent grid and the lent order at its return
abbrev pub Given : Type 0
Given = Result Settings Refusal × List ℕ × List ℤ

-- a refusal changes nothing
abbrev pub refused : List ℕ → List ℤ → Refusal → Given
refused g o r = (Err r, g, o)

-- what the bodies set, which name that technique
abbrev pub settings_in : Bodies → Technique → Settings
settings_in b t = record { technique = t; ceiling = ceiling_in b.ceiling }

-- what the bodies say, if it is accepted: technique and ceiling, the grid as it is in the file, and the order
unfoldable pub read_bodies : Bodies → List ℕ → List ℤ → Given
read_bodies b g o =
    on_accepted (contents_check b.grid b.technique (order_in b.order)) (refused g o) λ t. (Ok (settings_in b t), b.grid, order_in b.order)

-- the host's part, then the layout software's, then the keyer's and the operator's
unfoldable pub read_call : List ℕ → List ℕ → List ℤ → Given
read_call f g o =
    on_accepted (lent_check (length g) (length o)) (refused g o) λ u. on_accepted (pieces_of f) (refused g o) λ b. read_bodies b g o
