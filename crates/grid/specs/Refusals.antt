-- Refusals, and the keyer's check of a grid.
use Rattle.std.specs.Prelude.{◌≡◌, ◌<◌, T, ◌==◌, Bool, true, false, cond, not, List, [], ◌∷◌, ℕ, eqb, length, Option, None, Some, Result, Ok, Err}
use Rattle.std.specs.List.{position}
use Rattle.std.specs.Option.{option_map}
use Rattle.grid.specs.Grid.{byte, has_meaning}
use Rattle.grid.specs.declared.Refusal.{Refusal}
use Rattle.grid.specs.declared.Refusal.TheVariants.{GridLength, GridByte, Technique, OrderLength, OrderEntry, OrderRepeat, PieceCut, PieceKind, PieceLength, PieceMissing}
use Rattle.grid.specs.declared.Refusal.TheVariants.{MarksLength, BufferLength, ClauseSet, ClauseNumber, LiteralsLength, OrderBuffer, BatchLength, AnswersLength}

-- the number that hosts and listings are told: tens by whose part it is, the keyer's, the operator's, the layout software's and the host's
abbrev pub number_of : Refusal → ℕ
number_of GridLength = 11
number_of (GridByte p) = 12
number_of Technique = 21
number_of OrderLength = 22
number_of (OrderEntry p) = 23
number_of (OrderRepeat p) = 24
number_of (PieceCut p) = 31
number_of (PieceKind p) = 32
number_of (PieceLength p) = 33
number_of PieceMissing = 34
number_of MarksLength = 41
number_of BufferLength = 42
number_of ClauseSet = 43
number_of ClauseNumber = 44
number_of LiteralsLength = 45
number_of OrderBuffer = 46
number_of BatchLength = 47
number_of AnswersLength = 48

-- the place that it names, counted from 0, or 0 where it names none
abbrev pub named_place : Refusal → ℕ
named_place GridLength = 0
named_place (GridByte p) = p
named_place Technique = 0
named_place OrderLength = 0
named_place (OrderEntry p) = p
named_place (OrderRepeat p) = p
named_place (PieceCut p) = p
named_place (PieceKind p) = p
named_place (PieceLength p) = p
named_place PieceMissing = 0
named_place MarksLength = 0
named_place BufferLength = 0
named_place ClauseSet = 0
named_place ClauseNumber = 0
named_place LiteralsLength = 0
named_place OrderBuffer = 0
named_place BatchLength = 0
named_place AnswersLength = 0

-- a rule of the stated form: kept, or broken, and then with the refusal that tells of it
abbrev pub rule : Bool → Refusal → Option Refusal
rule true r = None
rule false r = Some r

-- the refusal of the first rule that is broken, of some in their order
abbrev pub first_broken : List (Option Refusal) → Option Refusal
first_broken [] = None
first_broken (None ∷ rules) = first_broken rules
first_broken (Some r ∷ rules) = Some r

-- on where a check accepts, with what it gives; else what a refusal gives
abbrev pub on_accepted : {A B : Type 0} → Result A Refusal → (Refusal → B) → (A → B) → B
on_accepted (Ok a) refused k = k a
on_accepted (Err r) refused k = refused r

-- a refusal of what was found, at its place, if anything was
abbrev pub refuse_at : (ℕ → Refusal) → Option ℕ → Result (Unit {0}) Refusal
refuse_at refusal None = Ok tt
refuse_at refusal (Some place) = Err (refusal place)

-- the place of the first byte of no meaning
abbrev pub first_bad : List ℕ → Option ℕ
first_bad bytes = position (λ b. not (has_meaning b)) bytes

-- each byte has a meaning: 12, at the place of the first that has none
abbrev pub bytes_rule : List ℕ → Option Refusal
bytes_rule bytes = option_map GridByte (first_bad bytes)

-- the rules of a grid: 11, that it is 81 bytes long; 12, that each has a meaning
unfoldable pub grid_rules : List ℕ → List (Option Refusal)
grid_rules g = rule (length g == 81) GridLength ∷ bytes_rule g ∷ []

-- what the keyer's check accepts
abbrev pub IsGrid : List ℕ → Type 0
IsGrid g = (length g ≡ 81) × ((c : ℕ) → c < 81 → T (has_meaning (byte g c)))

-- 12: the first byte of no meaning, at its place
unfoldable pub bytes_check : List ℕ → Result (Unit {0}) Refusal
bytes_check bytes = refuse_at GridByte (first_bad bytes)

-- 11: not 81 bytes; then that each byte has a meaning
unfoldable pub grid_check : List ℕ → Result (Unit {0}) Refusal
grid_check g = cond (eqb (length g) 81) (bytes_check g) (Err GridLength)
