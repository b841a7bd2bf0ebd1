-- Listings, byte for byte: the output line of a line, and the listing of a whole input.
use Rattle.std.specs.Prelude.{decimal, ◌≡◌, ◌≢◌, if◌then◌else◌, ◌==◌, ℕ, suc, ◌+◌, ◌-◌, ◌^◌, ◌≤◌, min}
use Rattle.std.specs.Prelude.{List, [], ◌∷◌, ◌++◌, All, length, set, Result, Ok, Err}
use Rattle.std.specs.List.{onto_first}
use Rattle.grid.specs.Refusals as refusals
use Rattle.grid.specs.declared.Refusal.{Refusal}
use Rattle.orders.specs.Order.{default_order, default_ceiling}
use Rattle.exploration.specs.Search.{zeros}
use Rattle.grading.specs.Grade as grade
use Rattle.grading.specs.Grade.{rating, grade_call}
use Rattle.grading.specs.declared.Rating.{Rating}
use Rattle.grading.specs.declared.Verdict.TheVariants as verdict

-- the header of a listing: `line verdict trials` and a newline
abbrev pub header_line : List ℕ
header_line = 108 ∷ 105 ∷ 110 ∷ 101 ∷ 32 ∷ 118 ∷ 101 ∷ 114 ∷ 100 ∷ 105 ∷ 99 ∷ 116 ∷ 32 ∷ 116 ∷ 114 ∷ 105 ∷ 97 ∷ 108 ∷ 115 ∷ 10 ∷ []

-- a number in decimal, without leading zeros, and the byte after it
unfoldable pub field : ℕ → ℕ → List ℕ
field n b = decimal n ++ (b ∷ [])

-- the output line of line number n by its answer: number, verdict, trials, one blank between; or number, `R`, refusal; then a newline
unfoldable pub shown : ℕ → Result Rating Refusal → List ℕ
shown n (Ok r) = (field n 32 ++ field (grade.number_of r.verdict) 32) ++ field r.trials 10
shown n (Err r) = ((field n 32 ++ (82 ∷ [])) ++ (32 ∷ [])) ++ field (refusals.number_of r) 10

-- the output line of line number n: the line is graded under the default order and the default ceiling
unfoldable pub listed : ℕ → List ℕ → List ℕ
listed n line = shown n (grade_call line default_order default_ceiling zeros).0

-- the lines of an input. A newline, byte 10, ends its line and is no part of it, and the last line may end without one: so `ab` and two newlines are two
-- lines, of which the second is empty, and an empty input has none
unfoldable pub lines_of : List ℕ → List (List ℕ)
lines_of [] = []
lines_of (b ∷ bs) = if b == 10 then [] ∷ lines_of bs else onto_first b (lines_of bs)

-- the output lines of lines that are numbered from n on. A number that 64 bits do not hold is shown as the greatest that they do: no input of fewer than
-- 2 ^ 64 bytes has such a line
unfoldable pub listed_from : ℕ → List (List ℕ) → List ℕ
listed_from n [] = []
listed_from n (line ∷ lines) = listed (min n (2 ^ 64 - 1)) line ++ listed_from (n + 1) lines

-- the listing of an input: the header, and the output line of each of its lines, which are numbered from 1
abbrev pub listing : List ℕ → List ℕ
listing input = header_line ++ listed_from 1 (lines_of input)

-- no line of a listing is one of verdict 6, stopped
abbrev pub NoSix : Type 0
NoSix = (n : ℕ) (line : List ℕ) (trials : ℕ) → listed n line ≡ shown n (Ok (rating verdict.Stopped trials)) → ⊥

-- bytes of which none is a newline
abbrev pub HasNoNewline : List ℕ → Type 0
HasNoNewline line = All (λ b. b ≢ 10) line

-- bytes written from place `at` on
unfoldable pub written_at : ℕ → List ℕ → List ℕ → List ℕ
written_at at [] out = out
written_at at (b ∷ bs) out = written_at (suc at) bs (set out at b)

-- what a call that writes a text gives back: its length n, for which 64 lent bytes have room, and the bytes with the text at their start
pub record Writes (text out out' : List ℕ) (n : ℕ) : Type 0 where
  pub size : n ≡ length text
  pub bytes : out' ≡ written_at 0 text out
  pub room : n ≤ 64
