-- The lines of an input whose first bytes are read. A line that is begun, and has no newline, is put before what is still to be read, byte by byte, and
-- so becomes the front of its first line: a newline ends it, and a byte past its 82nd changes no output line. An input line's number may be taken as what
-- is written of it.
-- Assumes nothing.
use mathlib.Core.Path.{◌≡◌, refl, ap, sym, ◌∙◌}
use mathlib.Core.Logic.{◌≢◌}
use mathlib.Core.List.{List, [], ◌∷◌, ◌++◌}
use Prim.Native.Nat.{ℕ, ◌+◌, ◌-◌, ◌^◌, ◌<◌, ◌≤◌}
use native.Mathlib.Omega.{arith}
use lib.ListN.{length}
use Rattle.std.specs.Prelude.{min}
use Rattle.std.proofs.lemmas.Bool.{ne_eqb}
use Rattle.std.proofs.lemmas.List.{append-nil}
use Rattle.std.proofs.lemmas.List.Elements.{All-head, All-tail}
use Rattle.std.specs.List.{onto_first}
use Rattle.listing.specs.Listing.{listed, lines_of, listed_from, HasNoNewline}
use Rattle.listing.proofs.LongLine.{long_line}

-- lines with a beginning put before the first
onto : List ℕ → List (List ℕ) → List (List ℕ)
onto [] lines = lines
onto (b ∷ line) lines = onto_first b (onto line lines)

onto_line : (line first : List ℕ) (lines : List (List ℕ)) → onto line (first ∷ lines) ≡ (line ++ first) ∷ lines
unfolding onto
onto_line [] first lines = refl
onto_line (b ∷ line) first lines = ap (onto_first b) (onto_line line first lines)

onto_none : (b : ℕ) (line : List ℕ) → onto (b ∷ line) [] ≡ (b ∷ line) ∷ []
unfolding onto
onto_none b [] = refl
onto_none b (c ∷ line) = ap (onto_first b) (onto_none c line)

-- a byte that is no newline
lines_byte : (b : ℕ) (bs : List ℕ) → b ≢ 10 → lines_of (b ∷ bs) ≡ onto_first b (lines_of bs)
unfolding lines_of
lines_byte b bs h = rw (ne_eqb b 10 h) refl

lines_onto : (line bs : List ℕ) → HasNoNewline line → lines_of (line ++ bs) ≡ onto line (lines_of bs)
unfolding onto
lines_onto [] bs h = refl
lines_onto (b ∷ line) bs h =
    lines_byte b (line ++ bs) (All-head (λ x. x ≢ 10) b line h) ∙ ap (onto_first b) (lines_onto line bs (All-tail (λ x. x ≢ 10) b line h))

-- a newline ends the line,
pub lines_ended : (line bs : List ℕ) → HasNoNewline line → lines_of (line ++ 10 ∷ bs) ≡ line ∷ lines_of bs
unfolding lines_of
lines_ended line bs h = lines_onto line (10 ∷ bs) h ∙ onto_line line [] (lines_of bs) ∙ ap (λ l. l ∷ lines_of bs) (append-nil line)

-- and so does the end of the input, if there is a line
pub lines_last : (line : List ℕ) → 0 < length line → HasNoNewline line → lines_of (line ++ []) ≡ lines_of (line ++ 10 ∷ [])
unfolding lines_of
lines_last [] long h = absurd (omega arith)
lines_last (b ∷ line) long h = lines_onto (b ∷ line) [] h ∙ onto_none b line ∙ sym (lines_ended (b ∷ line) [] h)

-- a byte past the 82nd
pub passed_over : (n b : ℕ) (line bs : List ℕ) → HasNoNewline line → b ≢ 10 → 82 ≤ length line
    → listed_from n (lines_of (line ++ b ∷ bs)) ≡ listed_from n (lines_of (line ++ bs))
unfolding listed_from
passed_over n b line bs h k long =
    ap (listed_from n) (lines_onto line (b ∷ bs) h ∙ ap (onto line) (lines_byte b bs k)) ∙ go line (lines_of bs) long
    ∙ sym (ap (listed_from n) (lines_onto line bs h))
  where
    shown : ℕ
    shown = min n (2 ^ 64 - 1)

    go : (line : List ℕ) (lines : List (List ℕ)) → 82 ≤ length line → listed_from n (onto line (onto_first b lines)) ≡ listed_from n (onto line lines)
    go [] lines long = absurd (omega arith)
    go (c ∷ line) [] long = rw (onto_line (c ∷ line) (b ∷ []) [], onto_none c line) (ap (λ l. l ++ []) (long_line shown (c ∷ line) (b ∷ []) long))
    go (c ∷ line) (l ∷ lines) long =
        let same = long_line shown (c ∷ line) (b ∷ l) long ∙ sym (long_line shown (c ∷ line) l long) in
        rw (onto_line (c ∷ line) (b ∷ l) lines, onto_line (c ∷ line) l lines) (ap (λ x. x ++ listed_from (n + 1) lines) same)

-- a number past 64 bits
pub numbered : (n : ℕ) (lines : List (List ℕ)) → listed_from (min n (2 ^ 64 - 1)) lines ≡ listed_from n lines
unfolding listed_from
numbered n [] = refl
numbered n (line ∷ lines) =
    let shown = min n (2 ^ 64 - 1) in
    let last : min shown (2 ^ 64 - 1) ≡ shown = omega arith in
    let next : min (shown + 1) (2 ^ 64 - 1) ≡ min (n + 1) (2 ^ 64 - 1) = omega arith in
    let after = sym (numbered (shown + 1) lines) ∙ ap (λ m. listed_from m lines) next ∙ numbered (n + 1) lines in
    ap (λ m. listed m line ++ listed_from (shown + 1) lines) last ∙ ap (λ l. listed shown line ++ l) after

-- a newline: the output line of the line that it ends, and the next line begins
pub listed_ended : (n : ℕ) (line bs : List ℕ) → HasNoNewline line → n < 2 ^ 64
    → listed_from n (lines_of (line ++ 10 ∷ bs)) ≡ listed n line ++ listed_from (min (n + 1) (2 ^ 64 - 1)) (lines_of bs)
unfolding listed_from
listed_ended n line bs h fits =
    let same : min n (2 ^ 64 - 1) ≡ n = omega arith in
    ap (listed_from n) (lines_ended line bs h) ∙ ap (λ m. listed m line ++ listed_from (n + 1) (lines_of bs)) same
    ∙ ap (λ l. listed n line ++ l) (sym (numbered (n + 1) (lines_of bs)))
