-- What a run has read and written. A reader's bytes are those that it has left, and a writer's those that it holds, where they are known.
use Rattle.std.specs.Prelude.{◌≡◌, Option, Result, MatchResult, List, ◌++◌, ℕ}
use Rattle.std.specs.Io.{StartsWith}
use Rattle.std.specs.Io.KnownBytes.{Appends, Consumes}
use Rattle.listing.specs.declared.stream.Failure.{Failure}
use Rattle.listing.specs.declared.stream.Failure.TheVariants.{Read, Write}

-- a reader has given some input, of which P holds
pub record Reads (left left' : Option (List ℕ)) (P : List ℕ → Type 0) : Type 0 where
  pub input : List ℕ
  pub given : Consumes left left' input
  pub holds : P input

-- a writer has got a beginning of a text
pub record AppendsFront (held held' : Option (List ℕ)) (text : List ℕ) : Type 0 where
  pub front : List ℕ
  pub written : Appends held held' front
  pub begins : StartsWith text front

-- what a writer has got of the text that is due when a listing ends early: all of it after a failed read, and a beginning of it after a failed write
abbrev pub Leaves : Failure → Option (List ℕ) → Option (List ℕ) → List ℕ → Type 0
Leaves (Read e) held held' text = Appends held held' text
Leaves (Write e) held held' text = AppendsFront held held' text

-- a writer has got a beginning of what was to come, and the rest is still to come, whatever is read from here on
pub record Advances (held held' : Option (List ℕ)) (before after : List ℕ → List ℕ) : Type 0 where
  pub front : List ℕ
  pub written : Appends held held' front
  pub rest : (unread : List ℕ) → before unread ≡ front ++ after unread

-- what a step writes of what is to come: it advances, or it fails after a beginning of that, whatever is read from here on
abbrev pub Steps : {T E : Type 0} → Option (List ℕ) → Option (List ℕ) → (List ℕ → List ℕ) → (List ℕ → List ℕ) → Result T E → Type 0
Steps held held' before after result =
    MatchResult result (λ _. Advances held held' before after) (λ _. (unread : List ℕ) → AppendsFront held held' (before unread))
