-- Steps one after the other: what they write is a beginning of what was to come before them, and the rest is what is to come after them.
-- Assumes nothing.
use mathlib.Core.Path.{◌≡◌, sym, ap, ◌∙◌, subst}
use mathlib.Core.List.{List, [], ◌∷◌, ◌++◌, append_assoc}
use Prim.Native.Nat.{ℕ, ◌+◌, ◌<◌, ◌≤◌}
use lib.ListN.{length, get_or, drop}
use Rattle.std.specs.Prelude.{Option, Result, Ok, Err}
use Rattle.std.specs.Io.KnownBytes.{Keeps, Appends, Consumes}
use Rattle.std.proofs.KnownBytes.{Appends-nil, Appends-trans, Consumes-trans, Consumes-kept, starts_with_rest}
use Rattle.std.proofs.Common.{add-one, drop-cons, drop_of_length-le}
use Rattle.std.proofs.lemmas.List.{append-nil}
use Rattle.std.proofs.Transfers.{starts_with_of_append}
use Rattle.listing.specs.Stream.{Reads, AppendsFront, Advances, Steps}

-- nothing is written
pub stays : {f g : List ℕ → List ℕ} (a : Option (List ℕ)) → ((unread : List ℕ) → f unread ≡ g unread) → Advances a a f g
stays a same = record { front = []; written = Appends-nil a; rest = same }

module _ {a b : Option (List ℕ)} {f g : List ℕ → List ℕ} where
  -- a second step,
  pub advances_then : {c : Option (List ℕ)} {h : List ℕ → List ℕ} → Advances a b f g → Advances b c g h → Advances a c f h
  advances_then {c} {h} p q =
      record {
        front = p.front ++ q.front;
        written = Appends-trans a b c p.front q.front p.written q.written;
        rest = λ unread. p.rest unread ∙ ap (λ l. p.front ++ l) (q.rest unread) ∙ sym (append_assoc p.front q.front (h unread));
      }

  -- one that writes all that is to come,
  pub advances_all : (c : Option (List ℕ)) → Advances a b f g → (unread : List ℕ) → Appends b c (g unread) → Appends a c (f unread)
  advances_all c p unread q = subst (Appends a c) (sym (p.rest unread)) (Appends-trans a b c p.front (g unread) p.written q)

  -- and one that writes a beginning of it
  pub advances_front : {c : Option (List ℕ)} → Advances a b f g → (unread : List ℕ) → AppendsFront b c (g unread) → AppendsFront a c (f unread)
  advances_front {c} p unread q =
      let whole = ap (λ l. p.front ++ l) (starts_with_rest (g unread) q.front q.begins) in
      record {
        front = p.front ++ q.front;
        written = Appends-trans a b c p.front q.front p.written q.written;
        begins = starts_with_of_append (f unread) (p.front ++ q.front) _ (p.rest unread ∙ whole ∙ sym (append_assoc p.front q.front _));
      }

-- a step after what was written, whether it fails or not
pub steps_then : {T E : Type 0} {a b : Option (List ℕ)} {f g : List ℕ → List ℕ} (c : Option (List ℕ)) (h : List ℕ → List ℕ) (r : Result T E)
    → Advances a b f g → Steps b c g h r → Steps a c f h r
steps_then c h (Ok x) p q = advances_then p q
steps_then c h (Err e) p q = λ unread. advances_front p unread (q unread)

-- where nothing is to be read
pub front_alone : {a b : Option (List ℕ)} (due : List ℕ → List ℕ) (bs : List ℕ) → AppendsFront a b (due (bs ++ [])) → AppendsFront a b (due bs)
front_alone {a} {b} due bs p = subst (λ l. AppendsFront a b (due l)) (append-nil bs) p

-- a piece of input, byte by byte: its next byte,
next_is : (piece : List ℕ) (i : ℕ) → i < length piece → drop i piece ≡ get_or piece i 0 ∷ drop (i + 1) piece
next_is piece i within = rw add-one (drop-cons piece i 0 within)

pub next_byte : {a b : Option (List ℕ)} (f g : List ℕ → List ℕ) (piece : List ℕ) (i : ℕ) → i < length piece
    → Advances a b (λ unread. f (get_or piece i 0 ∷ unread)) g
    → Advances a b (λ unread. f (drop i piece ++ unread)) (λ unread. g (drop (i + 1) piece ++ unread))
next_byte f g piece i within p =
    record {
      front = p.front;
      written = p.written;
      rest = λ unread. ap (λ l. f (l ++ unread)) (next_is piece i within) ∙ p.rest (drop (i + 1) piece ++ unread);
    }

pub next_front : {a b : Option (List ℕ)} (f : List ℕ → List ℕ) (piece : List ℕ) (i : ℕ) → i < length piece
    → ((unread : List ℕ) → AppendsFront a b (f (get_or piece i 0 ∷ unread))) → (unread : List ℕ) → AppendsFront a b (f (drop i piece ++ unread))
next_front {a} {b} f piece i within p unread =
    subst (λ l. AppendsFront a b (f (l ++ unread))) (sym (next_is piece i within)) (p (drop (i + 1) piece ++ unread))

-- and its end
pub no_more : {a b : Option (List ℕ)} {f : List ℕ → List ℕ} (g : List ℕ → List ℕ) (piece : List ℕ) (i : ℕ) → length piece ≤ i
    → Advances a b f (λ unread. g (drop i piece ++ unread)) → Advances a b f g
no_more g piece i end p =
    let none = drop_of_length-le piece end in
    record { front = p.front; written = p.written; rest = λ unread. p.rest unread ∙ ap (λ l. p.front ++ g (l ++ unread)) none }

-- input that is read: a piece that is answered,
pub piece_more : {a b c d d' : Option (List ℕ)} (f : List ℕ → List ℕ) {g h : List ℕ → List ℕ} (b' : Option (List ℕ)) (bs : List ℕ)
    → Reads a b (λ input. Advances c d (λ unread. f (input ++ unread)) g) → Consumes b b' bs → Advances d d' (λ unread. g (bs ++ unread)) h
    → Reads a b' (λ input. Advances c d' (λ unread. f (input ++ unread)) h)
piece_more {a} {b} {c} {d} f {g} b' bs p given q =
    let before : Advances c d (λ unread. f ((p.input ++ bs) ++ unread)) (λ unread. g (bs ++ unread)) =
    record {
      front = p.holds.front;
      written = p.holds.written;
      rest = λ unread. ap f (append_assoc p.input bs unread) ∙ p.holds.rest (bs ++ unread);
    } in
    record { input = p.input ++ bs; given = Consumes-trans a b b' p.input bs p.given given; holds = advances_then before q }

-- none,
pub none_more : {a b : Option (List ℕ)} {P : List ℕ → Type 0} (b' : Option (List ℕ)) → Reads a b P → Keeps b b' → Reads a b' P
none_more {a} {b} b' p same = record { input = p.input; given = Consumes-kept a b b' p.input p.given same; holds = p.holds }

-- and all of it, which is answered at its end
module _ {a b c d d' : Option (List ℕ)} {f g h : List ℕ → List ℕ} (begun : Advances c d f g)
    (over : Reads a b (λ input. Advances d d' (λ unread. g (input ++ unread)) h)) where
  due : Advances c d' (λ unread. f (over.input ++ unread)) h
  due = advances_then (record { front = begun.front; written = begun.written; rest = λ unread. begun.rest (over.input ++ unread) }) over.holds

  pub answered_all : (e : Option (List ℕ)) → Appends d' e (h []) → Reads a b (λ input. Appends c e (f input))
  answered_all e last =
      let all = advances_all e due [] last in
      record { input = over.input; given = over.given; holds = subst (λ l. Appends c e (f l)) (append-nil over.input) all }

  pub answered_front : {e : Option (List ℕ)} → AppendsFront d' e (h []) → Reads a b (λ input. AppendsFront c e (f input))
  answered_front {e} last =
      record { input = over.input; given = over.given; holds = front_alone f over.input (advances_front due [] last) }
