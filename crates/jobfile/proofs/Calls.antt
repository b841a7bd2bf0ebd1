-- The reading call by its checks: it is refused by the first broken rule and then leaves both buffers, and else sets what the file spells.
-- Assumes nothing.
use mathlib.Core.Path.{◌≡◌, refl, ap, sym, subst, ◌∙◌}
use mathlib.Core.Bool.{Bool, true, false, cond}
use mathlib.Core.List.{List, [], ◌∷◌}
use Prim.Native.Nat.{ℕ}
use native.Mathlib.Omega.{arith}
use borrow.Author.Tests.{eq-eqb}
use lib.Dec.{eqb}
use lib.IntN.{ℤ}
use lib.ListN.{length}
use Rattle.std.specs.Prelude.{Option, Some, Result, Ok, Err, OnErr, IfOk}
use Rattle.std.specs.Result.{result_err}
use Rattle.grid.specs.Refusals.{rule, first_broken, on_accepted, bytes_rule, grid_rules, grid_check}
use Rattle.grid.specs.declared.Refusal.{Refusal}
use Rattle.grid.specs.declared.Refusal.TheVariants.{BufferLength, OrderBuffer}
use Rattle.grid.proofs.Checks.{checked, checked_first, last_first, grid_broken}
use Rattle.grid.proofs.Completion.{grid_iff}
use Rattle.orders.specs.Order.{order_rules, order_check}
use Rattle.orders.specs.Technique.{technique_rule, technique_of}
use Rattle.orders.specs.declared.technique.Technique.{Technique}
use Rattle.orders.proofs.Orders.{accepted_order}
use Rattle.orders.proofs.Rules.{technique_broken, order_broken}
use Rattle.orders.proofs.Techniques.{technique_number}
use Rattle.pieces.specs.Format.{Spells, IsFault}
use Rattle.pieces.specs.Pieces.{pieces_of}
use Rattle.pieces.specs.declared.piece.Bodies.{Bodies}
use Rattle.pieces.proofs.Format.{AreBytes, pieces_read}
use Rattle.jobfile.specs.Contents.{order_in}
use Rattle.jobfile.specs.Call.{Given, refused, lent_check, contents_check, contents_rules, file_rules, read_rules, settings_in, Sets, read_bodies, read_call}
use Rattle.jobfile.specs.declared.Settings.{Settings}

-- a refusal is not an answer
no_answer : {A : Type 0} {r : Refusal} {a : A} → Err r ≡ Ok a → ⊥
no_answer e = let z : ◌≡◌ {A = ℕ} 0 1 = cc in omega arith

-- the host's part
lent_broken : (grid order : ℕ) → result_err (lent_check grid order) ≡ first_broken (rule (eqb grid 81) BufferLength ∷ rule (eqb order 1458) OrderBuffer ∷ [])
unfolding lent_check
lent_broken grid order = go (eqb grid 81) (eqb order 1458)
  where
    go : (x y : Bool) → result_err {T = Unit {0}} (cond x (cond y (Ok tt) (Err OrderBuffer)) (Err BufferLength))
        ≡ first_broken (rule x BufferLength ∷ rule y OrderBuffer ∷ [])
    go true true = refl
    go true false = refl
    go false y = refl

-- what bodies say, of which the grid has its length
contents_broken : (g : List ℕ) (n : ℕ) (o : List ℤ) → length g ≡ 81
    → result_err (contents_check g n o) ≡ first_broken (bytes_rule g ∷ technique_rule n ∷ order_rules o)
unfolding contents_check grid_rules
contents_broken g n o long =
    let long_enough : first_broken (grid_rules g) ≡ first_broken (bytes_rule g ∷ []) = rw (eq-eqb (length g) 81 long) refl in
    checked_first Err told (λ f. refl) (grid_check g) _ (bytes_rule g ∷ []) _ (grid_broken g ∙ long_enough) λ u grid.
    checked_first Err told (λ f. refl) (technique_of n) _ (technique_rule n ∷ []) _ (technique_broken n) λ t known.
    last_first Err told (λ f. refl) (order_check o) (λ v. Ok t) (order_rules o) (order_broken o) λ v order. refl
  where
    told : Result Technique Refusal → Option Refusal
    told r = result_err r

module _ (f g : List ℕ) (o : List ℤ) where
  module _ (bytes : AreBytes f) where
    spelled : (b : Bodies) → pieces_of f ≡ Ok b → Spells f b
    spelled b e = ((pieces_read f bytes (pieces_of f) refl).0 b).0 e

    pub read_broken : result_err (read_call f g o).0 ≡ first_broken (read_rules f g o)
    unfolding read_call read_rules read_bodies
    read_broken =
        checked_first (refused g o) (λ r. result_err r.0) (λ f. refl) (lent_check (length g) (length o)) _
        (rule (eqb (length g) 81) BufferLength ∷ rule (eqb (length o) 1458) OrderBuffer ∷ []) (file_rules (pieces_of f))
        (lent_broken (length g) (length o)) λ u lent. go (pieces_of f) refl
      where
        go : (x : Result Bodies Refusal) → pieces_of f ≡ x → result_err (on_accepted x (refused g o) (λ b. read_bodies b g o)).0 ≡ first_broken (file_rules x)
        go (Err r) e = refl
        go (Ok b) e =
            last_first (refused g o) (λ r. result_err r.0) (λ f. refl) (contents_check b.grid b.technique (order_in b.order)) _ (contents_rules b)
            (contents_broken b.grid b.technique (order_in b.order) (spelled b e).long.grid) λ t contents. refl

  -- what is accepted
  contents : (g : List ℕ) (n : ℕ) (o : List ℤ) (t : Technique) → contents_check g n o ≡ Ok t
      → (grid_check g ≡ Ok tt) × (technique_of n ≡ Ok t) × (order_check o ≡ Ok tt)
  unfolding contents_check
  contents g n o t = go (grid_check g) (technique_of n) (order_check o) refl refl refl
    where
      go : (x : Result (Unit {0}) Refusal) (y : Result Technique Refusal) (z : Result (Unit {0}) Refusal)
          → grid_check g ≡ x → technique_of n ≡ y → order_check o ≡ z
          → on_accepted x Err (λ u. on_accepted y Err λ t. on_accepted z Err λ v. Ok t) ≡ Ok t
          → (grid_check g ≡ Ok tt) × (technique_of n ≡ Ok t) × (order_check o ≡ Ok tt)
      go (Ok u) (Ok s) (Ok v) a b c e = (a, b ∙ e, c)
      go (Ok u) (Ok s) (Err r) a b c e = absurd (no_answer e)
      go (Ok u) (Err r) z a b c e = absurd (no_answer e)
      go (Err r) y z a b c e = absurd (no_answer e)

  -- what holds of a refusal and of what bodies set holds of the call
  by_checks : (P : Given → Type 0) → ((r : Refusal) → P (refused g o r))
      → ((b : Bodies) (t : Technique) → pieces_of f ≡ Ok b → contents_check b.grid b.technique (order_in b.order) ≡ Ok t
      → P (Ok (settings_in b t), b.grid, order_in b.order))
      → P (read_call f g o)
  unfolding read_call read_bodies
  by_checks P refuses gives =
      checked (refused g o) P refuses (lent_check (length g) (length o)) _ λ u lent.
      checked (refused g o) P refuses (pieces_of f) _ λ b pieces.
      checked (refused g o) P refuses (contents_check b.grid b.technique (order_in b.order)) _ λ t contents. gives b t pieces contents

  -- both buffers stay
  abbrev pub Stays : Given → Type 0
  Stays y = OnErr y.0 ((y.1 ≡ g) × (y.2 ≡ o))

  read_stays : Stays (read_call f g o)
  read_stays = by_checks Stays (λ r. (refl, refl)) (λ b t pieces contents. tt)

  -- what is set
  abbrev pub Answers : Given → Type 0
  Answers y = IfOk y.0 (λ settings. Sets f settings y.1 y.2)

  read_answers : AreBytes f → Answers (read_call f g o)
  read_answers bytes = by_checks Answers (λ r. tt) λ b t pieces said.
      let c = contents b.grid b.technique (order_in b.order) t said in
      record {
        bodies = b;
        spelled = spelled bytes b pieces;
        grid_is = refl;
        technique_is = technique_number b.technique t c.1;
        ceiling_is = refl;
        order_is = refl;
        keyed = (grid_iff b.grid).0 c.0;
        each_once = accepted_order (order_in b.order) c.2;
      }

  -- so of what gives back what the call does
  module _ (bytes : AreBytes f) (r : Result Settings Refusal) (g' : List ℕ) (o' : List ℤ) (e : (r, g', o') ≡ read_call f g o) where
    pub refused_so : result_err r ≡ first_broken (read_rules f g o)
    refused_so = ap (λ (y : Given). result_err y.0) e ∙ read_broken bytes

    pub stays_so : Stays (r, g', o')
    stays_so = subst Stays (sym e) read_stays

    pub answers_so : Answers (r, g', o')
    answers_so = subst Answers (sym e) (read_answers bytes)

    -- where what is lent has its lengths, the file's fault is what the call is refused by
    pub faults_so : (fault : Refusal) → IsFault f fault → (length g ≡ 81) × (length o ≡ 1458) → result_err r ≡ Some fault
    unfolding read_rules
    faults_so fault k long =
        refused_so ∙ go (eqb (length g) 81) (eqb (length o) 1458) (eq-eqb (length g) 81 long.0) (eq-eqb (length o) 1458 long.1) (pieces_of f) (((pieces_read f bytes (pieces_of f) refl).1 fault).1 k)
      where
        go : (x y : Bool) → x ≡ true → y ≡ true → (p : Result Bodies Refusal) → p ≡ Err fault
            → first_broken (rule x BufferLength ∷ rule y OrderBuffer ∷ file_rules p) ≡ Some fault
        go true true a b (Err q) e = let z : q ≡ fault = cc in ap Some z
        go true true a b (Ok q) e = absurd (no_answer (sym e))
        go true false a b p e = let z : false ≡ true = b in cc
        go false y a b p e = let z : false ≡ true = a in cc
