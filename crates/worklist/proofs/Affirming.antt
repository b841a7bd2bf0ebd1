-- A place that becomes true strikes the others of its groups. An undecided place has no true place in its groups, since that would have struck it;
-- so where all others that are undecided are struck, all others are false.
-- Assumes nothing.
use mathlib.Core.Path.{◌≡◌, refl, ap, sym, subst, ◌∙◌}
use mathlib.Core.Logic.{inl, inr, ⊎_elim}
use mathlib.Core.List.{List}
use Prim.Native.Nat.{ℕ, suc, ◌≤◌, ◌<◌}
use native.Mathlib.Decide.{ℕ_discrete, dec_lt}
use native.Mathlib.Omega.{arith}
use lib.Dec.{T}
use lib.IntN.{pos, negsuc}
use lib.ListN.{get_or, set}
use lib.Seq.{get_or-set_same}
use Rattle.clauses.specs.Clauses.{clauses_of}
use Rattle.clauses.specs.Shape.{place_of}
use Rattle.clauses.specs.declared.ClauseSet.{ClauseSet}
use Rattle.closure.specs.Sets.{Least}
use Rattle.closure.specs.Closure.{UnitClosed}
use Rattle.closure.specs.Marks.{has, IsMarks}
use Rattle.closure.proofs.Sets.{least_given}
use Rattle.groups.specs.Groups.{group_at, index_at, kind_at, number_of, first_pair, pair_number, Pair}
use Rattle.worklist.specs.Acting.{True, False, Struckable, Within, Undecided, Along, Pairs, Adds, PairsReady, Opened, Strikes, Struck, Stepped}
use Rattle.worklist.specs.declared.acting.State.{State}
use Rattle.worklist.specs.declared.acting.Targets.{Targets}
use Rattle.worklist.specs.declared.acting.Worklist.{Worklist}
use Rattle.groups.proofs.Slots.{first_below, number_at, at_number, number_below, index_at_lem, place_at_lem, place_once, group_same}
use Rattle.worklist.proofs.Rules.{closed_strikes}
use Rattle.groups.proofs.Pairs.{Paired, pair_clause, clause_pair}
use Rattle.worklist.proofs.Sums.{true_byte, false_byte, byte_false}
use Rattle.worklist.proofs.Literals.{has_set}
use Rattle.worklist.proofs.Striking.{signs_differ}

-- the places of a place's groups
pub within_below : (a i p q : ℕ) → p < 729 → Within a i p q → q < 729
within_below a i p q h w = let b = (place_at_lem p h (kind_at w.0) w.3 w.4).0 in omega (arith, w.5, b)

-- each is in a group of the other
within_turned : (a i p q : ℕ) → p < 729 → Within a i p q → Within a i q p
within_turned a i p q h w =
    let f = kind_at w.0 in
    let k = index_at_lem p h f in
    (w.0, w.1, w.2, index_at f p, k.0, sym k.1 ∙ ap (λ g. place_of g (index_at f p)) (sym (group_same f p h w.3 w.4) ∙ ap (group_at f) (sym w.5)))

-- the pairs of a place are with the places of its groups
pairs_within : (a p q c : ℕ) → a ≤ 3 → Pairs a 3 p 9 q c → Within a 4 p q
pairs_within a p q c h w = ⊎_elim (λ u. (u.0, u.1, omega (arith, u.2), u.3.0, u.3.1, u.3.2)) (λ u. (3, h, omega arith, u.0, u.1, u.2)) w

within_pairs : (a p q : ℕ) (w : Within a 4 p q) → (c : ℕ) × Pairs a 3 p 9 q c
within_pairs a p q w = (
  pair_number (kind_at w.0) p w.3,
  elim (dec_lt w.0 3) [
    | yes h ↦ inl (w.0, w.1, h, (w.3, w.4, w.5, refl))
    | no h ↦ (let e : w.0 ≡ 3 = omega (arith, w.2) in inr (w.3, w.4, w.5 ∙ ap (λ j. place_of (group_at (kind_at j) p) w.3) e, ap (λ j. pair_number (kind_at j) p w.3) e))
  ],
)

-- and so are all two-literal clauses that it is in
module _ (s : ClauseSet) {c p q : ℕ} (x : Paired s c p q) where
  is_kind : kind_at (number_of x.kind) ≡ x.kind
  is_kind = at_number x.kind

  along : q ≡ place_of (group_at (kind_at (number_of x.kind)) p) x.at
  along = x.place ∙ ap (λ f. place_of (group_at f p) x.at) (sym is_kind)

  paired_within : Within (first_pair s) 4 p q
  paired_within = (number_of x.kind, x.has, number_below x.kind, x.at, x.below, along)

  paired_other : q ≡ p → ⊥
  paired_other e =
      let i = index_at_lem p x.here x.kind in
      x.other (place_once p x.here x.kind x.at (index_at x.kind p) x.below i.0 (sym x.place ∙ e ∙ sym i.1))

  paired_pairs : Pairs (first_pair s) 3 p 9 q c
  paired_pairs =
      let l : Along (number_of x.kind) p 9 q c = (x.at, x.below, along, x.number ∙ ap (λ f. pair_number f p x.at) (sym is_kind)) in
      elim (dec_lt (number_of x.kind) 3) [
        | yes h ↦ inl (number_of x.kind, x.has, h, l)
        | no h ↦ (let e : number_of x.kind ≡ 3 = omega (arith, number_below x.kind) in inr (subst (λ j. Along j p 9 q c) e l))
      ]

same_place : (a b : ℕ) → pos (suc a) ≡ pos (suc b) → a ≡ b
same_place a b e = cc

module _ (s : ClauseSet) (m : List ℕ) (p : ℕ) (marks : IsMarks m) (u : Undecided m p) where
  abbrev raised : List ℕ
  raised = set m p 1

  -- what is false stays false
  kept : (q : ℕ) → False m q → False raised q
  kept q x = (has_set m (pos (suc p)) marks u.0 u.1 (negsuc q)).1 (inl x)

  raised_here : get_or raised p 0 ≡ 1
  raised_here = get_or-set_same m p 1 0 (omega (arith, u.0, marks.long))

  -- the pairs that are listed are exactly those that may still add a literal: every other true place has struck its own
  module _ {ls : List ℕ} {t : Targets} (before : Struck s m) (few : t.count ≤ 36) (r : Opened raised (Pairs (first_pair s) 3 p 9) ls t.places t.count) where
    raised_true : True raised p
    raised_true = true_byte raised p raised_here

    pair_adds : (q c : ℕ) → Pairs (first_pair s) 3 p 9 q c → get_or raised q 0 ≡ 0 → Adds s raised c q
    pair_adds q c w z = ⊎_elim (λ v. go v.0 v.1 (omega (arith, v.2)) v.3) (λ v. go 3 (omega (arith, first_below s)) (omega arith) v) w
      where
        go : (j : ℕ) → first_pair s ≤ j → j < 4 → Along j p 9 q c → Adds s raised c q
        go j a b l =
            let f = kind_at j in
            let i = index_at_lem p u.0 f in
            let d : l.0 ≡ index_at f p → ⊥ = λ e. (let y : q ≡ p = l.2 ∙ ap (place_of (group_at f p)) e ∙ i.1 in omega (arith, raised_here, z, ap (λ t. get_or raised t 0) y)) in
            let k : Pair s (pair_number f p l.0) p (place_of (group_at f p) l.0) = pair_clause s f (omega (arith, a, number_at j b)) p u.0 l.0 l.1 d in
            (p, raised_true, (omega (arith, l.2, (place_at_lem p u.0 f l.0 l.1).0), z), subst (λ x. Pair s x p q) (sym l.3) (subst (λ x. Pair s (pair_number f p l.0) p x) (sym l.2) k))

    adds_pair : (q c : ℕ) → Adds s raised c q → Pairs (first_pair s) 3 p 9 q c
    adds_pair q c w =
        let x = clause_pair s c w.0 q w.3 in
        ⊎_elim
        (λ t. absurd (omega (arith, w.2.1, byte_false raised q (kept q (before w.0 x.here t q (paired_within s x) (paired_other s x))))))
        (λ e. paired_pairs s (subst (λ y. Paired s c y q) (same_place w.0 p e) x)) ((has_set m (pos (suc p)) marks u.0 u.1 (pos (suc w.0))).0 w.1)

    pub pairs_ready : PairsReady s raised ls t
    pairs_ready = record { few = few; sound = λ i h. let w = r.sound i h in pair_adds _ _ w.0 w.1; complete = λ c q w. r.complete q c (adds_pair q c w) w.2.1 }

  module _ (before : Struck s m) {ls : List ℕ} {t : Targets} {st : State} {l : Worklist} (r : Opened raised (Pairs (first_pair s) 3 p 9) ls t.places t.count) (v : Strikes s (Struckable t) raised st l) (small : IsMarks raised) where
    -- the others of its groups are false
    others : (q : ℕ) → Within (first_pair s) 4 p q → (q ≡ p → ⊥) → False st.marks q
    others q k d = go (get_or raised q 0) refl
      where
        go : (b : ℕ) → get_or raised q 0 ≡ b → False st.marks q
        go b e = elim (ℕ_discrete b 0) [
          | yes z ↦ (let c = within_pairs (first_pair s) p q k in let i = r.complete q c.0 c.1 (e ∙ z) in v.struck q (i.0, i.1, i.3))
          | no z ↦ elim (ℕ_discrete b 1) [
            | no y ↦ v.keeps _ (false_byte raised q (omega (arith, small.small q, e, z, y)))
            | yes y ↦ ⊎_elim
                (λ t. absurd (omega (arith, u.1, byte_false m p (before q (within_below (first_pair s) 4 p q u.0 k) t p (within_turned (first_pair s) 4 p q u.0 k) (λ x. d (sym x))))))
                (λ x. absurd (d (same_place q p x))) ((has_set m (pos (suc p)) marks u.0 u.1 (pos (suc q))).0 (true_byte raised q (e ∙ y)))
          ]
        ]

    -- a true place strikes in every closed set
    strikes : (q : ℕ) → Struckable t q → Least (UnitClosed (clauses_of s)) (λ l. T (has raised l)) (negsuc q)
    strikes q k S closed g =
        let x = r.sound k.0 k.1 in
        let e = k.2 in
        let w : Within (first_pair s) 4 p q = subst (Within (first_pair s) 4 p) e (pairs_within (first_pair s) p _ _ (omega (arith, first_below s)) x.0) in
        let z : get_or raised q 0 ≡ 0 = subst (λ y. get_or raised y 0 ≡ 0) e x.1 in
        let f = kind_at w.0 in
        let i = index_at_lem p u.0 f in
        let b : first_pair s ≤ number_of f = omega (arith, w.1, number_at w.0 w.2) in
        subst (λ y. T (S (negsuc y))) (sym w.5)
        (closed_strikes s S closed f b p u.0 (index_at f p) w.3 i.0 w.4
        (λ j. let y : q ≡ p = w.5 ∙ ap (place_of (group_at f p)) (sym j) ∙ i.1 in omega (arith, raised_here, z, ap (λ t. get_or raised t 0) y))
        (subst (λ y. T (S (pos (suc y)))) (sym i.1) (g _ (true_byte raised p raised_here))))

    pub affirmed : Stepped s raised st l
    affirmed =
        record {
          ready = v.ready;
          struck = λ y h t q k d. ⊎_elim
              (λ x. ⊎_elim
              (λ z. v.keeps _ (kept q (before y h z q k d)))
              (λ z. let e : y ≡ p = same_place y p z in others q (subst (λ j. Within (first_pair s) 4 j q) e k) (λ j. d (j ∙ sym e)))
              ((has_set m (pos (suc p)) marks u.0 u.1 (pos (suc y))).0 x))
              (λ x. absurd (signs_differ y x.0 x.2)) (v.only (pos (suc y)) t);
          keeps = v.keeps;
          follows = λ l t. ⊎_elim (λ x. least_given (UnitClosed (clauses_of s)) l x) (λ x S c g. subst (λ y. T (S y)) (sym x.2) (strikes x.0 x.1 S c g)) (v.only l t);
        }
