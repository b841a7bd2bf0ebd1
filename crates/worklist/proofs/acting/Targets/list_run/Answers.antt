-- The pairs with the places before the k-th are listed where they may act.
use mathlib.Core.Path.{◌≡◌, ap, sym, subst, ◌∙◌}
use mathlib.Core.Logic.{◌⊎◌, inl, inr, ⊎_elim}
use mathlib.Core.List.{List}
use Prim.Native.Nat.{ℕ, ◌+◌, ◌/◌, ◌≤◌, ◌<◌}
use native.Mathlib.Omega.{arith}
use lib.ListN.{length, get_or, set}
use Rattle.clauses.specs.Shape.{place_of}
use Rattle.groups.specs.declared.Kind.{Kind}
use Rattle.groups.specs.declared.Line.{Line}
use Rattle.groups.specs.Groups.{IsRun, LineOf, group_at, kind_at, number_of, place_along, first_number, row_at, pair_table, pair_number}
use Rattle.worklist.specs.Acting.{Pairs, Opened}
use Rattle.groups.proofs.Slots.{at_number}
use Rattle.groups.proofs.Pairs.{first_same}
use Rattle.worklist.proofs.Listing.{front_more, front_set, opened_next}
use Rattle.worklist.proofs.acting.Targets.list_run.Goals as goal
use Rattle.worklist.proofs.acting.Targets.list_run.Goals.{then-marks-q-eq0, else-marks-q-eq0}

-- what the code reads for the k-th place of the group of p: its place, and the number of its pair
module _ (f : Kind) (p from to k : ℕ) (run : IsRun (number_of f) from to) (at : from ≤ k) (before : k < to) where
  nine : k < 9
  nine = omega (arith, before, run.2)

  is_place : (line : Line) → LineOf (group_at f p) line → place_along line k ≡ place_of (group_at (kind_at (number_of f)) p) k
  is_place line e = e k nine ∙ ap (λ g. place_of (group_at g p) k) (sym (at_number f))

  is_number : {first byte row : ℕ} {table : List ℕ} → first ≡ first_number f p (from / 3) → row ≡ row_at f p → byte ≡ get_or table (row + k) 0 → table ≡ pair_table
      → first + byte ≡ pair_number (kind_at (number_of f)) p k
  is_number {byte = byte} {row = row} a r b t =
      let e = sym (at_number f) in
      let x = a ∙ ap (λ g. first_number g p (from / 3)) e ∙ first_same (number_of f) p from to run k at before in
      let y = b ∙ ap (λ t. get_or t (row + k) 0) t ∙ ap (λ r. get_or pair_table (r + k) 0) (r ∙ ap (λ g. row_at g p) e) in
      ap (λ z. z + byte) x ∙ ap (λ z. first_number (kind_at (number_of f)) p (k / 3) + z) y

pub loop-k-preserved : goal.loop-k-preserved
loop-k-preserved c =
    let a = c.args in
    let i = number_of a.kind in
    let l = c.loop-k in
    let v = l.invariant in
    let t = c.loop-k-test.true in
    let r = c.requires in
    let q = c.if-marks-q-eq0 in
    let m = a.marks.now in
    let here = c.place-q.ensures ∙ is_place a.kind a.p a.from a.to l.k r.0 v.0 t c.line_of-line.result c.line_of-line.ensures in
    let number = is_number a.kind a.p a.from a.to l.k r.0 v.0 t c.first_number-first.ensures c.row_at-row.ensures c.from.ensures c.pair_table-table.ensures in
    let long : length a.numbers.now ≡ 361 = omega arith in
    let room : l.n < 36 = omega (arith, v.2, nine a.kind a.p a.from a.to l.k r.0 v.0 t, r.0.0) in
    let o : ((get_or m c.place-q.result 0 ≡ 0) × (q.n ≡ l.n + 1)) ⊎ ((get_or m c.place-q.result 0 ≡ 0 → ⊥) × (q.n ≡ l.n)) = elim q.branch [
      | then-marks-q-eq0 w ↦ inl (w.if-marks-q-eq0.true, w.n-is)
      | else-marks-q-eq0 w ↦ inr (w.if-marks-q-eq0.false, w.n-is)
    ] in (
      omega (arith, v.0),
      omega (arith, t),
      ⊎_elim (λ x. omega (arith, v.2, x.1)) (λ x. omega (arith, v.2, x.1)) o,
      front_more v.3 (front_set l.numbers l.n (c.first_number-first.result + c.from.result)),
      λ b h z.
          let D = Pairs b i a.p (l.k + 1) in
          subst (λ x. Opened m D (set l.numbers (325 + l.n) x) (set l.self.places l.n c.place-q.result) q.n) (sym number)
          (subst (λ x. Opened m D (set l.numbers (325 + l.n) (pair_number (kind_at i) a.p l.k)) (set l.self.places l.n x) q.n) (sym here)
          (opened_next b i a.p l.k m l.numbers l.self.places l.n q.n room (v.3.long ∙ long)
          (subst (λ x. ((get_or m x 0 ≡ 0) × (q.n ≡ l.n + 1)) ⊎ ((get_or m x 0 ≡ 0 → ⊥) × (q.n ≡ l.n))) here o) (v.4 b h z))),
    )

pub returns : goal.returns
returns c =
    let l = c.loop-k in
    let a = c.args in
    let e : l.k ≡ a.to = omega (arith, l.invariant.1, c.loop-k-test.false) in
    record {
      front = l.invariant.3;
      few = omega (arith, l.invariant.2, l.invariant.1);
      more = λ b h r. subst (λ k. Opened a.marks.now (Pairs b (number_of a.kind) a.p k) l.numbers l.self.places l.n) e (l.invariant.4 b h r);
    }
