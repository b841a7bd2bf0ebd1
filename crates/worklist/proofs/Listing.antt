-- Pairs are listed, place by place: each is written behind those that are listed, and counts where its place is undecided, so that of the places so
-- far exactly the undecided ones have their pairs listed. They stand from 325 on, so that the nine-literal clauses that are listed stay so.
-- Assumes nothing.
use mathlib.Core.Path.{◌≡◌, refl, ap, sym, subst, ◌∙◌}
use mathlib.Core.Logic.{◌⊎◌, inl, inr, ⊎_elim}
use mathlib.Core.List.{List}
use Prim.Native.Nat.{ℕ, ◌+◌, ◌≤◌, ◌<◌}
use native.Mathlib.Decide.{dec_lt}
use native.Mathlib.Omega.{arith}
use lib.ListN.{length, get_or, set, length-set}
use lib.Seq.{get_or-set_same, get_or-set_other}
use Rattle.clauses.specs.Shape.{place_of}
use Rattle.clauses.specs.declared.ClauseSet.{ClauseSet}
use Rattle.groups.specs.Groups.{group_at, kind_at, number_of, pair_number}
use Rattle.groups.specs.declared.Kind.{Kind}
use Rattle.worklist.specs.Acting.{Pairs, Along, Opened, Beside, Front, RunListed, ListedTo, Ready}
use Rattle.worklist.specs.declared.acting.State.{State}
use Rattle.worklist.specs.declared.acting.Targets.{Targets}
use Rattle.worklist.specs.declared.acting.Worklist.{Worklist}

-- nothing is written to the front, and a pair is written behind it
pub front_same : (ls : List ℕ) → Front ls ls
front_same ls = record { long = refl; same = λ i h. refl }

pub front_more : {ls ls' ls'' : List ℕ} → Front ls ls' → Front ls' ls'' → Front ls ls''
front_more f g = record { long = g.long ∙ f.long; same = λ i h. g.same i h ∙ f.same i h }

pub front_set : (ls : List ℕ) (n c : ℕ) → Front ls (set ls (325 + n) c)
front_set ls n c = record { long = length-set ls (325 + n) c; same = λ i h. get_or-set_other ls (325 + n) i c 0 (λ e. omega arith) }

-- the nine-literal clauses that are listed stay listed
pub ready_front : {s : ClauseSet} {st : State} {l l' : Worklist} → Front l.numbers l'.numbers → l'.listed ≡ l.listed → Ready s st l → Ready s st l'
ready_front {st = st} {l = l} {l' = l'} f e r =
    record {
      marks = r.marks;
      sums = r.sums;
      long = f.long ∙ r.long;
      lists = record {
        sound = λ i h. let b : i < l.listed = omega (arith, e) in let w = r.lists.sound i b in (w.0, w.1, w.2, here i b ∙ w.3);
        once = λ i j h k q. let b : j < l.listed = omega (arith, e) in r.lists.once i j h b (sym (here i (omega arith)) ∙ q ∙ here j b);
        complete = λ x h w. let k = r.lists.complete x h w in (k.0, omega (arith, e, k.1), here k.0 k.1 ∙ k.2);
      };
    }
  where
    here : (i : ℕ) → i < l.listed → get_or l'.numbers i 0 ≡ get_or l.numbers i 0
    here i h = f.same i (omega (arith, l.fits))

-- the same pairs, said otherwise
opened_same : {m ls o : List ℕ} {n : ℕ} {D E : ℕ → ℕ → Type 0}
    → ((q c : ℕ) → D q c → E q c) → ((q c : ℕ) → E q c → D q c) → Opened m D ls o n → Opened m E ls o n
opened_same f g r = record { long = r.long; sound = λ i h. let w = r.sound i h in (f _ _ w.0, w.1); complete = λ q c e z. r.complete q c (g q c e) z }

-- no pair, and a kind more
opened_none : (a p : ℕ) (m ls o : List ℕ) (n : ℕ) → length o ≡ 36 → n ≡ 0 → Opened m (Pairs a a p 0) ls o n
opened_none a p m ls o n h e =
    record {
      long = h;
      sound = λ i b. absurd (omega (arith, e));
      complete = λ q c w z. ⊎_elim (λ u. absurd (omega (arith, u.1, u.2))) (λ u. absurd (omega (arith, u.1))) w;
    }

opened_kind : (a i p : ℕ) {m ls o : List ℕ} {n : ℕ} → a ≤ i → Opened m (Pairs a i p 9) ls o n → Opened m (Pairs a (i + 1) p 0) ls o n
opened_kind a i p h r =
    opened_same
    (λ q c w. inl (⊎_elim (λ u. (u.0, u.1, omega (arith, u.2), u.3)) (λ u. (i, h, omega arith, u)) w))
    (λ q c w. ⊎_elim (λ u. before q c u) (λ u. absurd (omega (arith, u.1))) w) r
  where
    before : (q c : ℕ) → (j : ℕ) × (a ≤ j) × (j < i + 1) × Along j p 9 q c → Pairs a i p 9 q c
    before q c u = elim (dec_lt u.0 i) [
      | yes b ↦ inl (u.0, u.1, b, u.3)
      | no b ↦ (let e : u.0 ≡ i = omega (arith, u.2) in inr (subst (λ j. Along j p 9 q c) e u.3))
    ]

-- no kind, a run more, and a kind more
pub to_none : (m : List ℕ) (a p : ℕ) (ls : List ℕ) (t : Targets) → length t.places ≡ 36 → t.count ≡ 0 → ListedTo m a a p 0 ls ls t
to_none m a p ls t h e = record { front = front_same ls; few = omega (arith, e); opened = opened_none a p m ls t.places t.count h e }

pub to_run : {m : List ℕ} {a p from to : ℕ} {ls ls' ls'' : List ℕ} {t t' : Targets} (f : Kind)
    → a ≤ number_of f → ListedTo m a (number_of f) p from ls ls' t → RunListed m f p from to ls' t ls'' t' → ListedTo m a (number_of f) p to ls ls'' t'
to_run {a = a} f h t r = record { front = front_more t.front r.front; few = r.few; opened = r.more a h t.opened }

pub to_kind : {m : List ℕ} {a i p : ℕ} {ls ls' : List ℕ} {t : Targets} → a ≤ i → ListedTo m a i p 9 ls ls' t → ListedTo m a (i + 1) p 0 ls ls' t
to_kind {a = a} {i = i} {p = p} h t = record { front = t.front; few = omega (arith, t.few); opened = opened_kind a i p h t.opened }

-- one place more, which is listed where it is undecided
module _ (a i p k : ℕ) (m ls o : List ℕ) (n n' : ℕ) (room : n < 36) (long : length ls ≡ 361) where
  abbrev place : ℕ
  place = place_of (group_at (kind_at i) p) k

  abbrev number : ℕ
  number = pair_number (kind_at i) p k

  pub opened_next : ((get_or m place 0 ≡ 0) × (n' ≡ n + 1)) ⊎ ((get_or m place 0 ≡ 0 → ⊥) × (n' ≡ n))
      → Opened m (Pairs a i p k) ls o n → Opened m (Pairs a i p (k + 1)) (set ls (325 + n) number) (set o n place) n'
  opened_next listed r =
      record {
        long = length-set o n place ∙ r.long;
        sound = λ j h. elim (dec_lt j n) [
          | yes b ↦ (let w = r.sound j b in moved (there j b) (numbered j b) (wider _ _ w.0) w.1)
          | no b ↦ ⊎_elim
              (λ w. let e : j ≡ n = omega (arith, w.1) in moved (ap (λ y. get_or (set o n place) y 0) e ∙ here) (ap (λ y. get_or (set ls (325 + n) number) (325 + y) 0) e ∙ new) (inr last) w.0)
              (λ w. absurd (omega (arith, w.1))) listed
        ];
        complete = λ q c s z. ⊎_elim (λ w. keep q c (r.complete q c (inl w) z)) (λ w. at q c w z) s;
      }
    where
      here : get_or (set o n place) n 0 ≡ place
      here = get_or-set_same o n place 0 (omega (arith, r.long, room))

      new : get_or (set ls (325 + n) number) (325 + n) 0 ≡ number
      new = get_or-set_same ls (325 + n) number 0 (omega (arith, long, room))

      there : (j : ℕ) → j < n → get_or (set o n place) j 0 ≡ get_or o j 0
      there j b = get_or-set_other o n j place 0 (λ e. omega arith)

      numbered : (j : ℕ) → j < n → get_or (set ls (325 + n) number) (325 + j) 0 ≡ get_or ls (325 + j) 0
      numbered j b = get_or-set_other ls (325 + n) (325 + j) number 0 (λ e. omega arith)

      moved : {q c x y : ℕ} → q ≡ x → c ≡ y → Pairs a i p (k + 1) x y → get_or m x 0 ≡ 0 → Pairs a i p (k + 1) q c × (get_or m q 0 ≡ 0)
      moved e f d z = rw (e, f) (d, z)

      last : Along i p (k + 1) place number
      last = (k, omega arith, refl, refl)

      wider : (q c : ℕ) → Pairs a i p k q c → Pairs a i p (k + 1) q c
      wider q c s = ⊎_elim inl (λ w. inr (w.0, omega (arith, w.1), w.2, w.3)) s

      keep : (q c : ℕ) → Beside ls o n c q → Beside (set ls (325 + n) number) (set o n place) n' c q
      keep q c w =
          let b : w.0 < n' = ⊎_elim (λ u. omega (arith, w.1, u.1)) (λ u. omega (arith, w.1, u.1)) listed in
          (w.0, b, numbered w.0 w.1 ∙ w.2, there w.0 w.1 ∙ w.3)

      at : (q c : ℕ) → Along i p (k + 1) q c → get_or m q 0 ≡ 0 → Beside (set ls (325 + n) number) (set o n place) n' c q
      at q c w z = elim (dec_lt w.0 k) [
        | yes b ↦ keep q c (r.complete q c (inr (w.0, b, w.2, w.3)) z)
        | no b ↦ (
            let e : w.0 ≡ k = omega (arith, w.1) in
            let f : q ≡ place = w.2 ∙ ap (place_of (group_at (kind_at i) p)) e in
            let g : c ≡ number = w.3 ∙ ap (pair_number (kind_at i) p) e in
            ⊎_elim (λ u. (n, omega (arith, u.1), new ∙ sym g, here ∙ sym f)) (λ u. absurd (u.0 (ap (λ y. get_or m y 0) (sym f) ∙ z))) listed)
      ]
