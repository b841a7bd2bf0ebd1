-- The list of clauses that may act: what holds of marks, sums and list between two looks at a clause.
use Rattle.std.specs.Prelude.{◌≡◌, ◌⊎◌, List, ℕ, suc, ◌+◌, ◌*◌, ◌-◌, ◌≤◌, ◌<◌, T, ℤ, pos, negsuc, length, get_or, set, Some, None, Option, Ok, Err, IsErr, IsOk, Result}
use Rattle.clauses.specs.Clauses.{clauses_of}
use Rattle.clauses.specs.Shape.{place_of}
use Rattle.clauses.specs.declared.ClauseSet.{ClauseSet}
use Rattle.clauses.specs.declared.ClauseSet.TheVariants.{Extended}
use Rattle.clauses.specs.declared.Group.{Group}
use Rattle.closure.specs.Sets.{Within as LiteralsWithin, Least}
use Rattle.closure.specs.Closure.{Contradiction, UnitClosed}
use Rattle.closure.specs.Marks.{has, IsMarks}
use Rattle.groups.specs.declared.Kind.{Kind}
use Rattle.groups.specs.Groups.{group_at, group_in, clause_in, kind_at, number_of, first_pair, pair_number, Pair}
use Rattle.worklist.specs.Sums.{InSlots, SumsOk}
use Rattle.worklist.specs.declared.acting.Clash.{Clash}
use Rattle.worklist.specs.declared.acting.State.{State}
use Rattle.worklist.specs.declared.acting.Targets.{Targets}
use Rattle.worklist.specs.declared.acting.Worklist.{Worklist}

-- a place is true
abbrev pub True : List ℕ → ℕ → Type 0
True m p = T (has m (pos (suc p)))

-- a place is false
abbrev pub False : List ℕ → ℕ → Type 0
False m p = T (has m (negsuc p))

-- number c stands in the list, before place n
abbrev pub Listed : List ℕ → ℕ → ℕ → Type 0
Listed ls n c = (i : ℕ) × (i < n) × (get_or ls i 0 ≡ c)

-- place p is undecided
abbrev pub Undecided : List ℕ → ℕ → Type 0
Undecided m p = (p < 729) × (get_or m p 0 ≡ 0)

-- place p gets the mark b, one more variable is decided, and P holds then
pub record Becomes (st st' : State) (p b : ℕ) (P : Type 0) : Type 0 where
  pub marks : st'.marks ≡ set st.marks p b
  pub decided : st'.decided ≡ st.decided + 1
  pub holds : P

-- all places of a group but the k-th are false
abbrev pub AllBut : List ℕ → Group → ℕ → Type 0
AllBut m g k = (j : ℕ) → j < 9 → (j ≡ k → ⊥) → False m (place_of g j)

-- the nine-literal clause of slot x may still add a literal, or is a contradiction: all its places but one are false, and that one is not true
abbrev pub Acts : List ℕ → ℕ → Type 0
Acts m x = (k : ℕ) × (k < 9) × AllBut m (group_in x) k × (True m (place_of (group_in x) k) → ⊥)

-- the first n numbers of the list are those of the clauses of the slots P, each once
pub record Lists (s : ClauseSet) (P : ℕ → Type 0) (ls : List ℕ) (n : ℕ) : Type 0 where
  pub sound : (i : ℕ) → i < n → (x : ℕ) × InSlots s x × P x × (get_or ls i 0 ≡ clause_in x)
  pub once : (i j : ℕ) → i < j → j < n → get_or ls i 0 ≡ get_or ls j 0 → ⊥
  pub complete : (x : ℕ) → InSlots s x → P x → Listed ls n (clause_in x)

-- A state with its sums, and a list of clause numbers: from its front on it has exactly the nine-literal clauses that may still add a literal or are
-- a contradiction, each once, so that 324 is room for all. Behind them, after one number more, come the pairs.
pub record Ready (s : ClauseSet) (st : State) (l : Worklist) : Type 0 where
  pub marks : IsMarks st.marks
  pub sums : SumsOk s st.marks st.sums
  pub long : length l.numbers ≡ 361
  pub lists : Lists s (Acts st.marks) l.numbers l.listed

-- the clause that was listed last, if one is listed
abbrev pub Last : Worklist → Option ℕ → Type 0
Last l None = l.listed ≡ 0
Last l (Some c) = (0 < l.listed) × (c ≡ get_or l.numbers (l.listed - 1) 0)

-- slot x has its clause on the list
abbrev pub On : Worklist → ℕ → Type 0
On l x = Listed l.numbers l.listed (clause_in x)

-- Of the clauses that were listed those stay whose sum is below 2,048; it is a contradiction exactly where one of them has the sum 0.
pub record Settled (a : List ℕ) (l l' : Worklist) (r : Result (Unit {0}) Clash) : Type 0 where
  pub long : length l'.numbers ≡ 361
  pub lists : Lists Extended (λ x. On l x × (get_or a x 0 < 2048)) l'.numbers l'.listed
  pub clash : IsErr r → (x : ℕ) × (x < 324) × On l x × (get_or a x 0 ≡ 0)
  pub none : IsOk r → (x : ℕ) → x < 324 → On l x → get_or a x 0 ≡ 0 → ⊥

-- place q is one of the groups at p of the kinds from a on and before i
abbrev pub Within : ℕ → ℕ → ℕ → ℕ → Type 0
Within a i p q = (j : ℕ) × (a ≤ j) × (j < i) × (k : ℕ) × (k < 9) × (q ≡ place_of (group_at (kind_at j) p) k)

-- clause c of two literals may add that place q is false: its other place is true, and q is undecided
abbrev pub Adds : ClauseSet → List ℕ → ℕ → ℕ → Type 0
Adds s m c q = (p : ℕ) × True m p × Undecided m q × Pair s c p q

-- number c stands among the n pairs of the list, which begin at 325, with place q beside it
abbrev pub Beside : List ℕ → List ℕ → ℕ → ℕ → ℕ → Type 0
Beside ls o n c q = (i : ℕ) × (i < n) × (get_or ls (325 + i) 0 ≡ c) × (get_or o i 0 ≡ q)

-- The pairs of the list, each with the place that it would strike beside it: exactly the two-literal clauses that may still add a literal.
pub record PairsReady (s : ClauseSet) (m ls : List ℕ) (t : Targets) : Type 0 where
  pub few : t.count ≤ 36
  pub sound : (i : ℕ) → i < t.count → Adds s m (get_or ls (325 + i) 0) (get_or t.places i 0)
  pub complete : (c q : ℕ) → Adds s m c q → Beside ls t.places t.count c q

-- place q is one of those that the pairs would strike
abbrev pub Struckable : Targets → ℕ → Type 0
Struckable t q = Listed t.places t.count q

-- the nine-literal clauses of the list are left as they are
pub record Front (ls ls' : List ℕ) : Type 0 where
  pub long : length ls' ≡ length ls
  pub same : (i : ℕ) → i < 325 → get_or ls' i 0 ≡ get_or ls i 0

-- Of the pairs D, each a place and a number, those whose place is undecided are listed, and nothing else.
pub record Opened (m : List ℕ) (D : ℕ → ℕ → Type 0) (ls o : List ℕ) (n : ℕ) : Type 0 where
  pub long : length o ≡ 36
  pub sound : (i : ℕ) → i < n → D (get_or o i 0) (get_or ls (325 + i) 0) × (get_or m (get_or o i 0) 0 ≡ 0)
  pub complete : (q c : ℕ) → D q c → get_or m q 0 ≡ 0 → Beside ls o n c q

-- the pairs of p with the first places of its group of the j-th kind
abbrev pub Along : ℕ → ℕ → ℕ → ℕ → ℕ → Type 0
Along j p to q c = (k : ℕ) × (k < to) × (q ≡ place_of (group_at (kind_at j) p) k) × (c ≡ pair_number (kind_at j) p k)

-- those of the kinds from a on and before i, and of the i-th those with the first places
abbrev pub Pairs : ℕ → ℕ → ℕ → ℕ → ℕ → ℕ → Type 0
Pairs a i p to q c = ((j : ℕ) × (a ≤ j) × (j < i) × Along j p 9 q c) ⊎ Along i p to q c

-- a run more of the kind is listed
pub record RunListed (m : List ℕ) (f : Kind) (p from to : ℕ) (ls : List ℕ) (t : Targets) (ls' : List ℕ) (t' : Targets) : Type 0 where
  pub front : Front ls ls'
  pub few : t'.count ≤ 9 * number_of f + to
  pub more : (a : ℕ) → a ≤ number_of f → Opened m (Pairs a (number_of f) p from) ls t.places t.count → Opened m (Pairs a (number_of f) p to) ls' t'.places t'.count

-- the pairs of p are listed, of the kinds from a on, as far as the first places of the i-th
pub record ListedTo (m : List ℕ) (a i p to : ℕ) (ls ls' : List ℕ) (t : Targets) : Type 0 where
  pub front : Front ls ls'
  pub few : t.count ≤ 9 * i + to
  pub opened : Opened m (Pairs a i p to) ls' t.places t.count

-- what is marked stays marked
abbrev pub Keeps : List ℕ → List ℕ → Type 0
Keeps m m' = (l : ℤ) → T (has m l) → T (has m' l)

-- From marks m on the places O are struck: they are false, and nothing but that is new.
pub record Strikes (s : ClauseSet) (O : ℕ → Type 0) (m : List ℕ) (st : State) (ls : Worklist) : Type 0 where
  pub ready : Ready s st ls
  pub keeps : Keeps m st.marks
  pub struck : (q : ℕ) → O q → False st.marks q
  pub only : (l : ℤ) → T (has st.marks l) → T (has m l) ⊎ ((q : ℕ) × O q × (l ≡ negsuc q))

-- every true place has struck the others of its groups: no two-literal clause may still add a literal
abbrev pub Struck : ClauseSet → List ℕ → Type 0
Struck s m = (p : ℕ) → p < 729 → True m p → (q : ℕ) → Within (first_pair s) 4 p q → (q ≡ p → ⊥) → False m q

-- what steps from m may add: literals of the unit closure of m
abbrev pub Follows : ClauseSet → List ℕ → List ℕ → Type 0
Follows s m m' = LiteralsWithin (has m') (Least (UnitClosed (clauses_of s)) (λ l. T (has m l)))

-- the unit closure of m is a contradiction
abbrev pub Clashes : ClauseSet → List ℕ → Type 0
Clashes s m = Contradiction (Least (UnitClosed (clauses_of s)) (λ l. T (has m l)))

-- Steps from marks m: what was marked stays, what is marked anew is of the unit closure of m, and the list is as it must be.
pub record Stepped (s : ClauseSet) (m : List ℕ) (st : State) (ls : Worklist) : Type 0 where
  pub ready : Ready s st ls
  pub struck : Struck s st.marks
  pub keeps : Keeps m st.marks
  pub follows : Follows s m st.marks

-- what steps from a state come to: a contradiction of the unit closure of marks m, or steps from these, which decide a variable more
abbrev pub StepsTo : ClauseSet → State → List ℕ → State → Worklist → Result (Unit {0}) Clash → Type 0
StepsTo s st m st' ls (Ok u) = Stepped s m st' ls × (st.decided < st'.decided)
StepsTo s st m st' ls (Err c) = Clashes s m
