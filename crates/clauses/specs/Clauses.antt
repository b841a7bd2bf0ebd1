-- Variables and the two clause sets, family by family F1 to F9, each in the order of its indices.
use Rattle.std.specs.Prelude.{List, [], ◌∷◌, ◌++◌, map, take, ℕ, zero, suc, ◌+◌, ◌*◌, ◌-◌, ℤ, pos, negsuc}
use Rattle.clauses.specs.declared.ClauseSet.{ClauseSet}
use Rattle.clauses.specs.declared.ClauseSet.TheVariants.{Minimal, Extended}

-- n numbers from a on
abbrev pub range : ℕ → ℕ → List ℕ
range a zero = []
range a (suc n) = a ∷ range (suc a) n

-- from a to b, both among them
abbrev pub up_to : ℕ → ℕ → List ℕ
up_to a b = range a (suc b - a)

-- what f gives for each entry, one after the other
abbrev pub over : {A B : Type 0} → List A → (A → List B) → List B
over [] f = []
over (x ∷ xs) f = f x ++ over xs f

-- row x, column y, digit z, each from 1 to 9
abbrev pub variable : ℕ → ℕ → ℕ → ℕ
variable x y z = 81 * (x - 1) + 9 * (y - 1) + z

-- cell (x,y) holds z
abbrev pub is : ℕ → ℕ → ℕ → ℤ
is x y z = pos (variable x y z)

-- cell (x,y) does not hold z
abbrev pub is_not : ℕ → ℕ → ℕ → ℤ
is_not x y z = negsuc (variable x y z - 1)

-- a clause: its literals in index order
abbrev pub Clause : Type 0
Clause = List ℤ

-- one clause of one family's index
abbrev pub clause : Clause → List Clause
clause c = c ∷ []

-- rows, columns and digits
abbrev pub nine : List ℕ
nine = up_to 1 9

-- places inside a box, down and across
abbrev pub three : List ℕ
three = up_to 1 3

-- a and b of box (a,b)
abbrev pub boxes : List ℕ
boxes = up_to 0 2

-- (x,y): the cell holds some digit
unfoldable pub F1 : List Clause
F1 = over nine λ x. over nine λ y. clause (map (λ z. is x y z) nine)

-- (y,z,x,i): not z at both (x,y) and (i,y)
unfoldable pub F2 : List Clause
F2 = over nine λ y. over nine λ z. over nine λ x. over (up_to (suc x) 9) λ i. clause (is_not x y z ∷ is_not i y z ∷ [])

-- (x,z,y,i): not z at both (x,y) and (x,i)
unfoldable pub F3 : List Clause
F3 = over nine λ x. over nine λ z. over nine λ y. over (up_to (suc y) 9) λ i. clause (is_not x y z ∷ is_not x i z ∷ [])

-- (z,a,b,x,y,k): box (a,b), same row x, columns y and k
unfoldable pub F4 : List Clause
F4 =
    over nine λ z. over boxes λ a. over boxes λ b. over three λ x. over three λ y. over (up_to (suc y) 3) λ k.
    clause (is_not (3 * a + x) (3 * b + y) z ∷ is_not (3 * a + x) (3 * b + k) z ∷ [])

-- (z,a,b,x,y,k,l): box (a,b), rows x and k, columns y and l
unfoldable pub F5 : List Clause
F5 =
    over nine λ z. over boxes λ a. over boxes λ b. over three λ x. over three λ y. over (up_to (suc x) 3) λ k. over three λ l.
    clause (is_not (3 * a + x) (3 * b + y) z ∷ is_not (3 * a + k) (3 * b + l) z ∷ [])

-- (x,y,z,i): not both z and i in one cell
unfoldable pub F6 : List Clause
F6 = over nine λ x. over nine λ y. over nine λ z. over (up_to (suc z) 9) λ i. clause (is_not x y z ∷ is_not x y i ∷ [])

-- (y,z): z somewhere in column y
unfoldable pub F7 : List Clause
F7 = over nine λ y. over nine λ z. clause (map (λ x. is x y z) nine)

-- (x,z): z somewhere in row x
unfoldable pub F8 : List Clause
F8 = over nine λ x. over nine λ z. clause (map (λ y. is x y z) nine)

-- (z,a,b): z somewhere in box (a,b)
unfoldable pub F9 : List Clause
F9 = over nine λ z. over boxes λ a. over boxes λ b. clause (over three λ x. map (λ y. is (3 * a + x) (3 * b + y) z) three)

-- the families in the order of their numbers
unfoldable pub families : List (List Clause)
families = F1 ∷ F2 ∷ F3 ∷ F4 ∷ F5 ∷ F6 ∷ F7 ∷ F8 ∷ F9 ∷ []

-- clause set 1: the first five families, one after the other
unfoldable pub minimal : List Clause
minimal = over (take 5 families) λ family. family

-- clause set 2: all nine, and so clause set 1 first
unfoldable pub extended : List Clause
extended = over families λ family. family

-- the clauses of a set; clause n is entry n, counted from 0
unfoldable pub clauses_of : ClauseSet → List Clause
clauses_of Minimal = minimal
clauses_of Extended = extended
