-- A state between two closures, and what a closure comes to.
use Rattle.std.specs.Prelude.{List, ℕ, ℤ, Result, Ok, Err, IfOk}
use Rattle.clauses.specs.Clauses.{clauses_of}
use Rattle.clauses.specs.declared.ClauseSet.{ClauseSet}
use Rattle.closure.specs.Closure.{UnitClosed}
use Rattle.closure.specs.Marks.{has, IsMarks}
use Rattle.closure.specs.Propagation.{Answer, clash, closed, Closes}
use Rattle.worklist.specs.Sums.{SumsOk}
use Rattle.worklist.specs.declared.acting.State.{State}
use Rattle.worklist.specs.declared.acting.Clash.{Clash}

-- marks that the unit rule closes
pub record MarksOk (s : ClauseSet) (m : List ℕ) : Type 0 where
  pub marks : IsMarks m
  pub closed : UnitClosed (clauses_of s) (has m)

-- with their sums: a state between two closures
pub record Closed (s : ClauseSet) (st : State) : Type 0 where
  pub marks : MarksOk s st.marks
  pub sums : SumsOk s st.marks st.sums

-- a closure's answer: the marks of the state, or a contradiction
abbrev pub answer_of : Result State Clash → Answer
answer_of (Ok st) = closed st.marks
answer_of (Err c) = clash

-- What closing the literals G comes to: a contradiction of their unit closure, or a state in which just its literals are marked.
pub record ComesTo (s : ClauseSet) (G : ℤ → Type 0) (r : Result State Clash) : Type 0 where
  pub answer : Closes (UnitClosed (clauses_of s)) G (answer_of r)
  pub state : IfOk r (Closed s)

-- the state that is left where there is no contradiction
abbrev pub state_left : State → Result (Unit {0}) Clash → Result State Clash
state_left st (Ok u) = Ok st
state_left st (Err c) = Err c

-- what closing the literals G in place comes to: a contradiction, or else the state that is left
abbrev pub ClosesTo : ClauseSet → (ℤ → Type 0) → State → Result (Unit {0}) Clash → Type 0
ClosesTo s G st r = ComesTo s G (state_left st r)
