-- Two jobs compared. The second has stronger rules and every given of the first, so its closure has all that the first has marked, and
-- a job that is not stopped gives back its closure, whatever the orders and ceilings. A mark is then the same since it is 1 or 2 where it
-- is not 0. The jobs of a batch are those of job calls, since their grids are accepted too.
-- Assumes nothing.
use mathlib.Core.Path.{◌≡◌, sym, ap, ◌∙◌}
use mathlib.Core.Logic.{◌⊎◌, inl, inr}
use mathlib.Core.List.{List, Memᴰ}
use Prim.Native.Nat.{ℕ, ◌-◌}
use native.Mathlib.Decide.{ℕ_discrete}
use native.Mathlib.Omega.{arith}
use lib.IntN.{ℤ}
use lib.ListN.{length}
use Rattle.std.specs.Prelude.{Ok}
use Rattle.clauses.specs.Clauses.{clauses_of}
use Rattle.clauses.specs.Models.{givens}
use Rattle.clauses.proofs.Members.{givens_iff}
use Rattle.closure.proofs.Closure.{rules_stronger, contradiction_mono}
use Rattle.closure.proofs.Sets.{least_mono}
use Rattle.closure.specs.Job.{outcome, outcome_number, count_of}
use Rattle.orders.specs.Technique.{AtLeast}
use Rattle.orders.specs.declared.technique.Technique.{Technique}
use Rattle.orders.proofs.Techniques.{set_within, at_least_table}
use Rattle.trials.specs.Steps.{end}
use Rattle.inference.specs.Call.{job_end_of, job_of}
use Rattle.inference.specs.Job.{JobSays}
use Rattle.inference.proofs.MarkBytes.{marks_same}
use Rattle.inference.proofs.Says.{tells_says}
use Rattle.inference.proofs.Calls as job
use Rattle.batch.specs.Call.{grid_at}
use Rattle.batch.specs.Says.{count_before}
use Rattle.batch.proofs.Checks.{lent_accepted, grid_accepted}
use Rattle.batch.proofs.Calls as batch
use Rattle.demands.specs.Comparison.{JobCall, HasGivens, SameMarks, OfJobs, OfBatches}

givens_carry : (g h : List ℕ) → HasGivens g h → (l : ℤ) → Memᴰ l (givens g) → Memᴰ l (givens h)
givens_carry g h same l m =
    let w = (givens_iff g l).0 m in
    let e = same w.0 w.1 w.2 in
    (givens_iff h l).1 (w.0, w.1, rw e w.2, rw e w.3)

-- what two jobs say
module _ (t u : Technique) (strong : AtLeast t u) (g h : List ℕ) (given : HasGivens g h) where
  pub compared : (o o' : List ℤ) (c c' a a' n n' : ℕ) (m m' : List ℕ) → JobSays t g o c a n m → JobSays u h o' c' a' n' m' → (a' ≡ 3 → ⊥)
      → ((a' ≡ 4) ⊎ SameMarks m m') × (a ≡ 4 → a' ≡ 4)
  compared o o' c c' a a' n n' m m' first second whole =
      let rules = rules_stronger (clauses_of t.set) (clauses_of u.set) (set_within t.set u.set strong.0) t.trials u.trials strong.1 in
      let more = least_mono rules (givens_carry g h given) in (
        elim (ℕ_discrete a' 4) [
          | yes q ↦ inl q
          | no q ↦ inr (marks_same m m' first.marks.each (λ l k. (second.closure.marked whole q l).1 (more l (first.closure.within l k))))
        ],
        λ q. (second.closure.clash whole).1 (contradiction_mono more ((first.closure.clash (λ s. omega (arith, q, s))).0 q)),
      )

-- what a job call that is not refused says
abbrev Says : JobCall → Technique → Type 0
Says j t = JobSays t j.grid j.order j.ceiling (outcome_number j.end.outcome) j.end.count j.marks

ran : (j : JobCall) → job.Ran j.grid j.technique j.order j.ceiling j.lent j.end j.marks
ran j = job.call_ran j.grid j.technique j.order j.ceiling j.lent j.end j.marks j.gave

ran_says : (j : JobCall) → Says j (ran j).technique
ran_says j = let r = ran j in tells_says r.technique j.grid j.order j.ceiling r.order _ _ _ r.tells

pub of_jobs : OfJobs
of_jobs first second given strong whole =
    let t = ran first in
    let u = ran second in
    let below = (at_least_table first.technique second.technique t.technique u.technique t.known u.known).1 strong in
    compared t.technique u.technique below first.grid second.grid given first.order second.order first.ceiling second.ceiling _ _ _ _ _ _ (ran_says first) (ran_says second) whole

pub of_batches : OfBatches
unfolding job_of
of_batches grids n order ceiling m a marks answers gave i h lent long =
    let r = batch.call_ran grids n order ceiling m a marks answers gave in
    let whole = (lent_accepted (length grids) (length m) (length a) (sym r.lent)).whole in
    let k = r.says.each i h in
    let e = job_end_of r.technique order (grid_at grids i) (ceiling - count_before answers i) in
    let call = job.call_gives (grid_at grids i) n order (ceiling - count_before answers i) lent r.technique long (grid_accepted grids r.bytes i (omega (arith, h, whole))) r.known r.order in
    (end (outcome e) (count_of e), call ∙ ap (λ x. (Ok (end (outcome e) (count_of e)), x)) k.marks_are, k.outcome_is, k.count_is)
