-- What the answer of a search means.
use Rattle.std.specs.Prelude.{◌≡◌, ◌≢◌, ◌⊎◌, ◌↔◌, List, ℕ, ◌≤◌}
use Rattle.grid.specs.Completion.{Legal}
use Rattle.completions.specs.Completions.{Before}
use Rattle.exploration.specs.Search.{zeros}

-- The count says none, one or several, as 0, 1 or 2, exactly as legal completions exist. The first is the smallest of all in byte order, and the second
-- the smallest of the others; zero bytes where there is none.
pub record Reports (grid : List ℕ) (count : ℕ) (first second : List ℕ) : Type 0 where
  pub most : count ≤ 2
  pub none : (count ≡ 0) ↔ ((b : List ℕ) → Legal grid b → ⊥)
  pub one : (count ≡ 1) ↔ ((b : List ℕ) × Legal grid b × ((c : List ℕ) → Legal grid c → c ≡ b))
  pub several : (count ≡ 2) ↔ ((b : List ℕ) × (c : List ℕ) × Legal grid b × Legal grid c × (b ≢ c))
  pub smallest : count ≢ 0 → Legal grid first × ((b : List ℕ) → Legal grid b → (b ≡ first) ⊎ Before first b)
  pub next : count ≡ 2 → Legal grid second × Before first second × ((b : List ℕ) → Legal grid b → (b ≡ first) ⊎ ((b ≡ second) ⊎ Before second b))
  pub unused : (count ≡ 0 → first ≡ zeros) × (count ≤ 1 → second ≡ zeros)
