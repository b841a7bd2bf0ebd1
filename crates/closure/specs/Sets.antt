-- Sets of literals, and the least set that has some literals and is closed under some rules.
use Rattle.std.specs.Prelude.{Bool, T, ℤ}

-- a set of literals, as a test
abbrev pub LiteralSet : Type 0
LiteralSet = ℤ → Bool

-- every literal of G is in S
abbrev pub Holds : (ℤ → Type 0) → LiteralSet → Type 0
Holds G S = (l : ℤ) → G l → T (S l)

-- every literal of S is one of G
abbrev pub Within : LiteralSet → (ℤ → Type 0) → Type 0
Within S G = (l : ℤ) → T (S l) → G l

-- l is in the least set that holds G and that the rules R close: it is in every such set
abbrev pub Least : (LiteralSet → Type 0) → (ℤ → Type 0) → ℤ → Type 0
Least R G l = (S : LiteralSet) → R S → Holds G S → T (S l)

-- S is that least set
pub record IsLeast (R : LiteralSet → Type 0) (G : ℤ → Type 0) (S : LiteralSet) : Type 0 where
  pub holds : Holds G S
  pub closed : R S
  pub within : Within S (Least R G)
