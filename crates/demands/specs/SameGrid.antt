-- Grids that differ only in their signs for a blank are one grid.
use Rattle.std.specs.Prelude.{◌≡◌, List, ℕ, ℤ, Ok}
use Rattle.grid.specs.Grid.{digits_of}
use Rattle.grid.specs.Refusals.{bytes_check, grid_check}
use Rattle.grid.specs.Completion.{completion_call}
use Rattle.inference.specs.Call.{job_call}
use Rattle.search.specs.Call.{search_call}
use Rattle.grading.specs.Grade.{grade_call}
use Rattle.batch.specs.Call.{batch_call}
use Rattle.listing.specs.Listing.{listed}

-- each call that takes a grid gives back the same for both
pub record SameCalls (g h : List ℕ) : Type 0 where
  pub completions : (candidate : List ℕ) → completion_call g candidate ≡ completion_call h candidate
  pub jobs : (technique : ℕ) (order : List ℤ) (ceiling : ℕ) (marks : List ℕ) → job_call g technique order ceiling marks ≡ job_call h technique order ceiling marks
  pub searches : (first second : List ℕ) → search_call g first second ≡ search_call h first second
  pub gradings : (order : List ℤ) (ceiling : ℕ) (completion : List ℕ) → grade_call g order ceiling completion ≡ grade_call h order ceiling completion
  pub lines : (number : ℕ) → listed number g ≡ listed number h

-- a batch call gives back the same for both, bytes of grids end to end
abbrev pub SameBatches : List ℕ → List ℕ → Type 0
SameBatches g h =
    (technique : ℕ) (order : List ℤ) (ceiling : ℕ) (marks answers : List ℕ)
    → batch_call g technique order ceiling marks answers ≡ batch_call h technique order ceiling marks answers

-- Two grids that the keyer's check accepts and that say the same digits are one grid; so are the grids of a batch.
pub record SameGrid : Type 0 where
  pub grids : (g h : List ℕ) → grid_check g ≡ Ok tt → grid_check h ≡ Ok tt → digits_of g ≡ digits_of h → SameCalls g h
  pub batches : (g h : List ℕ) → bytes_check g ≡ Ok tt → bytes_check h ≡ Ok tt → digits_of g ≡ digits_of h → SameBatches g h
