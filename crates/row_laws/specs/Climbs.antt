-- Places that climb, of combinations with and without replacement.
use Rattle.std.specs.Prelude.{ℕ, ◌+◌, ◌<◌, ◌≤◌, Bool, true, false, List, slice_index}
use Rattle.row_laws.specs.Successor.{Next, Last}

-- r places below n, of which place k lies at least as far above place i as `lift` says of the two
pub record ClimbingRow (n r : ℕ) (lift : ℕ → ℕ) (xs : List ℕ) : Type 0 where
  pub below : (k : ℕ) → k < r → slice_index xs k < n
  pub apart : (i k : ℕ) → i ≤ k → k < r → slice_index xs i + lift k ≤ slice_index xs k + lift i

-- how far a place of combinations lies above place 0 at least
abbrev pub its_number : ℕ → ℕ
its_number k = k

-- the same with replacement
abbrev pub nothing_above : ℕ → ℕ
nothing_above k = 0

-- what a step makes of climbing places: those of the next row, or none where they are the last
abbrev pub ClimbStepped : ℕ → ℕ → (ℕ → ℕ) → (List ℕ → Type 0) → List ℕ → List ℕ → Bool → Type 0
ClimbStepped n r lift Law before xs true = ClimbingRow n r lift xs × Next Law r before xs
ClimbStepped n r lift Law before xs false = Last Law r before
