-- Lawful rows, and which of two rows comes first. A place is a position in a pool, counted from 0; a row is a list of
-- places. A row of no places is lawful wherever rows have no places.
use Rattle.std.specs.Prelude.{◌≡◌, ℕ, ◌*◌, ◌%◌, ◌<◌, ◌≤◌, List, [], length, ◌≢◌, slice_index, slice_index_or}

-- a row of a product of m pools that are repeated q times: m × q places, place i below the length of pool i mod m
pub record ProductRow (lengths : List ℕ) (q : ℕ) (row : List ℕ) : Type 0 where
  pub long : length row ≡ length lengths * q
  pub below : (i : ℕ) → i < length row → slice_index row i < slice_index lengths (i % length lengths)

-- r rising places below n
pub record CombinationRow (n r : ℕ) (row : List ℕ) : Type 0 where
  pub long : length row ≡ r
  pub below : (i : ℕ) → i < r → slice_index row i < n
  pub rising : (i k : ℕ) → i < k → k < r → slice_index row i < slice_index row k

-- r places below n that never fall
pub record ReplacementRow (n r : ℕ) (row : List ℕ) : Type 0 where
  pub long : length row ≡ r
  pub below : (i : ℕ) → i < r → slice_index row i < n
  pub unfalling : (i k : ℕ) → i < k → k < r → slice_index row i ≤ slice_index row k

-- r places below n that all differ
pub record PermutationRow (n r : ℕ) (row : List ℕ) : Type 0 where
  pub long : length row ≡ r
  pub below : (i : ℕ) → i < r → slice_index row i < n
  pub differing : (i k : ℕ) → i < k → k < r → slice_index row i ≢ slice_index row k

-- of two rows, the one with the smaller place where they first differ comes first
pub record Before (xs ys : List ℕ) : Type 0 where
  pub at : ℕ
  pub in_first : at < length xs
  pub in_second : at < length ys
  pub agree : (k : ℕ) → k < at → slice_index xs k ≡ slice_index ys k
  pub smaller : slice_index xs at < slice_index ys at

-- a list of all lawful rows, the earlier first; so each of them stands in it exactly once
pub record AllInOrder (Lawful : List ℕ → Type 0) (rows : List (List ℕ)) : Type 0 where
  pub lawful : (k : ℕ) → k < length rows → Lawful (slice_index_or rows k [])
  pub every : (row : List ℕ) → Lawful row → (k : ℕ) × (k < length rows) × (slice_index_or rows k [] ≡ row)
  pub ascending : (j k : ℕ) → j < k → k < length rows → Before (slice_index_or rows j []) (slice_index_or rows k [])
