-- The subsets of a pool, as rows of places: a place is a position in the pool, counted from 0.
use Rattle.std.specs.Prelude.{◌≡◌, ℕ, zero, suc, ◌+◌, ◌<◌, ◌⊎◌, List, [], ◌++◌, length, slice_index_or}
use Rattle.row_laws.specs.Lawful.{Before, CombinationRow}
use Rattle.row_laws.specs.Lists.{combination_rows}

-- the rows of fewer than so many places below n, those of fewer places first
abbrev pub rows_below : ℕ → ℕ → List (List ℕ)
rows_below n zero = []
rows_below n (suc r) = rows_below n r ++ combination_rows n r

-- those of at most n places
abbrev pub subset_rows : ℕ → List (List ℕ)
subset_rows n = rows_below n (n + 1)

-- rising places below n
abbrev pub Subset : ℕ → List ℕ → Type 0
Subset n row = CombinationRow n (length row) row

-- of two rows, the one with fewer places comes first, and of two with as many the one with the smaller place where they first differ
abbrev pub Sooner : List ℕ → List ℕ → Type 0
Sooner xs ys = (length xs < length ys) ⊎ ((length xs ≡ length ys) × Before xs ys)

-- a list of all subsets of n places, the sooner first; so each of them stands in it exactly once
pub record AllSubsets (n : ℕ) (rows : List (List ℕ)) : Type 0 where
  pub lawful : (k : ℕ) → k < length rows → Subset n (slice_index_or rows k [])
  pub every : (row : List ℕ) → Subset n row → (k : ℕ) × (k < length rows) × (slice_index_or rows k [] ≡ row)
  pub ascending : (j k : ℕ) → j < k → k < length rows → Sooner (slice_index_or rows j []) (slice_index_or rows k [])
