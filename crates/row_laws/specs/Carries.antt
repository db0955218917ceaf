-- The counter of a product: how a place is raised, where the pools start in the lent list.
use Rattle.std.specs.Prelude.{◌≡◌, ℕ, ◌+◌, ◌%◌, ◌<◌, ◌≤◌, Bool, true, false, ◌||◌, List, [], ◌∷◌, map, length, take, sum, Some, None, Option, option_map, ◌==◌, slice_index, slice_index_or}
use Rattle.std.specs.List.{flat_map}
use Rattle.row_laws.specs.Calls.{Shown, one_at}
use Rattle.row_laws.specs.Lists.{tuples, ahead_from}
use Rattle.row_laws.specs.Successor.{Agree}

-- whether one of some pools is empty
abbrev pub some_empty : List ℕ → Bool
some_empty [] = false
some_empty (n ∷ ns) = n == 0 || some_empty ns

-- where a counter stands: at its places, and nowhere once they have run out
abbrev pub stands_at : Bool → List ℕ → Option (List ℕ)
stands_at true idxs = None
stands_at false idxs = Some idxs

-- where the pool of place k, pool k mod m, starts in the list that holds the pools one after another
abbrev pub pool_start : List ℕ → ℕ → ℕ
pool_start lengths k = sum (take (k % length lengths) lengths)

-- place j raised by one; those behind it, up to the place `cur`, went back to 0 from their last element; the others as
-- they were
pub record Carried (lengths before after : List ℕ) (cur j : ℕ) : Type 0 where
  pub place : j ≤ cur
  pub front : Agree j before after
  pub up : slice_index after j ≡ slice_index before j + 1
  pub free : slice_index before j + 1 < slice_index lengths j
  pub zeros : (k : ℕ) → j < k → k ≤ cur → slice_index after k ≡ 0
  pub full : (k : ℕ) → j < k → k ≤ cur → slice_index before k + 1 ≡ slice_index lengths k
  pub rest : (k : ℕ) → cur < k → slice_index after k ≡ slice_index before k

-- the places of a counter are below its lengths
abbrev pub Inside : ℕ → List ℕ → List ℕ → Type 0
Inside width lengths idxs = (k : ℕ) → k < width → slice_index idxs k < slice_index lengths k

-- the element at `pool_start` and a place behind it is the element at that place in pool k mod m, where the pools lie one
-- after another in one list
abbrev pub PoolByPool : Type 0 → Type 0
PoolByPool T =
    (pools : List (List T)) (k place : ℕ) → place < length (slice_index_or pools (k % length pools) [])
    → one_at (flat_map (λ pool. pool) pools) (pool_start (map length pools) k + place) ≡ one_at (slice_index_or pools (k % length pools) []) place

-- what a counter shows that stands at its places, or nowhere once they have run out
abbrev pub counter_shown : ℕ → ℕ → List ℕ → List ℕ → List ℕ → Bool → Shown
counter_shown width size starts lengths idxs stop =
    record { ahead = ahead_from (option_map (take width) (stands_at stop idxs)) (tuples (take width lengths)); size = size; width = width; starts = λ k. slice_index starts k }
