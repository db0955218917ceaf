-- When one row comes right after another among the rows of a law: one place rises as little as the law allows, the places
-- before it stay, and those behind it go from as high as they can be to as low as they can be. The rows stand in the
-- first r places of two lists.
use Rattle.std.specs.Prelude.{◌≡◌, ℕ, ◌<◌, ◌≤◌, List, slice_index}

-- two rows agree before the place j
abbrev pub Agree : ℕ → List ℕ → List ℕ → Type 0
Agree j xs ys = (k : ℕ) → k < j → slice_index xs k ≡ slice_index ys k

pub record Next (Law : List ℕ → Type 0) (r : ℕ) (cur next : List ℕ) : Type 0 where
  pub at : ℕ
  pub place : at < r
  pub front : Agree at cur next
  pub up : slice_index cur at < slice_index next at
  pub gap : (y : List ℕ) → Law y → Agree at cur y → slice_index cur at < slice_index y at → slice_index next at ≤ slice_index y at
  pub high : (y : List ℕ) → Law y → (m : ℕ) → at < m → m < r → Agree m cur y → slice_index y m ≤ slice_index cur m
  pub low : (y : List ℕ) → Law y → (m : ℕ) → at < m → m < r → Agree m next y → slice_index next m ≤ slice_index y m

-- no lawful row comes after it: none that agrees with it so far is above it anywhere
abbrev pub Last : (List ℕ → Type 0) → ℕ → List ℕ → Type 0
Last Law r cur = (y : List ℕ) → Law y → (m : ℕ) → m < r → Agree m cur y → slice_index y m ≤ slice_index cur m

-- no lawful row comes before it
abbrev pub First : (List ℕ → Type 0) → ℕ → List ℕ → Type 0
First Law r cur = (y : List ℕ) → Law y → (m : ℕ) → m < r → Agree m cur y → slice_index cur m ≤ slice_index y m
