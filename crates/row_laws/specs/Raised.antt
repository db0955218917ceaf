-- One place raised by one and those to its right as low as they then can be, where those were as high as they can be.
-- `lift k` is how far place k lies above place 0 at least: k in combinations, 0 with replacement.
use Rattle.std.specs.Prelude.{◌≡◌, ℕ, ◌+◌, ◌-◌, ◌<◌, ◌≤◌, List, slice_index}

pub record Raised (n r : ℕ) (lift : ℕ → ℕ) (i : ℕ) (xs ys : List ℕ) : Type 0 where
  pub place : i < r
  pub free : slice_index xs i + lift (r - 1) + 1 < n + lift i
  pub front : (k : ℕ) → k < i → slice_index ys k ≡ slice_index xs k
  pub low : (k : ℕ) → i ≤ k → k < r → slice_index ys k + lift i ≡ slice_index xs i + 1 + lift k
  pub high : (k : ℕ) → i < k → k < r → n + lift k ≤ slice_index xs k + lift (r - 1) + 1
