-- The row that a call shows.
use Rattle.std.proofs.Common.{◌≡◌, ℕ, ◌-◌, List, take}
use native.Mathlib.Nat.{sub-zero}
use borrow.Rule.Slice.PartMut.{mid_of}

-- `&xs[0..n]`
pub part_front : {X : Type 0} (n : ℕ) (xs : List X) → mid_of 0 (n - 0) xs ≡ take n xs
part_front n xs = rw sub-zero
