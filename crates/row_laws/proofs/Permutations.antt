-- Any state of permutations that stands at a row: what it shows, and what a turn of its cycles makes of that.
use Rattle.std.proofs.Common.{◌≡◌, ℕ, ◌≤◌, true, false, List, [], ◌∷◌, length, take, Option, Some, None, arith}
use Rattle.row_laws.specs.Lawful.{PermutationRow}
use Rattle.row_laws.specs.Lists.{permutation_rows}
use Rattle.row_laws.specs.Calls.{leaving, other_rows}
use Rattle.row_laws.specs.Cycles.{Cycling, CyclesStepped}
use Rattle.row_laws.specs.Standing.{one_pool}
use Rattle.row_laws.proofs.Families.{permutations_listed}
use Rattle.row_laws.proofs.Cycles.{cycling_row}
use Rattle.row_laws.proofs.Standing.{shown, some_ahead, stepped, stopped}

module _ (n r : ℕ) (at : Option (List ℕ)) (xs cs : List ℕ) (is : at ≡ Some xs) (fit : r ≤ n) (room : n ≤ length xs) (cycling : Cycling n r xs cs) where
  its_row : PermutationRow n r (take r xs)
  its_row = cycling_row n r xs cs fit room cycling

  pub cycles_show : (one_pool (permutation_rows n r) n r at).ahead ≡ take r xs ∷ other_rows (one_pool (permutation_rows n r) n r at).ahead
  cycles_show = shown (PermutationRow n r) r (permutation_rows n r) (permutations_listed n r) at xs is its_row

  pub cycles_stood : {P : Type 0} → (one_pool (permutation_rows n r) n r at).ahead ≡ [] → P
  cycles_stood none = some_ahead (PermutationRow n r) r (permutation_rows n r) (permutations_listed n r) at xs is its_row none

  pub cycles_stepped : (ys ds : List ℕ) → length ys ≡ length xs → CyclesStepped n r xs ys ds true → one_pool (permutation_rows n r) n r (Some ys) ≡ leaving 1 (one_pool (permutation_rows n r) n r at)
  cycles_stepped ys ds long h = stepped (PermutationRow n r) r (permutation_rows n r) (permutations_listed n r) n at xs ys is (omega arith) (omega arith) its_row h.1

  pub cycles_ended : (ys ds : List ℕ) → CyclesStepped n r xs ys ds false → one_pool (permutation_rows n r) n r None ≡ leaving 1 (one_pool (permutation_rows n r) n r at)
  cycles_ended ys ds h = stopped (PermutationRow n r) r (permutation_rows n r) (permutations_listed n r) n at xs is (omega arith) its_row h
