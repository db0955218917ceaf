-- The numbers from a start to below a stop.
use Rattle.std.specs.Prelude.{◌≡◌, ℕ, zero, suc, ◌+◌, ◌-◌, cond, List, [], ◌∷◌, map, Some, None, nat_lt}
use Rattle.steps.specs.Steps.{Step, item}
use Rattle.std.specs.List.{slice_get}

-- n numbers from a start on
abbrev pub count_up : ℕ → ℕ → List ℕ
count_up zero start = []
count_up (suc n) start = start ∷ count_up n (start + 1)

abbrev pub numbers : ℕ → ℕ → List (Step ℕ)
numbers start stop = map item (count_up (stop - start) start)

-- the k-th is start + k, as long as that is below stop
abbrev pub EachBelow : ℕ → ℕ → List (Step ℕ) → Type 0
EachBelow start stop gives = (k : ℕ) → slice_get gives k ≡ cond (nat_lt (start + k) stop) (Some (item (start + k))) None
