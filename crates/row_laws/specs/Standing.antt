-- What an enumerator shows that stands at a row.
use Rattle.std.specs.Prelude.{ℕ, List, take, Option, option_map}
use Rattle.row_laws.specs.Lists.{ahead_from}
use Rattle.row_laws.specs.Calls.{Shown, at_front_of_pool}

-- rows of r places from one pool of n elements, at the first r places of a list, or at none
abbrev pub one_pool : List (List ℕ) → ℕ → ℕ → Option (List ℕ) → Shown
one_pool rows n r at = record { ahead = ahead_from (option_map (take r) at) rows; size = n; width = r; starts = at_front_of_pool }
