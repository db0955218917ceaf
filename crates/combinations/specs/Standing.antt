-- What the record of climbing rows means, by the kind of its rows.
use Rattle.std.specs.Prelude.{ℕ, List}
use Rattle.std.specs.Option.{ForSome}
use Rattle.row_laws.specs.Calls.{Shown}
use Rattle.row_laws.specs.Standing.{one_pool}
use Rattle.row_laws.specs.Climbs.{ClimbingRow}
use Rattle.combinations.specs.declared.state.Climbing.{Climbing}

-- what it shows: of all rows of the kind, those that do not come before the row where it stands
abbrev pub shown_by : (ℕ → ℕ → List (List ℕ)) → Climbing → Shown
shown_by rows s = one_pool (rows s.choice.n s.choice.r) s.choice.n s.choice.r s.indices

-- the places of that row climb as those of the kind do
abbrev pub Climbs : (ℕ → ℕ) → Climbing → Type 0
Climbs above s = ForSome s.indices (λ xs. ClimbingRow s.choice.n s.choice.r above xs)
