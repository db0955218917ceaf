-- What the predicates mean.
use Rattle.std.specs.Prelude.{ℕ, Bool, not, ◌==◌, Ok, Result, nat_lt, nat_le}
use Rattle.steps.specs.declared.fault.Fault.{Fault}
use Rattle.sources.specs.declared.block.Block.{Block}
use Rattle.sources.specs.Block.{lasts_at_least}

-- a number below a limit
abbrev pub below : ℕ → ℕ → Result Bool Fault
below limit n = Ok (nat_lt n limit)

-- a number that is a limit or above it
abbrev pub at_least : ℕ → ℕ → Result Bool Fault
at_least limit n = Ok (nat_le limit n)

-- a number other than 0
abbrev pub non_zero : ℕ → Result Bool Fault
non_zero n = Ok (not (n == 0))

-- an item that is the same as another, by the equality of their kind
abbrev pub same_as : {A : Type 0} → (A → A → Bool) → A → A → Result Bool Fault
same_as eq to a = Ok (eq a to)

-- a block that lasts so many minutes or more
abbrev pub lasts : ℕ → Block → Result Bool Fault
lasts minutes b = Ok (lasts_at_least b minutes)
