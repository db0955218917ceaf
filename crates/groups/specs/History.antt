-- A call of the runner, as the memory that it stands for.
use Rattle.std.specs.Prelude.{List, map, Option, Some, None}
use Rattle.laws.specs.GroupBy.{Memory, GroupCall, ItemCall}
use Rattle.laws.specs.GroupBy as by
use Rattle.groups.specs.declared.history.Ask.{Ask}
use Rattle.groups.specs.declared.history.Ask.TheVariants.{Group, Item}
use Rattle.groups.specs.declared.history.Told.{Told}
use Rattle.groups.specs.declared.history.Told.TheVariants.{Opened, Given}
use Rattle.groups.specs.declared.history.Call.{Call}

abbrev pub asked : Ask → by.Ask
asked Group = GroupCall
asked (Item n) = ItemCall n

abbrev pub told : {A Q : Type 0} → Option (Told A Q) → Option (by.Told A Q)
told None = None
told (Some (Opened r)) = Some (by.Opened r)
told (Some (Given r)) = Some (by.Given r)

abbrev pub memory : {A Q : Type 0} → Call A Q → Memory A Q
memory call = record { ask = asked call.ask; told = told call.told }

abbrev pub memories : {A Q : Type 0} → List (Call A Q) → List (Memory A Q)
memories calls = map memory calls
