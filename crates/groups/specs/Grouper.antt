-- What the items of a group hold.
use Rattle.std.specs.Prelude.{ℕ}
use Rattle.groups.specs.declared.groupby.GroupBy.{GroupBy}
use Rattle.groups.specs.declared.grouper.Grouper.{Grouper}

-- the groupby that is lent, the name of its loan, and the number of the group
abbrev pub lent : {S K A Q : Type 0} → Grouper S K A Q → GroupBy S K A Q
lent s = s.groups.now

abbrev pub loan : {S K A Q : Type 0} → Grouper S K A Q → ℕ
loan s = s.groups.ghost_name

abbrev pub number_of : {S K A Q : Type 0} → Grouper S K A Q → ℕ
number_of s = s.number
