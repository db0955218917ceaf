-- What a groupby means.
use Rattle.std.specs.Prelude.{ℕ, Bool, List, Result}
use Rattle.steps.specs.Steps.{Step}
use Rattle.steps.specs.declared.fault.Fault.{Fault}
use Rattle.laws.specs.GroupBy.{Standing, Opening, group_call, Taking, item_call, group_ahead, Grouping}
use Rattle.groups.specs.declared.groupby.GroupBy.{GroupBy}

-- where it stands, its source, and its key kind
abbrev pub standing : {S K A Q : Type 0} → GroupBy S K A Q → Standing A Q
standing g = record {
  current_value = g.state.current_value;
  current_key = g.state.current_key;
  next_group = g.state.next_group;
  grouper = g.state.grouper;
  given = g.state.given;
}

abbrev pub below : {S K A Q : Type 0} → GroupBy S K A Q → S
below g = g.source

abbrev pub keying : {S K A Q : Type 0} → GroupBy S K A Q → K
keying g = g.keys

module _ {S K A Q : Type 0} (key : K → A → Result Q Fault) (ahead : S → List (Step A)) where
  abbrev pub shown : GroupBy S K A Q → Grouping A Q
  shown g = record { key = key g.keys; standing = standing g; ahead = ahead g.source }

  module _ (same : Q → Q → Bool) (g : GroupBy S K A Q) where
    -- a group call
    abbrev pub opening : Opening A Q
    opening = group_call (key g.keys) same (standing g) (ahead g.source)

    -- an item call
    abbrev pub taking : ℕ → Taking A Q
    taking n = item_call (key g.keys) same (standing g) n (ahead g.source)

    -- the steps ahead in the items of a group
    abbrev pub items_ahead : ℕ → List (Step A)
    items_ahead n = group_ahead (key g.keys) same (standing g) n (ahead g.source)
