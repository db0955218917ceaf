use Rattle.std.proofs.Common.{◌≡◌, ◌+◌, ◌≤◌, ◌++◌, false, map, Ok, None, length, vec_items}
use Rattle.laws.specs.GroupBy.{keyed}
use Rattle.laws.specs.Items.{faults}
use Rattle.groups.specs.GroupBy.{standing, below, keying}
use Rattle.recipes.proofs.RunLemmas.{heads}
use Rattle.recipes.proofs.lists.unique_justseen.Given as goal

-- the first items so far and those of the runs still ahead are all, no item waits, no fault was met, of the source or of the key kind,
-- and each group had an item
abbrev pub invariant-loop-groups : goal.invariant-loop-groups
invariant-loop-groups g l =
    let key = g.K.Keying.key (keying l.initial.groups) in
    ((standing l.groups).next_group ≡ false) × (keying l.groups ≡ keying l.initial.groups)
    × (heads key g.K.Key.PartialEq.eq None (g.S.Source.ahead (below l.initial.groups))
    ≡ map Ok (vec_items l.firsts) ++ heads key g.K.Key.PartialEq.eq (standing l.groups).current_key (g.S.Source.ahead (below l.groups)))
    × (faults (keyed key (g.S.Source.ahead (below l.initial.groups))) ≡ faults (keyed key (g.S.Source.ahead (below l.groups))))
    × ((standing l.groups).given + length (g.S.Source.ahead (below l.groups)) ≤ length (g.S.Source.ahead (below l.initial.groups)))

abbrev pub decreases-loop-groups : goal.decreases-loop-groups
decreases-loop-groups g l = length (g.S.Source.ahead (below l.groups))
