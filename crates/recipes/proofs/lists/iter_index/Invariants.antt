use Rattle.std.proofs.Common.{◌≡◌, ◌+◌, ◌++◌, length, vec_items}
use Rattle.laws.specs.Items.{items, faults}
use Rattle.recipes.specs.Lists.{places_of}
use Rattle.recipes.proofs.lists.iter_index.Given as goal

-- the places so far and those of what is still ahead make up all, no fault was met, and as many items were met as the next place says
abbrev pub invariant-loop-places : goal.invariant-loop-places
invariant-loop-places g l =
    (faults (g.S.Source.ahead l.initial.source) ≡ faults (g.S.Source.ahead l.source))
    × (places_of g.S.Item.PartialEq.eq l.value 0 (items (g.S.Source.ahead l.initial.source))
    ≡ vec_items l.places ++ places_of g.S.Item.PartialEq.eq l.value l.place (items (g.S.Source.ahead l.source)))
    × (l.place + length (g.S.Source.ahead l.source) ≡ length (g.S.Source.ahead l.initial.source))

abbrev pub decreases-loop-places : goal.decreases-loop-places
decreases-loop-places g l = length (g.S.Source.ahead l.source)
