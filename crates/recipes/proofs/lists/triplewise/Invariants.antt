use Rattle.std.proofs.Common.{◌≡◌, ◌++◌, map, length, vec_items}
use Rattle.laws.specs.Items.{items, faults}
use Rattle.laws.specs.Pairwise.{unpaired}
use Rattle.adapters.specs.Pairwise.{pairwise_ahead}
use Rattle.recipes.proofs.ListLemmas.{in_a_row}
use Rattle.recipes.proofs.lists.triplewise.Given as goal

-- the triples so far and those that are still ahead make up all, and no fault was met
abbrev pub invariant-loop-pairs : goal.invariant-loop-pairs
invariant-loop-pairs g l =
    (map in_a_row (items (unpaired (unpaired (g.S.Source.ahead l.fn.source))))
    ≡ vec_items l.triples ++ map in_a_row (items (pairwise_ahead (pairwise_ahead g.S.Source.ahead) l.pairs)))
    × (faults (unpaired (unpaired (g.S.Source.ahead l.fn.source))) ≡ faults (pairwise_ahead (pairwise_ahead g.S.Source.ahead) l.pairs))

abbrev pub decreases-loop-pairs : goal.decreases-loop-pairs
decreases-loop-pairs g l = length (pairwise_ahead (pairwise_ahead g.S.Source.ahead) l.pairs)
