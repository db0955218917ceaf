use Rattle.std.proofs.Common.{◌≡◌, ◌++◌, length, vec_items}
use Rattle.std.specs.Option.{option_eq}
use Rattle.sources.specs.contracts.block.BlockPartialEq.TheImpl.{eq-value}
use Rattle.laws.specs.Items.{items, faults}
use Rattle.adapters.specs.ZipLongest.{zip_ahead}
use Rattle.recipes.specs.Lists.{differing}
use Rattle.recipes.proofs.depot.deviations.Given as goal

-- what differs so far and in what is still ahead makes up all, and no fault was met
abbrev pub invariant-loop-sides : goal.invariant-loop-sides
invariant-loop-sides g l =
    (faults (zip_ahead g.P.Source.ahead g.A.Source.ahead l.initial.sides) ≡ faults (zip_ahead g.P.Source.ahead g.A.Source.ahead l.sides))
    × (differing (option_eq eq-value.it) (items (zip_ahead g.P.Source.ahead g.A.Source.ahead l.initial.sides))
    ≡ vec_items l.differ ++ differing (option_eq eq-value.it) (items (zip_ahead g.P.Source.ahead g.A.Source.ahead l.sides)))

abbrev pub decreases-loop-sides : goal.decreases-loop-sides
decreases-loop-sides g l = length (zip_ahead g.P.Source.ahead g.A.Source.ahead l.sides)
