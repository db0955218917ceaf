use Rattle.std.proofs.Common.{◌≡◌, ◌++◌, map, Ok, length, vec_items}
use Rattle.recipes.proofs.lists.list_of.Given as goal

-- the items so far and what is still ahead make up what was ahead
abbrev pub invariant-loop-items : goal.invariant-loop-items
invariant-loop-items g l = g.S.Source.ahead l.initial.source ≡ map Ok (vec_items l.items) ++ g.S.Source.ahead l.source

abbrev pub decreases-loop-items : goal.decreases-loop-items
decreases-loop-items g l = length (g.S.Source.ahead l.source)
