use Rattle.std.proofs.Common.{◌≡◌, map, length, vec_items}
use Rattle.row_laws.specs.Calls.{picked}
use Rattle.recipes.specs.Subsets.{rows_below}
use Rattle.recipes.proofs.subsets.powerset.Given as goal

-- the subsets of fewer elements than those that come next
abbrev pub invariant-loop-r : goal.invariant-loop-r
invariant-loop-r g l = map vec_items (vec_items l.rows) ≡ map (picked l.pool) (rows_below (length l.pool) l.r)
