use Rattle.std.proofs.Common.{◌≡◌, ◌++◌, map, length, vec_items}
use Rattle.row_laws.specs.Calls.{picked}
use Rattle.row_laws.specs.Lists.{combination_rows}
use Rattle.combinations.specs.Standing.{shown_by}
use Rattle.recipes.proofs.subsets.push_combinations.Given as goal

-- the rows so far and those still ahead make up all, and there is room for a row
abbrev pub invariant-loop-elements : goal.invariant-loop-elements
invariant-loop-elements g l =
    let v = shown_by combination_rows l.chosen.climbing in
    (v.size ≡ length l.pool) × (v.width ≡ l.r) × (length (vec_items l.elements) ≡ length l.pool)
    × (map vec_items (vec_items l.rows) ++ map (picked l.pool) v.ahead
    ≡ map vec_items (vec_items l.initial.rows) ++ map (picked l.pool) (combination_rows (length l.pool) l.r))

abbrev pub decreases-loop-elements : goal.decreases-loop-elements
decreases-loop-elements g l = length (shown_by combination_rows l.chosen.climbing).ahead
