use Rattle.std.proofs.Common.{◌≡◌, ◌-◌, ◌++◌, replicate, vec_items}
use Rattle.recipes.proofs.lists.grouper.Given as goal

-- as many fills as places were gone over
abbrev pub invariant-loop : goal.invariant-loop
invariant-loop g l = vec_items l.items ≡ vec_items l.initial.items ++ replicate (l.counter - l.over) l.fill
