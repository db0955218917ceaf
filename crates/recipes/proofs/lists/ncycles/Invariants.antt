use Rattle.std.proofs.Common.{◌≡◌, vec_items}
use Rattle.recipes.specs.Lists.{times}
use Rattle.recipes.proofs.lists.ncycles.Given as goal

-- as many passes as were made
abbrev pub invariant-loop : goal.invariant-loop
invariant-loop g l = vec_items l.all ≡ times l.counter (vec_items l.once)
