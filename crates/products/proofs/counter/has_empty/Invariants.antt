use Rattle.std.proofs.Common.{◌≡◌, drop}
use Rattle.row_laws.specs.Carries.{some_empty}
use Rattle.products.proofs.counter.has_empty.Given as goal

abbrev pub invariant-loop-length : goal.invariant-loop-length
invariant-loop-length l = some_empty (drop l.length-index l.lengths) ≡ some_empty l.lengths
