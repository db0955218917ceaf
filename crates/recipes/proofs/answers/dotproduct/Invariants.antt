use Rattle.std.proofs.Common.{◌≡◌, length}
use Rattle.adapters.specs.ZipLongest.{zip_ahead}
use Rattle.recipes.specs.Answers.{dot_of}
use Rattle.recipes.proofs.answers.dotproduct.Given as goal

-- the sum of all is the sum so far and that of those ahead
abbrev pub invariant-loop-sides : goal.invariant-loop-sides
invariant-loop-sides g l = dot_of l.total (zip_ahead g.A.Source.ahead g.B.Source.ahead l.sides) ≡ dot_of 0 (zip_ahead g.A.Source.ahead g.B.Source.ahead l.initial.sides)

abbrev pub decreases-loop-sides : goal.decreases-loop-sides
decreases-loop-sides g l = length (zip_ahead g.A.Source.ahead g.B.Source.ahead l.sides)
