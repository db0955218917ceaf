use Rattle.std.proofs.Common.{length}
use Rattle.bench.proofs.items.pairs.Given as goal

abbrev pub decreases-loop-left : goal.decreases-loop-left
decreases-loop-left g l = length (g.S.Source.ahead l.source)
