use Rattle.std.proofs.Common.{length}
use Rattle.bench.proofs.items.total.Given as goal

abbrev pub decreases-loop-item : goal.decreases-loop-item
decreases-loop-item g l = length (g.S.Source.ahead l.source)
