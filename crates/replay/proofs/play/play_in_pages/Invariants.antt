-- A call that answers a step shortens what is ahead.
use Rattle.std.proofs.Common.{length}
use Rattle.replay.proofs.play.play_in_pages.Given as goal

abbrev pub decreases-loop-out : goal.decreases-loop-out
decreases-loop-out g l = length (g.S.Source.ahead l.source)
