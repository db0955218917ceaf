-- What is written and what is still to be written make the whole text; after an end nothing is ahead.
-- A call that answers a step shortens what is ahead.
use Rattle.std.proofs.Common.{◌≡◌, ◌-◌, ◌<◌, [], ◌++◌, length, string_bytes}
use Rattle.replay.specs.Lines.{transcript}
use Rattle.replay.proofs.play.play.Given as goal

abbrev pub invariant-loop : goal.invariant-loop
invariant-loop g l = record {
  ended : 0 < l.counter → g.S.Source.ahead l.source ≡ [];
  told : string_bytes l.out ++ transcript g.S.Item.Show.line (3 - l.counter) (g.S.Source.ahead l.source) ≡
      string_bytes l.fn.out ++ transcript g.S.Item.Show.line 3 (g.S.Source.ahead l.fn.source);
}

abbrev pub invariant-loop-2 : goal.invariant-loop-2
invariant-loop-2 g l = record {
  ended : 0 < l.counter → g.S.Source.ahead l.source ≡ [];
  told : string_bytes l.out ++ transcript g.S.Item.Show.line (3 - l.counter) (g.S.Source.ahead l.source) ≡
      string_bytes l.fn.out ++ transcript g.S.Item.Show.line 3 (g.S.Source.ahead l.fn.source);
}

abbrev pub decreases-loop-2 : goal.decreases-loop-2
decreases-loop-2 g l = length (g.S.Source.ahead l.source)
