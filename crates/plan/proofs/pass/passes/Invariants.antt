use Rattle.std.proofs.Common.{◌≡◌, length, None}
use Rattle.sources.specs.Records.{records_from}
use Rattle.plan.specs.Pass.{all_follow}
use Rattle.plan.proofs.pass.passes.Given as goal

-- whether all follow hangs on the block before and on what is ahead alone
abbrev pub invariant-loop-block : goal.invariant-loop-block
invariant-loop-block l = all_follow None (records_from l.bytes 0) ≡ all_follow l.last (records_from l.records.frames.bytes.now l.records.frames.at)

abbrev pub decreases-loop-block : goal.decreases-loop-block
decreases-loop-block l = length (records_from l.records.frames.bytes.now l.records.frames.at)
