use Rattle.std.proofs.Common.{length, nat_eq}
use Rattle.std.specs.HashMap.{get}
use Rattle.sources.specs.Records.{records_from}
use Rattle.plan.proofs.AccountLemmas.{Counted}
use Rattle.plan.proofs.account.check.Given as goal

-- what was counted and what is ahead make up the whole
abbrev pub invariant-loop-block : goal.invariant-loop-block
invariant-loop-block l =
    Counted (records_from l.bytes 0) l.account l.bays.last (get nat_eq l.bays.standings) (records_from l.records.frames.bytes.now l.records.frames.at)

abbrev pub decreases-loop-block : goal.decreases-loop-block
decreases-loop-block l = length (records_from l.records.frames.bytes.now l.records.frames.at)
