use Rattle.std.proofs.Common.{length}
use Rattle.laws.specs.Items.{faults}
use Rattle.sources.specs.Records.{records_from}
use Rattle.plan.specs.Text.{faults_text}
use Rattle.plan.proofs.TextLemmas.{Told}
use Rattle.plan.proofs.text.write_faults.Given as goal

-- what was written and the lines of what is ahead make up the whole
abbrev pub invariant-loop-fault : goal.invariant-loop-fault
invariant-loop-fault g l =
    Told (g.W.Write.contents l.initial.out) (g.W.Write.contents l.out)
    (faults_text (faults (records_from l.bytes 0))) (faults_text (faults (records_from l.records.frames.bytes.now l.records.frames.at)))

abbrev pub decreases-loop-fault : goal.decreases-loop-fault
decreases-loop-fault g l = length (records_from l.records.frames.bytes.now l.records.frames.at)
