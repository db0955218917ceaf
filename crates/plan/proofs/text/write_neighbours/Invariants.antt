use Rattle.std.proofs.Common.{length, nat_eq}
use Rattle.std.specs.List.{flat_map}
use Rattle.std.specs.HashMap.{get}
use Rattle.laws.specs.Items.{items}
use Rattle.sources.specs.Records.{records_from}
use Rattle.plan.specs.Bays.{joints}
use Rattle.plan.specs.Text.{joint_line, joints_text}
use Rattle.plan.proofs.TextLemmas.{Told}
use Rattle.plan.proofs.text.write_neighbours.Given as goal

-- what was written and the lines of what is ahead make up the whole
abbrev pub invariant-loop-block : goal.invariant-loop-block
invariant-loop-block g l =
    Told (g.W.Write.contents l.initial.out) (g.W.Write.contents l.out) (joints_text (items (records_from l.bytes 0)))
    (flat_map joint_line (joints l.bays.last (get nat_eq l.bays.standings) (items (records_from l.records.frames.bytes.now l.records.frames.at))))

abbrev pub decreases-loop-block : goal.decreases-loop-block
decreases-loop-block g l = length (records_from l.records.frames.bytes.now l.records.frames.at)
