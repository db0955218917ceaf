use Rattle.std.proofs.Common.{true, false, Ok, sym, ap, ◌∙◌}
use Rattle.laws.specs.Items.{items}
use Rattle.sources.specs.Records.{records_from}
use Rattle.plan.proofs.PassLemmas.{at_end, at_fault, at_denied, told, all_sound}
use Rattle.plan.proofs.MinutesLemmas.{no_ten_minutes, lasting_records}
use Rattle.plan.proofs.pass.passes.Goals as goal

pub returns-then-not-may_follow-clause-verdict : goal.returns-then-not-may_follow-clause-verdict
returns-then-not-may_follow-clause-verdict c =
    told false (records_from c.args.bytes.now 0)
    (c.loop-block.invariant ∙ at_denied c.loop-block.last c.in-Ok-Item.block _ (sym c.next.ensures.gives ∙ c.in-Ok-Item.is ∙ ap Ok c.in-Ok-Item.field-0-is) (sym c.may_follow.ensures ∙ c.if-not-may_follow.true))

pub returns-in-Ok-End-clause-verdict : goal.returns-in-Ok-End-clause-verdict
returns-in-Ok-End-clause-verdict c =
    told true (records_from c.args.bytes.now 0)
    (c.loop-block.invariant ∙ at_end c.loop-block.last _ (sym c.next.ensures.gives ∙ c.in-Ok-End.is ∙ ap Ok c.in-Ok-End.field-0-is))

pub returns-in-Ok-End-clause-minutes : goal.returns-in-Ok-End-clause-minutes
returns-in-Ok-End-clause-minutes c = λ e.
    no_ten_minutes (items (records_from c.args.bytes.now 0)) (lasting_records c.args.bytes.now 0)
    (all_sound (records_from c.args.bytes.now 0)
    (c.loop-block.invariant ∙ at_end c.loop-block.last _ (sym c.next.ensures.gives ∙ c.in-Ok-End.is ∙ ap Ok c.in-Ok-End.field-0-is))).1

pub returns-in-Err-clause-verdict : goal.returns-in-Err-clause-verdict
returns-in-Err-clause-verdict c =
    told false (records_from c.args.bytes.now 0)
    (c.loop-block.invariant ∙ at_fault c.loop-block.last c.in-Err.field-0 _ (sym c.next.ensures.gives ∙ c.in-Err.is))
