use Rattle.std.proofs.Common.{◌≡◌, List, ◌∷◌, ◌++◌, Ok, sym, ap, ◌∙◌}
use Rattle.laws.specs.Items.{items}
use Rattle.steps.specs.Steps.{Step, rest}
use Rattle.sources.specs.Records.{records_from}
use Rattle.sources.specs.declared.block.Block.{Block}
use Rattle.plan.specs.Text.{block_line, blocks_text}
use Rattle.plan.proofs.AccountLemmas.{at_item}
use Rattle.plan.proofs.TextLemmas.{told_more}
use Rattle.plan.proofs.text.write_blocks.Goals as goal

pub loop-block-preserved-in-Continue-1 : goal.loop-block-preserved-in-Continue-1
loop-block-preserved-in-Continue-1 g c =
    let ss = records_from c.loop-block.records.frames.bytes.now c.loop-block.records.frames.at in
    let b = c.in-Ok-Item.block in
    let cut : ss ≡ Ok b ∷ rest ss = at_item b ss (sym c.next.ensures.gives ∙ c.in-Ok-Item.is ∙ ap Ok c.in-Ok-Item.field-0-is) in
    let line : blocks_text (items ss) ≡ block_line b ++ blocks_text (items (records_from c.next.new.self.frames.bytes.now c.next.new.self.frames.at)) =
    ap (λ (us : List (Step Block)). blocks_text (items us)) cut ∙ ap (λ (us : List (Step Block)). block_line b ++ blocks_text (items us)) (sym c.next.ensures.leaves) in
    told_more _ _ _ _ _ (block_line b) _ c.loop-block.invariant c.in_ok-write-in-Ok-Item.ensures.bytes line
