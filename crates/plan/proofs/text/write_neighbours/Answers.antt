use Rattle.std.proofs.Common.{◌≡◌, List, ◌∷◌, ◌++◌, Ok, sym, ap, ◌∙◌, nat_eq}
use Rattle.std.specs.List.{flat_map}
use Rattle.std.specs.HashMap.{get}
use Rattle.laws.specs.Items.{items}
use Rattle.steps.specs.Steps.{Step, rest}
use Rattle.sources.specs.Records.{records_from}
use Rattle.sources.specs.declared.block.Block.{Block}
use Rattle.plan.specs.Bays.{joints}
use Rattle.plan.specs.Text.{joint_line, laid_lines}
use Rattle.plan.proofs.AccountLemmas.{at_item}
use Rattle.plan.proofs.TextLemmas.{told_more, laid_more}
use Rattle.plan.proofs.text.write_neighbours.Goals as goal

pub loop-block-preserved-in_ok-write-in-Ok-Item : goal.loop-block-preserved-in_ok-write-in-Ok-Item
loop-block-preserved-in_ok-write-in-Ok-Item g c =
    let ss = records_from c.loop-block.records.frames.bytes.now c.loop-block.records.frames.at in
    let more = records_from c.next.new.self.frames.bytes.now c.next.new.self.frames.at in
    let b = c.in-Ok-Item.block in
    let bays = get nat_eq c.loop-block.bays.standings in
    let news = get nat_eq c.lay.new.self.standings in
    let l = c.in_ok-lay-in-Ok-Item.field-0 in
    let laid = c.in_ok-lay-in-Ok-Item.ensures in
    let cut : ss ≡ Ok b ∷ rest ss = at_item b ss (sym c.next.ensures.gives ∙ c.in-Ok-Item.is ∙ ap Ok c.in-Ok-Item.field-0-is) in
    let line : flat_map joint_line (joints c.loop-block.bays.last bays (items ss)) ≡ laid_lines l ++ flat_map joint_line (joints c.lay.new.self.last news (items more)) =
    ap (λ (us : List (Step Block)). flat_map joint_line (joints c.loop-block.bays.last bays (items us))) cut
    ∙ laid_more c.loop-block.bays.last c.lay.new.self.last bays news b (items (rest ss)) l laid.laid laid.last laid.stands
    ∙ ap (λ (us : List (Step Block)). laid_lines l ++ flat_map joint_line (joints c.lay.new.self.last news (items us))) (sym c.next.ensures.leaves) in
    told_more _ _ _ _ _ (laid_lines l) _ c.loop-block.invariant c.in_ok-write-in-Ok-Item.ensures.bytes line
