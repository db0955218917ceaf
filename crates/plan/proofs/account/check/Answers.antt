use Rattle.std.proofs.Common.{◌≡◌, ◌↔◌, IsTrue, ◌<◌, ◌+◌, ◌^◌, length, Option, Some, [], ◌∷◌, nat_eq, Ok, Err, sym, ap, subst, ◌∙◌, arith, rules}
use Rattle.std.specs.HashMap.{get}
use Rattle.steps.specs.Steps.{rest}
use Rattle.sources.specs.Records.{records_from}
use Rattle.sources.specs.declared.block.Block.{Block}
use Rattle.plan.specs.Pass.{Passes}
use Rattle.plan.specs.Account.{account_of, all_clear}
use Rattle.plan.proofs.AccountLemmas.{Counted, at_item, at_fault, at_end, counted_block, block_fits, fault_fits, records_few, all_counted, clear_passes}
use Rattle.plan.proofs.account.check.Goals as goal

pub with_block-account-requires : goal.with_block-account-requires
with_block-account-requires c =
    let all = records_from c.args.bytes.now 0 in
    let ss = records_from c.loop-block.records.frames.bytes.now c.loop-block.records.frames.at in
    let b = c.in-Ok-Item.block in
    let cut : ss ≡ Ok b ∷ rest ss = at_item b ss (sym c.next.ensures.gives ∙ c.in-Ok-Item.is ∙ ap Ok c.in-Ok-Item.field-0-is) in
    let small : length all < 2 ^ 64 = omega (arith, records_few c.args.bytes.now, c.well_formed) in
    block_fits all _ _ _ b (rest ss) (subst (Counted all c.loop-block.account c.loop-block.bays.last (get nat_eq c.loop-block.bays.standings)) cut c.loop-block.invariant) small

pub loop-block-preserved-in-Ok-Item : goal.loop-block-preserved-in-Ok-Item
loop-block-preserved-in-Ok-Item c =
    let all = records_from c.args.bytes.now 0 in
    let ss = records_from c.loop-block.records.frames.bytes.now c.loop-block.records.frames.at in
    let b = c.in-Ok-Item.block in
    let cut : ss ≡ Ok b ∷ rest ss = at_item b ss (sym c.next.ensures.gives ∙ c.in-Ok-Item.is ∙ ap Ok c.in-Ok-Item.field-0-is) in
    let here = subst (Counted all c.loop-block.account c.loop-block.bays.last (get nat_eq c.loop-block.bays.standings)) cut c.loop-block.invariant in
    let laid = c.in_ok-lay-in-Ok-Item.ensures in
    let on : Counted all c.with_block-account.result (Some b) (get nat_eq c.lay.new.self.standings) (rest ss) =
    counted_block all c.loop-block.account c.with_block-account.result c.loop-block.bays.last (get nat_eq c.loop-block.bays.standings) (get nat_eq c.lay.new.self.standings) b (rest ss) c.in_ok-lay-in-Ok-Item.field-0
    here laid.laid laid.stands c.with_block-account.ensures in
    subst (λ (o : Option Block). Counted all c.with_block-account.result o (get nat_eq c.lay.new.self.standings) (records_from c.next.new.self.frames.bytes.now c.next.new.self.frames.at)) (sym laid.last)
    (subst (Counted all c.with_block-account.result (Some b) (get nat_eq c.lay.new.self.standings)) (sym c.next.ensures.leaves) on)

pub returns-in-Ok-End-clause-verdict : goal.returns-in-Ok-End-clause-verdict
returns-in-Ok-End-clause-verdict c =
    let all = records_from c.args.bytes.now 0 in
    let ss = records_from c.loop-block.records.frames.bytes.now c.loop-block.records.frames.at in
    let none : ss ≡ [] = at_end ss (sym c.next.ensures.gives ∙ c.in-Ok-End.is ∙ ap Ok c.in-Ok-End.field-0-is) in
    let told : c.loop-block.account ≡ account_of all =
    all_counted all c.loop-block.account _ _ (subst (Counted all c.loop-block.account c.loop-block.bays.last (get nat_eq c.loop-block.bays.standings)) none c.loop-block.invariant) in
    let here = subst (λ a. IsTrue (all_clear a) ↔ Passes all) (sym told) (clear_passes c.args.bytes.now) in
    search (rules, here)

pub overflow_add-account : goal.overflow_add-account
overflow_add-account c =
    let all = records_from c.args.bytes.now 0 in
    let ss = records_from c.loop-block.records.frames.bytes.now c.loop-block.records.frames.at in
    let cut : ss ≡ Err c.in-Err.field-0 ∷ rest ss = at_fault c.in-Err.field-0 ss (sym c.next.ensures.gives ∙ c.in-Err.is) in
    let small : length all < 2 ^ 64 = omega (arith, records_few c.args.bytes.now, c.well_formed) in
    let fits : c.loop-block.account.faults + 1 < 2 ^ 64 = fault_fits all _ _ _ c.in-Err.field-0 (rest ss) (subst (Counted all c.loop-block.account c.loop-block.bays.last (get nat_eq c.loop-block.bays.standings)) cut c.loop-block.invariant) small in
    omega (arith, fits)
