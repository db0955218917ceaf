use Rattle.std.proofs.Common.{◌≡◌, List, ◌∷◌, ◌++◌, Err, sym, ap, ◌∙◌}
use Rattle.laws.specs.Items.{faults}
use Rattle.steps.specs.Steps.{Step, rest}
use Rattle.sources.specs.Records.{records_from}
use Rattle.sources.specs.declared.block.Block.{Block}
use Rattle.plan.specs.Text.{fault_line, faults_text}
use Rattle.plan.proofs.AccountLemmas.{at_fault}
use Rattle.plan.proofs.TextLemmas.{told_more}
use Rattle.plan.proofs.text.write_faults.Goals as goal

pub loop-fault-preserved : goal.loop-fault-preserved
loop-fault-preserved g c =
    let ss = records_from c.loop-fault.records.frames.bytes.now c.loop-fault.records.frames.at in
    let f = c.in-Err.fault in
    let cut : ss ≡ Err f ∷ rest ss = at_fault f ss (sym c.next.ensures.gives ∙ c.in-Err.is) in
    let line : faults_text (faults ss) ≡ fault_line f ++ faults_text (faults (records_from c.next.new.self.frames.bytes.now c.next.new.self.frames.at)) =
    ap (λ (us : List (Step Block)). faults_text (faults us)) cut ∙ ap (λ (us : List (Step Block)). fault_line f ++ faults_text (faults us)) (sym c.next.ensures.leaves) in
    told_more _ _ _ _ _ (fault_line f) _ c.loop-fault.invariant c.in_ok-write-in-Err.ensures.bytes line
