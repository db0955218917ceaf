use Rattle.std.proofs.Common.{sym, ap, ◌∙◌, ◌++◌}
use Rattle.std.proofs.lemmas.Result.{IfOk-weaker}
use Rattle.laws.specs.Items.{faults}
use Rattle.laws.specs.Islice.{slices, slice_end}
use Rattle.recipes.proofs.ListLemmas.{OnFault-weaker, first_of_both}
use Rattle.recipes.proofs.SliceLemmas.{thirds}
use Rattle.recipes.proofs.depot.third_slots.Goals as goal

pub returns : goal.returns
returns g c =
    let s = c.in_ok-new.field-0 in
    let made = c.in_ok-new.ensures.made in
    record {
      answer = IfOk-weaker c.list_of.result _ _
          (λ v e. thirds (g.S.Source.ahead c.args.slots) s.cur s.next s.stop s.step v.items made.1
          (ap (λ u. faults (slices s.stop s.step s.next s.cur (g.S.Source.ahead u)) ++ faults (slice_end s.stop s.step s.next s.cur (g.S.Source.ahead u))) (sym made.0)
          ∙ c.in_ok-new.ensures.faults_given)
          (ap (λ u. slices s.stop s.step s.next s.cur (g.S.Source.ahead u)) (sym made.0) ∙ e))
          c.list_of.ensures.answer;
      number = c.list_of.ensures.number;
      fault = OnFault-weaker c.list_of.result _ _
          (λ f h. first_of_both _ (faults (slice_end s.stop s.step s.next s.cur (g.S.Source.ahead s.source))) _ f c.in_ok-new.ensures.faults_given h)
          c.list_of.ensures.fault;
    }
