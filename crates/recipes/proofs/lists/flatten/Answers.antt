use Rattle.std.proofs.Common.{◌++◌, sym, ap, ◌∙◌, subst}
use Rattle.std.proofs.lemmas.Result.{IfOk-weaker}
use Rattle.laws.specs.Chain.{until_fault}
use Rattle.recipes.proofs.ChainLemmas.{flattened, first_of_all}
use Rattle.recipes.proofs.ListLemmas.{OnFault-weaker}
use Rattle.recipes.specs.Lists.{FirstOf}
use Rattle.laws.specs.Items.{faults}
use Rattle.recipes.proofs.lists.flatten.Goals as goal

pub returns : goal.returns
returns g c = record {
  answer = IfOk-weaker c.list_of.result _ _
      (λ v e. flattened (g.A.Source.ahead c.args.a) (g.B.Source.ahead c.args.b ++ g.C.Source.ahead c.args.c) v.items
      (ap (λ us. until_fault (g.A.Source.ahead c.args.a ++ us)) (sym c.new.ensures.ahead) ∙ sym c.new-2.ensures.ahead ∙ e))
      c.list_of.ensures.answer;
  number = c.list_of.ensures.number;
  fault = OnFault-weaker c.list_of.result _ _
      (λ f h. first_of_all (g.A.Source.ahead c.args.a) (g.B.Source.ahead c.args.b ++ g.C.Source.ahead c.args.c) f
      (subst (λ us. FirstOf (faults us) f) (sym (ap (λ us. until_fault (g.A.Source.ahead c.args.a ++ us)) (sym c.new.ensures.ahead) ∙ sym c.new-2.ensures.ahead)) h))
      c.list_of.ensures.fault;
}
