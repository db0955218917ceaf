use Rattle.std.proofs.Common.{sym, ap, ◌∙◌, subst}
use Rattle.std.proofs.lemmas.Result.{IfOk-weaker}
use Rattle.laws.specs.Islice.{slices}
use Rattle.recipes.proofs.SliceLemmas.{taken, broken}
use Rattle.recipes.proofs.ListLemmas.{OnFault-weaker}
use Rattle.recipes.specs.Lists.{FirstOf}
use Rattle.laws.specs.Items.{faults}
use Rattle.recipes.proofs.lists.take.Goals as goal

pub returns-clause-answer : goal.returns-clause-answer
returns-clause-answer g c =
    let s = c.in_ok-new.field-0 in
    let made = c.in_ok-new.ensures.made in
    IfOk-weaker c.list_of.result _ _
    (λ v e. taken c.args.n (g.S.Source.ahead c.args.source) s.cur s.next s.stop s.step v.items made.1
    (ap (λ u. slices s.stop s.step s.next s.cur (g.S.Source.ahead u)) (sym made.0) ∙ e))
    c.list_of.ensures.answer

pub returns-clause-fault : goal.returns-clause-fault
returns-clause-fault g c =
    let s = c.in_ok-new.field-0 in
    let made = c.in_ok-new.ensures.made in
    OnFault-weaker c.list_of.result _ _
    (λ f e. broken c.args.n (g.S.Source.ahead c.args.source) s.cur s.next s.stop s.step f made.1
    (subst (λ u. FirstOf (faults (slices s.stop s.step s.next s.cur (g.S.Source.ahead u))) f) made.0 e))
    c.list_of.ensures.fault
