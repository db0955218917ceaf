use Rattle.std.proofs.Common.{rules, ◌≡◌, ◌++◌, [], ◌∷◌, cond, None, Ok, refl, sym, ap, ◌∙◌}
use Rattle.std.specs.Option.{option_eq}
use Rattle.sources.specs.contracts.block.BlockPartialEq.TheImpl.{eq-value}
use Rattle.steps.specs.declared.answer.Answer.TheVariants.{End}
use Rattle.laws.specs.Items.{items, faults}
use Rattle.laws.specs.ZipLongest.{zipped}
use Rattle.laws.proofs.Steps.{item_first, end_first}
use Rattle.adapters.specs.ZipLongest.{zip_ahead}
use Rattle.recipes.specs.Lists.{differing}
use Rattle.recipes.proofs.ListLemmas.{differ_on, over_items, kept_all, on_fault, met_first}
use Rattle.std.proofs.lemmas.Result.{err_from_is_err_and}
use Rattle.recipes.proofs.depot.deviations.Goals as goal

pub loop-sides-preserved-in-Continue-branch-3 : goal.loop-sides-preserved-in-Continue-branch-3
loop-sides-preserved-in-Continue-branch-3 g c =
    let i = c.in-Item in
    differ_on (option_eq eq-value.it) _ c.loop-sides.differ.items _ _ i.planned i.actual (zip_ahead g.P.Source.ahead g.A.Source.ahead c.loop-sides.sides) _ c.ne.result
    (item_first (i.planned, i.actual) _ (sym c.next.ensures.gives ∙ c.in_ok-planned.was ∙ ap Ok i.is)) c.next.ensures.leaves c.ne.ensures
    c.loop-sides.invariant (c.in_ok-push.ensures.items ∙ ap (λ b. cond b (c.loop-sides.differ.items ++ (i.planned, i.actual) ∷ []) c.loop-sides.differ.items) (sym c.if-ne.true))

pub loop-sides-preserved : goal.loop-sides-preserved
loop-sides-preserved g c =
    let i = c.in-Item in
    differ_on (option_eq eq-value.it) _ c.loop-sides.differ.items _ _ i.planned i.actual (zip_ahead g.P.Source.ahead g.A.Source.ahead c.loop-sides.sides) _ c.ne.result
    (item_first (i.planned, i.actual) _ (sym c.next.ensures.gives ∙ c.in_ok-planned.was ∙ ap Ok i.is)) c.next.ensures.leaves c.ne.ensures
    c.loop-sides.invariant (ap (λ b. cond b (c.loop-sides.differ.items ++ (i.planned, i.actual) ∷ []) c.loop-sides.differ.items) (sym c.if-ne.false))

pub returns-in_err-planned-clause-fault : goal.returns-in_err-planned-clause-fault
returns-in_err-planned-clause-fault g c =
    let p = err_from_is_err_and c.from_residual.result c.from_residual.ensures.1 in
    on_fault _ p.1 p.2
    (met_first _ (zip_ahead g.P.Source.ahead g.A.Source.ahead c.loop-sides.sides) _ (ap faults (sym c.new-sides.ensures.ahead) ∙ c.loop-sides.invariant.0) (sym c.in_err-planned.was ∙ c.next.ensures.gives))

pub returns : goal.returns
returns g c =
    let l = c.loop-sides in
    let r : c.next.result ≡ Ok End = search rules in
    let e : zip_ahead g.P.Source.ahead g.A.Source.ahead l.sides ≡ [] = end_first _ (sym c.next.ensures.gives ∙ r) in
    let n = sym c.new-sides.ensures.ahead in
    record {
      answer = over_items (zipped None None (g.P.Source.ahead c.args.plan) (g.A.Source.ahead c.args.actual)) _ (ap faults n ∙ l.invariant.0 ∙ ap faults e)
          (sym (ap (λ us. differing (option_eq eq-value.it) (items us)) n ∙ l.invariant.1
          ∙ ap (λ us. l.differ.items ++ differing (option_eq eq-value.it) (items us)) e ∙ kept_all l.differ.items));
      number = refl;
      fault = tt;
    }
