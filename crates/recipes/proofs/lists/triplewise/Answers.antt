use Rattle.std.proofs.Common.{rules, ◌≡◌, ◌++◌, [], map, Ok, refl, sym, ap, ◌∙◌}
use Rattle.steps.specs.declared.answer.Answer.TheVariants.{End}
use Rattle.laws.specs.Items.{items, faults}
use Rattle.laws.proofs.Steps.{item_first, end_first}
use Rattle.adapters.specs.Pairwise.{pairwise_ahead}
use Rattle.recipes.proofs.ListLemmas.{in_a_row, fewer, row_on, over_triples, kept_all, on_fault, met_first}
use Rattle.std.proofs.lemmas.Result.{err_from_is_err_and}
use Rattle.laws.specs.Pairwise.{unpaired}
use Rattle.laws.proofs.Pairwise.{pairwise_faults}
use Rattle.recipes.proofs.lists.triplewise.Goals as goal

pub loop-pairs-smaller : goal.loop-pairs-smaller
loop-pairs-smaller g c =
    fewer _ (pairwise_ahead (pairwise_ahead g.S.Source.ahead) c.loop-pairs.pairs) _
    (item_first c.in-Item.neighbours _ (sym c.next.ensures.gives ∙ c.in_ok-neighbours.was ∙ ap Ok c.in-Item.is)) c.next.ensures.leaves

pub loop-pairs-preserved : goal.loop-pairs-preserved
loop-pairs-preserved g c =
    row_on _ c.loop-pairs.triples.items _ _ c.in-Item.neighbours (pairwise_ahead (pairwise_ahead g.S.Source.ahead) c.loop-pairs.pairs) _
    (item_first c.in-Item.neighbours _ (sym c.next.ensures.gives ∙ c.in_ok-neighbours.was ∙ ap Ok c.in-Item.is)) c.next.ensures.leaves
    c.loop-pairs.invariant c.in_ok-push.ensures.items

pub returns-in_err-neighbours-clause-fault : goal.returns-in_err-neighbours-clause-fault
returns-in_err-neighbours-clause-fault g c =
    let p = err_from_is_err_and c.from_residual.result c.from_residual.ensures.1 in
    let ss = g.S.Source.ahead c.args.source in
    let all = sym (pairwise_faults (unpaired ss) ∙ pairwise_faults ss) ∙ c.loop-pairs.invariant.1 in
    on_fault _ p.1 p.2 (met_first (faults ss) (pairwise_ahead (pairwise_ahead g.S.Source.ahead) c.loop-pairs.pairs) _ all (sym c.in_err-neighbours.was ∙ c.next.ensures.gives))

pub returns : goal.returns
returns g c =
    let l = c.loop-pairs in
    let r : c.next.result ≡ Ok End = search rules in
    let e : pairwise_ahead (pairwise_ahead g.S.Source.ahead) l.pairs ≡ [] = end_first _ (sym c.next.ensures.gives ∙ r) in
    record {
      answer = over_triples (g.S.Source.ahead c.args.source) l.triples.items
          (l.invariant.0 ∙ ap (λ us. l.triples.items ++ map in_a_row (items us)) e ∙ kept_all l.triples.items)
          (l.invariant.1 ∙ ap faults e);
      number = refl;
      fault = tt;
    }
