use Rattle.std.proofs.Common.{rules, ◌≡◌, ◌++◌, [], refl, sym, ap, ◌∙◌}
use Rattle.laws.specs.Items.{items, faults}
use Rattle.rules.specs.Combined.{turned}
use Rattle.recipes.specs.Answers.{kept_of}
use Rattle.recipes.proofs.ListLemmas.{over_items, kept_all}
use Rattle.recipes.proofs.lists.partition.Goals as goal

pub returns : goal.returns
returns g c =
    let l = c.loop-accepted in
    let says = g.P.Predicate.says c.args.predicate in
    let e : g.S.Source.ahead l.source ≡ [] = search rules in
    record {
      answer = over_items (g.S.Source.ahead c.args.source) _ (l.invariant.0 ∙ ap faults e) (
        l.invariant.1 (rw e tt),
        sym (l.invariant.2 ∙ ap (λ us. l.denied.items ++ kept_of (λ a. turned (says a)) (items us)) e ∙ kept_all l.denied.items),
        sym (l.invariant.3 ∙ ap (λ us. l.accepted.items ++ kept_of says (items us)) e ∙ kept_all l.accepted.items),
      );
      number = refl;
      fault = tt;
    }
