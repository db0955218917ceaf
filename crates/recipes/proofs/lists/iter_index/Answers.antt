use Rattle.std.proofs.Common.{rules, ◌≡◌, ◌++◌, [], refl, sym, ap, ◌∙◌}
use Rattle.laws.specs.Items.{items, faults}
use Rattle.recipes.specs.Lists.{places_of}
use Rattle.recipes.proofs.ListLemmas.{over_items, kept_all}
use Rattle.recipes.proofs.lists.iter_index.Goals as goal

pub returns : goal.returns
returns g c =
    let l = c.loop-places in
    let e : g.S.Source.ahead l.source ≡ [] = search rules in
    record {
      answer = over_items (g.S.Source.ahead c.args.source) _ (l.invariant.0 ∙ ap faults e)
          (sym (l.invariant.1 ∙ ap (λ us. l.places.items ++ places_of g.S.Item.PartialEq.eq c.args.value l.place (items us)) e ∙ kept_all l.places.items));
      number = refl;
      fault = λ h. tt;
    }
