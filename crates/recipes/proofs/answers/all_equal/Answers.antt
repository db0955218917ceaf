use Rattle.std.proofs.Common.{rules, ◌≡◌, Ok, Err, true, false, is_some, not, refl, sym, ap, ◌∙◌}
use Rattle.std.proofs.lemmas.Result.{err_from_is_err_and}
use Rattle.recipes.proofs.AlikeLemmas.{judged, judged_by, both_told, ok_bool}
use Rattle.recipes.proofs.answers.all_equal.Goals.{then-is_none, else-is_none+in_ok-group-2}
use Rattle.recipes.proofs.answers.all_equal.Goals as goal

pub returns-in_err-group-2 : goal.returns-in_err-group-2
returns-in_err-group-2 g c =
    let all = both_told g.S.Item.PartialEq.eq (g.S.Source.ahead c.args.source) _ _ _ _ _ _
    c.new-groups.ensures.stands (ap g.S.Source.ahead c.new-groups.ensures.below) c.group.ensures.answer c.group.ensures.stands c.group.ensures.below c.group-else-is_none.ensures.answer in
    let p = err_from_is_err_and c.from_residual-in_err-group-2.result c.from_residual-in_err-group-2.ensures.1 in
    let one = judged_by c.group.result c.in_ok-group.field-0 false (judged c.group-else-is_none.result (Ok false)) c.in_ok-group.was
    (ap is_some (sym c.item.ensures) ∙ c.is_none.ensures ∙ ap not c.if-is_none.false) in
    record { answer = p.1 ∙ ap Err p.2 ∙ ap (λ r. judged r (Ok false)) (sym c.in_err-group-2.was) ∙ sym one ∙ all }

pub returns : goal.returns
returns g c = record {
  answer = elim c.if-is_none.branch [
    | then-is_none w ↦ (
        let q : c.if-is_none.result ≡ true = search rules in
        let all = both_told g.S.Item.PartialEq.eq (g.S.Source.ahead c.args.source) _ _ _ _ _ _
        c.new-groups.ensures.stands (ap g.S.Source.ahead c.new-groups.ensures.below) c.group.ensures.answer c.group.ensures.stands c.group.ensures.below refl in
        let one = judged_by c.group.result c.in_ok-group.field-0 true _ c.in_ok-group.was (ap is_some (sym c.item.ensures) ∙ c.is_none.ensures ∙ ap not w.if-is_none.true) in
        ap Ok q ∙ sym one ∙ all)
    | else-is_none+in_ok-group-2 w ↦ (
        let all = both_told g.S.Item.PartialEq.eq (g.S.Source.ahead c.args.source) _ _ _ _ _ _
        c.new-groups.ensures.stands (ap g.S.Source.ahead c.new-groups.ensures.below) c.group.ensures.answer c.group.ensures.stands c.group.ensures.below w.group-else-is_none.ensures.answer in
        let one = judged_by c.group.result c.in_ok-group.field-0 false (judged w.group-else-is_none.result (Ok false)) c.in_ok-group.was
        (ap is_some (sym c.item.ensures) ∙ c.is_none.ensures ∙ ap not w.if-is_none.false) in
        let two = judged_by w.group-else-is_none.result w.in_ok-group-2.field-0 w.is_none-else-is_none.result (Ok false) w.in_ok-group-2.was
        (ap is_some (sym w.item-else-is_none.ensures) ∙ w.is_none-else-is_none.ensures) in
        ap Ok w.result-is ∙ ok_bool w.is_none-else-is_none.result ∙ sym two ∙ sym one ∙ all)
  ];
}
