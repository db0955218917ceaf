use Rattle.std.proofs.Common.{◌≡◌, ap, ◌∙◌, rules}
use Rattle.groups.specs.GroupBy.{standing, taking}
use Rattle.tests.proofs.lent_groups.item_of_group.Goals as goal

pub returns-clause-stands : goal.returns-clause-stands
returns-clause-stands g c =
    let call = taking g.K.Keying.key g.S.Source.ahead g.K.Key.PartialEq.eq in
    let left : c.groups-1.given.0 ≡ c.next.new.self.groups.now = search rules in
    let items = c.new-items in
    ap standing left ∙ c.next.ensures.stands ∙ ap (λ z. (call z items.result.number).standing) items.ensures.holds.0 ∙ ap (λ n. (call c.args.groups.now n).standing) items.ensures.holds.1
