use Rattle.std.proofs.Common.{◌≡◌, ◌++◌, length, map, Ok, refl, sym, ap, ◌∙◌, subst, arith}
use Rattle.laws.specs.GroupBy.{keyed, group_call}
use Rattle.groups.specs.GroupBy.{standing, below, keying}
use Rattle.recipes.specs.Lists.{number_of, refusal_of, OverItems, FirstOfEachRun}
use Rattle.recipes.proofs.ListLemmas.{kept_all, on_error}
use Rattle.recipes.proofs.RunLemmas.{turn_met, met_more, none_met, first_of_each_run, one_waits, none_broken, fault_met, one_more, none_more, none_refused}
use Rattle.std.proofs.lemmas.Result.{err_from_is_err_and}
use Rattle.laws.specs.Items.{faults}
use Rattle.recipes.proofs.lists.unique_justseen.Goals as goal

pub loop-groups-smaller-in-Continue-branch-5 : goal.loop-groups-smaller-in-Continue-branch-5
loop-groups-smaller-in-Continue-branch-5 g c =
    let same = g.K.Key.PartialEq.eq in
    let groups = c.loop-groups.groups in
    let s = standing groups in
    let ss = g.S.Source.ahead (below groups) in
    let inv = c.loop-groups.invariant in
    let key = g.K.Keying.key (keying c.new-groups.result) in
    let m = turn_met g.K.Keying.key g.S.Source.ahead same c.new-groups.result groups c.group.new.self c.item.new.self inv.0 inv.1
    c.group.ensures.answer c.group.ensures.stands c.group.ensures.below (c.in_ok-number.was ∙ ap Ok c.in-Item.is) c.item.ensures.answer c.item.ensures.stands c.item.ensures.below in
    m.shorter

pub loop-groups-preserved-in-Continue-branch-5 : goal.loop-groups-preserved-in-Continue-branch-5
loop-groups-preserved-in-Continue-branch-5 g c =
    let same = g.K.Key.PartialEq.eq in
    let groups = c.loop-groups.groups in
    let s = standing groups in
    let ss = g.S.Source.ahead (below groups) in
    let inv = c.loop-groups.invariant in
    let key = g.K.Keying.key (keying c.new-groups.result) in
    let m = turn_met g.K.Keying.key g.S.Source.ahead same c.new-groups.result groups c.group.new.self c.item.new.self inv.0 inv.1
    c.group.ensures.answer c.group.ensures.stands c.group.ensures.below (c.in_ok-number.was ∙ ap Ok c.in-Item.is) c.item.ensures.answer c.item.ensures.stands c.item.ensures.below in
    let up : (standing c.item.new.self).given ≡ (standing c.group.new.self).given =
    ap (λ x. x.given) c.item.ensures.stands ∙ none_more (g.K.Keying.key (keying c.group.new.self)) same (standing c.group.new.self) c.in-Item.number (g.S.Source.ahead (below c.group.new.self)) in
    let at : (standing c.group.new.self).given ≡ (group_call key same s ss).standing.given =
    ap (λ x. x.given) c.group.ensures.stands ∙ ap (λ k. (group_call (g.K.Keying.key k) same s ss).standing.given) inv.1 in
    let more = one_more key same s ss in (
      m.none_waits,
      c.item.ensures.keeps ∙ c.group.ensures.keeps ∙ inv.1,
      met_more key same c.loop-groups.firsts.items c.push.new.self.items c.in-Item-2.first m (c.in_ok-first.was ∙ ap Ok c.in-Item-2.is) c.in_ok-push.ensures.items inv.2,
      inv.3 ∙ m.faultless,
      omega (arith, up, at, more, m.shorter, inv.4),
    )

-- where a run was met, its first item is given
pub loop-groups-smaller : goal.loop-groups-smaller
loop-groups-smaller g c =
    let same = g.K.Key.PartialEq.eq in
    let groups = c.loop-groups.groups in
    let s = standing groups in
    let ss = g.S.Source.ahead (below groups) in
    let inv = c.loop-groups.invariant in
    let key = g.K.Keying.key (keying c.new-groups.result) in
    let m = turn_met g.K.Keying.key g.S.Source.ahead same c.new-groups.result groups c.group.new.self c.item.new.self inv.0 inv.1
    c.group.ensures.answer c.group.ensures.stands c.group.ensures.below (c.in_ok-number.was ∙ ap Ok c.in-Item.is) c.item.ensures.answer c.item.ensures.stands c.item.ensures.below in
    absurd (one_waits key same m (c.in_ok-first.was ∙ ap Ok c.in_default-2.is))

pub loop-groups-preserved : goal.loop-groups-preserved
loop-groups-preserved g c =
    let same = g.K.Key.PartialEq.eq in
    let groups = c.loop-groups.groups in
    let s = standing groups in
    let ss = g.S.Source.ahead (below groups) in
    let inv = c.loop-groups.invariant in
    let key = g.K.Keying.key (keying c.new-groups.result) in
    let m = turn_met g.K.Keying.key g.S.Source.ahead same c.new-groups.result groups c.group.new.self c.item.new.self inv.0 inv.1
    c.group.ensures.answer c.group.ensures.stands c.group.ensures.below (c.in_ok-number.was ∙ ap Ok c.in-Item.is) c.item.ensures.answer c.item.ensures.stands c.item.ensures.below in
    absurd (one_waits key same m (c.in_ok-first.was ∙ ap Ok c.in_default-2.is))

-- the faults ahead are those of the steps that are left, as none was met
pub returns-in_err-number-clause-fault : goal.returns-in_err-number-clause-fault
returns-in_err-number-clause-fault g c =
    let same = g.K.Key.PartialEq.eq in
    let groups = c.loop-groups.groups in
    let s = standing groups in
    let ss = g.S.Source.ahead (below groups) in
    let inv = c.loop-groups.invariant in
    let key = g.K.Keying.key (keying c.new-groups.result) in
    let p = err_from_is_err_and c.from_residual.result c.from_residual.ensures.1 in
    let all = ap (λ u. faults (keyed key (g.S.Source.ahead u))) (sym c.new-groups.ensures.below) ∙ inv.3 in
    let mine = ap (λ k. faults (keyed (g.K.Keying.key k) (g.S.Source.ahead c.args.source))) (sym c.new-groups.ensures.keeps) ∙ all in
    on_error _ p.1 p.2
    (fault_met key same s ss _ inv.0 (c.group.ensures.answer ∙ ap (λ k. (group_call (g.K.Keying.key k) same s ss).answer) inv.1) c.in_err-number.was mine)

-- fewer groups were given than steps were ahead
pub returns-in_err-number-clause-number : goal.returns-in_err-number-clause-number
returns-in_err-number-clause-number g c h =
    let p = err_from_is_err_and c.from_residual.result c.from_residual.ensures.1 in
    let some = ap (λ u. length (g.S.Source.ahead u)) c.new-groups.ensures.below in
    ap refusal_of p.1 ∙ ap number_of p.2
    ∙ none_refused (standing c.loop-groups.groups).given c.in_err-number.was c.group.ensures.number (omega (arith, h, some, c.loop-groups.invariant.4))

pub returns-in_err-first-clause-fault : goal.returns-in_err-first-clause-fault
returns-in_err-first-clause-fault g c =
    let same = g.K.Key.PartialEq.eq in
    let groups = c.loop-groups.groups in
    let s = standing groups in
    let ss = g.S.Source.ahead (below groups) in
    let inv = c.loop-groups.invariant in
    let key = g.K.Keying.key (keying c.new-groups.result) in
    let m = turn_met g.K.Keying.key g.S.Source.ahead same c.new-groups.result groups c.group.new.self c.item.new.self inv.0 inv.1
    c.group.ensures.answer c.group.ensures.stands c.group.ensures.below (c.in_ok-number.was ∙ ap Ok c.in-Item.is) c.item.ensures.answer c.item.ensures.stands c.item.ensures.below in
    absurd (none_broken key same m c.in_err-first.was)

pub returns : goal.returns
returns g c =
    let same = g.K.Key.PartialEq.eq in
    let groups = c.loop-groups.groups in
    let s = standing groups in
    let ss = g.S.Source.ahead (below groups) in
    let inv = c.loop-groups.invariant in
    let key = g.K.Keying.key (keying c.new-groups.result) in
    let over = none_met key same s ss inv.0 (c.group.ensures.answer ∙ ap (λ k. (group_call (g.K.Keying.key k) same s ss).answer) inv.1) (c.in_ok-number.was ∙ ap Ok c.in_default.is) in
    let all = inv.2 ∙ ap (λ us. map Ok c.loop-groups.firsts.items ++ us) over ∙ kept_all (map Ok c.loop-groups.firsts.items) in
    let ys = c.loop-groups.firsts.items in
    record {
      answer = subst (λ k. OverItems (g.S.Source.ahead c.args.source) (λ xs. FirstOfEachRun (g.K.Keying.key k) same xs ys)) c.new-groups.ensures.keeps
          (subst (λ u. OverItems (g.S.Source.ahead u) (λ xs. FirstOfEachRun key same xs ys)) c.new-groups.ensures.below
          (first_of_each_run key same (g.S.Source.ahead (below c.new-groups.result)) ys
          all));
      number = λ h. refl;
      fault = tt;
    }
