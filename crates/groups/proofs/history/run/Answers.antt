use Rattle.std.proofs.Common.{◌≡◌, sym, ap, ◌∙◌, subst, arith}
use Rattle.steps.proofs.Trace.{logged_more, logged_all}
use Rattle.laws.specs.GroupBy.{Transition, unbegun}
use Rattle.laws.proofs.GroupBy.{life}
use Rattle.groups.specs.GroupBy.{shown, standing}
use Rattle.groups.specs.History.{memory}
use Rattle.groups.proofs.history.run.Goals as goal

pub loop-call-preserved : goal.loop-call-preserved
loop-call-preserved g c =
    let R = Transition g.K.Key.PartialEq.eq (shown g.K.Keying.key g.S.Source.ahead) in
    let l = c.loop-call in
    record {
      logged = logged_more R memory _ l.groups _ c.args.calls.now l.calls l.call-index c.call-item.result c.make.new.call (omega arith) l.auto.calls l.invariant.logged c.call-item.is
          (subst (λ z. R l.groups (memory z) (memory c.make.new.call) c.make.new.groups) (sym c.call-item.is) c.make.ensures.transition);
      loans = c.make.ensures.keeps_loans ∙ l.invariant.loans;
    }

pub returns : goal.returns
returns g c =
    let R = Transition g.K.Key.PartialEq.eq (shown g.K.Keying.key g.S.Source.ahead) in
    let laws = g.met.K.Key.Eq.laws in
    let l = c.loop-call in
    let made = c.new-groups.result in
    let new : shown g.K.Keying.key g.S.Source.ahead made ≡ record { key = g.K.Keying.key c.args.keys; standing = unbegun; ahead = g.S.Source.ahead c.args.source } =
    ap (λ k. record { key = g.K.Keying.key k; standing = standing made; ahead = g.S.Source.ahead made.source }) c.new-groups.ensures.keeps
    ∙ ap (λ s. record { key = g.K.Keying.key c.args.keys; standing = s; ahead = g.S.Source.ahead made.source }) c.new-groups.ensures.stands
    ∙ ap (λ s. record { key = g.K.Keying.key c.args.keys; standing = unbegun; ahead = g.S.Source.ahead s }) c.new-groups.ensures.below in
    record {
      law = life g.K.Key.PartialEq.eq (shown g.K.Keying.key g.S.Source.ahead) (λ p q e. laws.symm q p ∙ e) (λ p q r e f. laws.congr p q r e ∙ f) (g.K.Keying.key c.args.keys) (g.S.Source.ahead c.args.source) _ _ made l.groups new
          (logged_all R memory _ _ c.args.calls.now l.calls l.call-index c.loop-call-test.false l.auto.calls l.invariant.logged);
      keeps_loans = l.invariant.loans ∙ ap g.S.Source.loans c.new-groups.ensures.below;
    }
