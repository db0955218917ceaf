use Rattle.std.proofs.Common.{sym, refl, ap, ◌∙◌, subst, arith}
use Rattle.steps.proofs.Trace.{logged_more, logged_all}
use Rattle.laws.specs.Tee.{Transition}
use Rattle.laws.proofs.Tee.{ran}
use Rattle.tee.specs.Tee.{marks_of, source_of}
use Rattle.tee.specs.History.{memory}
use Rattle.tee.proofs.history.run.Goals as goal

pub loop-call-preserved : goal.loop-call-preserved
loop-call-preserved g c =
    let R = Transition marks_of (λ t. g.S.Source.ahead (source_of t)) in
    let l = c.loop-call in (
      c.make.ensures.keeps_loans ∙ l.invariant.0,
      logged_more R memory _ (record { tee = l.tee; store = l.store }) _ c.args.calls.now l.calls l.call-index c.call-item.result c.make.new.call (omega arith) l.auto.calls l.invariant.1 c.call-item.is
          (subst (λ z. R (record { tee = l.tee; store = l.store }) (memory z) (memory c.make.new.call) (record { tee = c.make.new.tee; store = c.make.new.store })) (sym c.call-item.is) c.make.ensures.transition),
    )

pub returns : goal.returns
returns g c =
    let R = Transition marks_of (λ t. g.S.Source.ahead (source_of t)) in
    let n = c.in_ok-tee.ensures in
    let l = c.loop-call in (
      n.0,
      l.auto.calls,
      l.invariant.0 ∙ ap g.S.Source.loans n.2,
      ran marks_of (λ t. g.S.Source.ahead (source_of t)) _ _ _ _ _ (record { tee = c.in_ok-tee.tee; store = c.args.store.now }) _ n.0 n.1 (ap g.S.Source.ahead n.2) refl
          (logged_all R memory _ _ c.args.calls.now l.calls l.call-index c.loop-call-test.false l.auto.calls l.invariant.1),
    )
