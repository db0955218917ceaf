use Rattle.std.proofs.Common.{sym, subst, arith}
use Rattle.steps.proofs.Trace.{logged_more, logged_all}
use Rattle.row_laws.specs.History.{Transition}
use Rattle.row_laws.proofs.History.{every_history}
use Rattle.enumerators.specs.History.{memory, memories}
use Rattle.enumerators.proofs.history.run.Goals as goal

pub loop-call-preserved : goal.loop-call-preserved
loop-call-preserved g c =
    let R = Transition g.E.Enumerator.shown in
    let call = c.call-item.result in
    logged_more R memory c.args.enumerator.now c.loop-call.enumerator c.make.new.enumerator
    c.args.calls.now c.loop-call.calls c.loop-call.call-index call c.make.new.call
    (omega arith) (omega arith) c.loop-call.invariant c.call-item.is
    (subst (λ z. R c.loop-call.enumerator (memory z) (memory c.make.new.call) c.make.new.enumerator) (sym c.call-item.is) c.make.ensures)

pub returns : goal.returns
returns g c =
    let R = Transition g.E.Enumerator.shown in
    record {
      count = c.loop-call.auto.calls;
      law = every_history g.E.Enumerator.shown c.args.enumerator.now c.loop-call.enumerator
          (memories c.args.calls.now) (memories c.loop-call.calls)
          (logged_all R memory c.args.enumerator.now c.loop-call.enumerator c.args.calls.now c.loop-call.calls
          c.loop-call.call-index (omega arith) (omega arith) c.loop-call.invariant);
    }
