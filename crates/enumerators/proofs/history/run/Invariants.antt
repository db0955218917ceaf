use Rattle.steps.proofs.Trace.{Logged}
use Rattle.row_laws.specs.History.{Transition}
use Rattle.enumerators.specs.History.{memory}
use Rattle.enumerators.proofs.history.run.Given as goal

abbrev pub invariant-loop-call : goal.invariant-loop-call
invariant-loop-call g l =
    Logged (Transition g.E.Enumerator.shown) memory l.initial.enumerator l.initial.calls l.calls l.call-index l.enumerator
