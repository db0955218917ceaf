use Rattle.std.proofs.Common.{◌≡◌}
use Rattle.steps.proofs.Trace.{Logged}
use Rattle.laws.specs.GroupBy.{Transition}
use Rattle.groups.specs.GroupBy.{shown}
use Rattle.groups.specs.History.{memory}
use Rattle.groups.proofs.history.run.Given as goal

abbrev pub invariant-loop-call : goal.invariant-loop-call
invariant-loop-call g l = record {
  logged : Logged (Transition g.K.Key.PartialEq.eq (shown g.K.Keying.key g.S.Source.ahead)) memory l.initial.groups l.initial.calls l.calls l.call-index l.groups;
  loans : g.S.Source.loans l.groups.source ≡ g.S.Source.loans l.initial.groups.source;
}
