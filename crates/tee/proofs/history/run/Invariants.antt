use Rattle.std.proofs.Common.{◌≡◌}
use Rattle.steps.proofs.Trace.{Logged}
use Rattle.laws.specs.Tee.{Transition}
use Rattle.tee.specs.Tee.{marks_of, source_of}
use Rattle.tee.specs.History.{memory}
use Rattle.tee.proofs.history.run.Given as goal

abbrev pub invariant-loop-call : goal.invariant-loop-call
invariant-loop-call g l =
    (g.S.Source.loans (source_of l.tee) ≡ g.S.Source.loans (source_of l.initial.tee))
    × Logged (Transition marks_of (λ t. g.S.Source.ahead (source_of t))) memory (record { tee = l.initial.tee; store = l.initial.store }) l.initial.calls l.calls l.call-index (record { tee = l.tee; store = l.store })
