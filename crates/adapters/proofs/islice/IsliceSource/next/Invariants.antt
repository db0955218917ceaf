use Rattle.std.proofs.Common.{◌≡◌, length, Some}
use Rattle.steps.specs.Below.{Quiet}
use Rattle.laws.specs.Islice.{slices, slice_after}
use Rattle.adapters.proofs.islice.IsliceSource.next.Given as goal

-- what is ahead, and where the call will leave the source and the counts, are as they were at the entry
abbrev pub invariant-loop-self : goal.invariant-loop-self
invariant-loop-self g l = record {
  next : l.self.next ≡ Some l.next;
  stop : l.self.stop ≡ l.initial.self.stop;
  step : l.self.step ≡ l.initial.self.step;
  ahead : slices l.self.stop l.self.step (Some l.next) l.self.cur (g.S.Source.ahead l.self.source)
      ≡ slices l.initial.self.stop l.initial.self.step l.initial.self.next l.initial.self.cur (g.S.Source.ahead l.initial.self.source);
  after : slice_after l.self.stop l.self.step (Some l.next) l.self.cur (g.S.Source.ahead l.self.source)
      ≡ slice_after l.initial.self.stop l.initial.self.step l.initial.self.next l.initial.self.cur (g.S.Source.ahead l.initial.self.source);
  loans : g.S.Source.loans l.self.source ≡ g.S.Source.loans l.initial.self.source;
  drawn : Quiet (g.S.Source.bottom l.initial.self.source) (g.S.Source.bottom l.self.source);
}

abbrev pub decreases-loop-self : goal.decreases-loop-self
decreases-loop-self g l = length (g.S.Source.ahead l.self.source)
