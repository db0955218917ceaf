use Rattle.std.proofs.Common.{◌≡◌, length}
use Rattle.steps.proofs.RunLemmas.{RanTo}
use Rattle.laws.specs.Items.{earlier, first_fault}
use Rattle.laws.specs.Islice.{slices, slice_end}
use Rattle.adapters.proofs.islice.Islice.finish.Given as goal

-- what will be left at the end is as it was, and the first fault is the one met or the first ahead
abbrev pub invariant-loop-met : goal.invariant-loop-met
invariant-loop-met g l = record {
  stop : l.self.stop ≡ l.initial.self.stop;
  step : l.self.step ≡ l.initial.self.step;
  end : slice_end l.self.stop l.self.step l.self.next l.self.cur (g.S.Source.ahead l.self.source)
      ≡ slice_end l.initial.self.stop l.initial.self.step l.initial.self.next l.initial.self.cur (g.S.Source.ahead l.initial.self.source);
  met : earlier l.met (first_fault (slices l.self.stop l.self.step l.self.next l.self.cur (g.S.Source.ahead l.self.source)))
      ≡ first_fault (slices l.initial.self.stop l.initial.self.step l.initial.self.next l.initial.self.cur (g.S.Source.ahead l.initial.self.source));
  ran : RanTo (g.S.Source.bottom l.initial.self.source) (g.S.Source.bottom l.self.source)
      (slices l.initial.self.stop l.initial.self.step l.initial.self.next l.initial.self.cur (g.S.Source.ahead l.initial.self.source))
      (slices l.self.stop l.self.step l.self.next l.self.cur (g.S.Source.ahead l.self.source));
}

abbrev pub decreases-loop-met : goal.decreases-loop-met
decreases-loop-met g l = length (slices l.self.stop l.self.step l.self.next l.self.cur (g.S.Source.ahead l.self.source))
