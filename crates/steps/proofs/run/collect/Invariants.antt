use Rattle.std.proofs.Common.{◌≡◌, ◌++◌, length, vec_items}
use Rattle.steps.specs.Below.{Ran}
use Rattle.steps.proofs.run.collect.Given as goal

-- what was collected and what is still ahead make up what was ahead
abbrev pub invariant-loop-step : goal.invariant-loop-step
invariant-loop-step g l = record {
  collected : g.S.Source.ahead l.initial.source ≡ vec_items l.steps ++ g.S.Source.ahead l.source;
  ran : Ran (g.S.Source.bottom l.initial.source) (g.S.Source.bottom l.source) (vec_items l.steps);
}

abbrev pub decreases-loop-step : goal.decreases-loop-step
decreases-loop-step g l = length (g.S.Source.ahead l.source)
