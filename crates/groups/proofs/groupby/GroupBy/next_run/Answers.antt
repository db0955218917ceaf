use Rattle.std.proofs.Common.{rules}
use Rattle.steps.proofs.Below.{drew_on, drew_as, drew_quiet, quiet_on}
use Rattle.groups.proofs.groupby.GroupBy.next_run.Goals as goal

pub returns-in_err-value-clause-draws : goal.returns-in_err-value-clause-draws
returns-in_err-value-clause-draws g c = drew_as _ _ _ _ (drew_on _ _ _ _ c.loop-value.invariant.drawn c.in_err-value.ensures.draws) (search rules)

pub returns-then-ne-clause-draws : goal.returns-then-ne-clause-draws
returns-then-ne-clause-draws g c = drew_on _ _ _ _ c.loop-value.invariant.drawn c.in_ok-value.ensures.draws

pub loop-value-preserved : goal.loop-value-preserved
loop-value-preserved g c = record {
  keys = search rules;
  state = search rules;
  loans = search rules;
  drawn = quiet_on _ _ _ c.loop-value.invariant.drawn (drew_quiet _ _ c.in_ok-value.ensures.draws);
  found = search rules;
}

pub returns-clause-draws : goal.returns-clause-draws
returns-clause-draws g c = drew_on _ _ _ _ c.loop-value.invariant.drawn c.in_ok-value.ensures.draws
