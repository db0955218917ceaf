use Rattle.std.proofs.Common.{rules, sym}
use Rattle.steps.proofs.Below.{drew_as, drew_on, drew_quiet, drew_predicate, quiet_on}
use Rattle.adapters.proofs.dropwhile.DropWhileSource.next.Goals as goal

pub returns-in_err-item-clause-draws : goal.returns-in_err-item-clause-draws
returns-in_err-item-clause-draws g c = drew_as _ _ _ _ (drew_on _ _ _ _ c.loop-item.invariant.drawn c.in_err-item.ensures.draws) (search rules)

pub returns-in_err-test-clause-draws : goal.returns-in_err-test-clause-draws
returns-in_err-test-clause-draws g c =
    drew_as _ _ _ _ (drew_predicate _ _ c.in_err-test.field-0.0 (drew_on _ _ _ _ c.loop-item.invariant.drawn c.in_ok-item.ensures.draws) (g.met.P.Predicate.origin _ _ _ (sym c.in_err-test.ensures))) (search rules)

pub returns-then-self-clause-draws : goal.returns-then-self-clause-draws
returns-then-self-clause-draws g c = drew_on _ _ _ _ c.loop-item.invariant.drawn c.in_ok-item.ensures.draws

pub loop-item-preserved : goal.loop-item-preserved
loop-item-preserved g c = record {
  starts = search rules;
  predicate = search rules;
  ahead = search rules;
  after = search rules;
  loans = search rules;
  drawn = quiet_on _ _ _ c.loop-item.invariant.drawn (drew_quiet _ _ c.in_ok-item.ensures.draws);
}

pub returns-clause-draws : goal.returns-clause-draws
returns-clause-draws g c = drew_on _ _ _ _ c.loop-item.invariant.drawn c.in_ok-item.ensures.draws
