use Rattle.std.proofs.Common.{true, rules, sym, Ok}
use Rattle.steps.specs.declared.answer.Answer.TheVariants.{End}
use Rattle.steps.proofs.Below.{drew_as, drew_then, drew_on, drew_left, drew_right, drew_quiet, drew_predicate, quiet_on}
use Rattle.laws.proofs.Compress.{compress_call}
use Rattle.adapters.proofs.compress.CompressSource.next.Goals as goal

pub returns-in_err-item-clause-draws : goal.returns-in_err-item-clause-draws
returns-in_err-item-clause-draws g c = drew_as _ _ _ _ (drew_on _ _ _ _ c.loop-self.invariant.drawn (drew_left _ _ _ _ c.in_err-item.ensures.draws)) (search rules)

pub returns-in_default-clause-draws : goal.returns-in_default-clause-draws
returns-in_default-clause-draws g c = drew_on _ _ _ _ c.loop-self.invariant.drawn (drew_left _ _ _ _ c.in_ok-item.ensures.draws)

pub returns-in_err-selector-clause-draws : goal.returns-in_err-selector-clause-draws
returns-in_err-selector-clause-draws g c =
    drew_as _ _ _ _ (drew_on _ _ _ _ c.loop-self.invariant.drawn (drew_then _ _ _ _ (drew_left _ _ _ _ c.in_ok-item.ensures.draws) (drew_right _ _ _ _ c.in_err-selector.ensures.draws))) (search rules)

pub returns-in_default-2-clause-draws : goal.returns-in_default-2-clause-draws
returns-in_default-2-clause-draws g c =
    drew_on _ _ _ _ c.loop-self.invariant.drawn (drew_then _ _ _ _ (drew_left _ _ _ _ c.in_ok-item.ensures.draws) (drew_right _ _ _ _ c.in_ok-selector.ensures.draws))

pub returns-in_err-test-clause-draws : goal.returns-in_err-test-clause-draws
returns-in_err-test-clause-draws g c =
    drew_as _ _ _ _ (drew_predicate _ _ c.in_err-test.field-0.0 (drew_on _ _ _ _ c.loop-self.invariant.drawn (drew_then _ _ _ _ (drew_left _ _ _ _ c.in_ok-item.ensures.draws) (drew_right _ _ _ _ c.in_ok-selector.ensures.draws)))
    (g.met.P.Predicate.origin _ _ _ (sym c.in_err-test.ensures))) (search rules)

pub returns-then-branch-clause-draws : goal.returns-then-branch-clause-draws
returns-then-branch-clause-draws g c =
    drew_on _ _ _ _ c.loop-self.invariant.drawn (drew_then _ _ _ _ (drew_left _ _ _ _ c.in_ok-item.ensures.draws) (drew_right _ _ _ _ c.in_ok-selector.ensures.draws))

pub loop-self-preserved : goal.loop-self-preserved
loop-self-preserved g c = record {
  predicate = search rules;
  ahead = search rules;
  after = search rules;
  loans_items = search rules;
  loans_selectors = search rules;
  drawn = quiet_on _ _ _ c.loop-self.invariant.drawn (drew_quiet _ _ (drew_then _ _ _ _ (drew_left _ _ _ _ c.in_ok-item.ensures.draws) (drew_right _ _ _ _ c.in_ok-selector.ensures.draws)));
}

pub returns-in_default-clause-follows : goal.returns-in_default-clause-follows
returns-in_default-clause-follows g c = let p = g.P.Predicate.says c.args.self.now.predicate in compress_call p p _ true _ _ _ _ (Ok End) (search rules) (search rules) (search rules) (search rules) (search rules)

pub returns-in_default-2-clause-follows : goal.returns-in_default-2-clause-follows
returns-in_default-2-clause-follows g c = let p = g.P.Predicate.says c.args.self.now.predicate in compress_call p p _ true _ _ _ _ (Ok End) (search rules) (search rules) (search rules) (search rules) (search rules)
