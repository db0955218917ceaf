use Rattle.steps.proofs.Below.{drew_then}
use Rattle.adapters.proofs.pairwise.PairwiseSource.next.Goals as goal

pub returns-in-Item-clause-draws : goal.returns-in-Item-clause-draws
returns-in-Item-clause-draws g c = drew_then _ _ _ _ c.in_ok-old-in-None.ensures.draws c.pair_with-in-Item.ensures.draws
