use Rattle.std.proofs.Common.{rules}
use Rattle.steps.proofs.Below.{drew_as, drew_then, drew_left, drew_right}
use Rattle.adapters.proofs.zip_longest.ZipLongestSource.next.Goals as goal

pub returns-in_err-left-clause-draws : goal.returns-in_err-left-clause-draws
returns-in_err-left-clause-draws g c = drew_as _ _ _ _ (drew_left _ _ _ _ c.in_err-left.ensures.draws) (search rules)

pub returns-in_err-right-clause-draws : goal.returns-in_err-right-clause-draws
returns-in_err-right-clause-draws g c =
    drew_as _ _ _ _ (drew_then _ _ _ _ (drew_left _ _ _ _ c.in_ok-left.ensures.draws) (drew_right _ _ _ _ c.in_err-right.ensures.draws)) (search rules)

pub returns-clause-draws : goal.returns-clause-draws
returns-clause-draws g c = drew_then _ _ _ _ (drew_left _ _ _ _ c.in_ok-left.ensures.draws) (drew_right _ _ _ _ c.in_ok-right.ensures.draws)
