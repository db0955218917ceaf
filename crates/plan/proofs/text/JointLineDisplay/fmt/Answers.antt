use Rattle.plan.proofs.ColumnsLemmas.{in_column}
use Rattle.plan.proofs.text.JointLineDisplay.fmt.Goals as goal

pub returns-in-Gap-clause-writes : goal.returns-in-Gap-clause-writes
returns-in-Gap-clause-writes g c plain ok = rw c.in-Gap.is (rw (c.laid_out.ensures, in_column 4 c.in-Gap.minutes) at (c.writeln-in-Gap.ensures.writes plain ok))
