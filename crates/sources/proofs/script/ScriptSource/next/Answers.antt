use Rattle.std.proofs.Common.{rules}
use Rattle.steps.proofs.Below.{lone_drew}
use Rattle.sources.proofs.script.ScriptSource.next.Goals as goal

pub returns-clause-draws : goal.returns-clause-draws
returns-clause-draws g c = lone_drew _ _ _ (search rules) (search rules)
