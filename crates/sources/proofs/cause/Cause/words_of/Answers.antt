use Rattle.sources.proofs.CauseLemmas.{no_cause}
use Rattle.sources.proofs.cause.Cause.words_of.Goals as goal

pub returns-in-Err : goal.returns-in-Err
returns-in-Err c = no_cause c.args.number c.in-Err.ensures.1
