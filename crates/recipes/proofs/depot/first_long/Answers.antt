use Rattle.std.proofs.Common.{rules}
use Rattle.rules.specs.Predicate.{lasts}
use Rattle.recipes.proofs.AnswerLemmas.{first_broken}
use Rattle.recipes.proofs.depot.first_long.Goals as goal

pub returns : goal.returns
returns g c = record { answer = first_broken (lasts 60) (g.S.Source.ahead c.args.blocks) c.in-Err.fault (search rules) }
