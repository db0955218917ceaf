use Rattle.laws.proofs.TakeWhile.{denied_last}
use Rattle.adapters.proofs.takewhile.TakeWhile.new.Goals as goal

pub returns-clause-drawn_over_run : goal.returns-clause-drawn_over_run
returns-clause-drawn_over_run g c = denied_last (g.P.Predicate.says c.args.predicate) (g.S.Source.ahead c.args.source)
