use Rattle.laws.proofs.Compress.{each_datum}
use Rattle.adapters.proofs.compress.Compress.new.Goals as goal

pub returns-clause-drawn_over_run : goal.returns-clause-drawn_over_run
returns-clause-drawn_over_run g c = each_datum (g.P.Predicate.says c.args.predicate) (g.D.Source.ahead c.args.items) (g.S.Source.ahead c.args.selectors)
