use Rattle.laws.proofs.Pairwise.{pairs_drawn}
use Rattle.adapters.proofs.pairwise.Pairwise.new.Goals as goal

pub returns-clause-drawn_over_run : goal.returns-clause-drawn_over_run
returns-clause-drawn_over_run g c = pairs_drawn (g.S.Source.ahead c.args.source)
