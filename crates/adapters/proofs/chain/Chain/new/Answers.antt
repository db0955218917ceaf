use Rattle.laws.proofs.Chain.{cut_at_fault}
use Rattle.adapters.proofs.chain.Chain.new.Goals as goal

pub returns-clause-drawn_over_run : goal.returns-clause-drawn_over_run
returns-clause-drawn_over_run g c = cut_at_fault (g.A.Source.ahead c.args.first) (g.B.Source.ahead c.args.second)
