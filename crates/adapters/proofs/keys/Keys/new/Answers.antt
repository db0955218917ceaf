use Rattle.laws.proofs.Keys.{key_of_each}
use Rattle.adapters.proofs.keys.Keys.new.Goals as goal

pub returns-clause-law : goal.returns-clause-law
returns-clause-law g c = key_of_each (g.K.Keying.key c.args.keying) (g.S.Source.ahead c.args.source)
