use Rattle.sources.proofs.RangeLemmas.{numbers_left}
use Rattle.sources.proofs.range.RangeSource.next.Goals as goal

pub returns-clause-leaves : goal.returns-clause-leaves
returns-clause-leaves c =
    let s = c.args.self.now.numbers in
    let t = c.next.new.self in
    numbers_left s.start s.end t.start t.end c.next.result c.next.ensures.steps
