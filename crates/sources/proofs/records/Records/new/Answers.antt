use Rattle.std.proofs.Common.{length, ap, arith}
use Rattle.sources.specs.Records.{record_step}
use Rattle.sources.proofs.FrameLemmas.{reads}
use Rattle.sources.proofs.records.Records.new.Goals as goal

pub returns-clause-law : goal.returns-clause-law
returns-clause-law c =
    rw (ap (λ b. b.now) c.new.ensures.holds.0, c.new.ensures.holds.1) (reads record_step (length c.args.bytes.now) 0 c.args.bytes.now (omega arith))
