use Rattle.std.proofs.Common.{◌≡◌, ◌<◌, Err, arith, length, drop, refl, ap, sym, ◌∙◌, rules}
use Rattle.steps.specs.Steps.{first, rest}
use Rattle.steps.proofs.Below.{lone_drew}
use Rattle.sources.specs.Frame.{Framed}
use Rattle.sources.specs.Records.{record_step, records_from}
use Rattle.sources.proofs.FrameLemmas.{record_ahead, cause_ahead, nothing_left}
use Rattle.sources.proofs.records.RecordsSource.next.Goals as goal

pub returns-in_err-record-clause-draws : goal.returns-in_err-record-clause-draws
returns-in_err-record-clause-draws c =
    let bs = c.args.self.now.frames.bytes.now in
    let at = c.args.self.now.frames.at in
    let next = c.take.new.self.at in
    let faulty = c.in_err-record.ensures.faulty in
    let more : at < length bs = search rules in
    let e = cause_ahead record_step bs at faulty.0.0 more faulty.0.2 in
    let is : c.from_residual.result ≡ Err c.in_err-record.field-0.0 = search rules in
    lone_drew (records_from bs at) _ c.from_residual.result
    (is ∙ ap Err faulty.0.1 ∙ sym (ap first e))
    (ap (λ b. records_from b.now next) c.take.ensures.bytes ∙ nothing_left record_step bs next (omega (arith, faulty.1)) ∙ sym (ap rest e))

pub returns-clause-leaves : goal.returns-clause-leaves
returns-clause-leaves c =
    let bs = c.args.self.now.frames.bytes.now in
    let at = c.args.self.now.frames.at in
    let next = c.take.new.self.at in
    let r = c.in_ok-record.record in
    let one : Framed = record { kind = r.kind; payload = r.payload.now; behind = drop next bs } in
    let taken = c.in_ok-record.ensures.taken in
    let more : at < length bs = search rules in
    ap (λ b. records_from b.now next) c.take.ensures.bytes ∙ sym (ap rest (record_ahead record_step bs at next one more taken.1 refl taken.2))

pub returns-clause-draws : goal.returns-clause-draws
returns-clause-draws c =
    let bs = c.args.self.now.frames.bytes.now in
    let at = c.args.self.now.frames.at in
    let gives : c.map.result ≡ first (records_from bs at) = search rules in
    lone_drew (records_from bs at) _ c.map.result gives (returns-clause-leaves c)
