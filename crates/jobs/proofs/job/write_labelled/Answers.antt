use Rattle.std.proofs.Common.{◌≡◌, ◌+◌, ◌≤◌, ◌++◌, [], ◌∷◌, length, decimal, length-append, append_assoc, arith, ap, ◌∙◌}
use Rattle.std.proofs.lemmas.Fmt.{length-decimal-le}
use Rattle.text.specs.Writer.{written}
use Rattle.text.proofs.WriterLemmas.{place_is, answer_is, not_refused, text_fits, written_on, written_first}
use Rattle.row_laws.specs.Calls.{at_front}
use Rattle.jobs.proofs.job.write_labelled.Goals as goal

pub returns-clause-end : goal.returns-clause-end
returns-clause-end c =
    let old = c.args.text.now in
    let label = c.args.label.now in
    let digits = decimal c.args.number in
    let few : length digits ≤ 20 = length-decimal-le 20 c.args.number (omega arith) (omega arith) (omega arith) in
    let at = c.in_ok-digits_at.digits_at in
    let feed = c.in_ok-feed_at.feed_at in
    let first = place_is 0 (length label) (length old) at (omega (arith, c.requires)) c.in_ok-digits_at.ensures.answer in
    let second = place_is at (length digits) (length c.write_bytes.new.buffer) feed (omega (arith, few, c.requires, first, c.write_bytes.auto.buffer)) c.in_ok-feed_at.ensures.answer in
    let whole : length (label ++ (digits ++ (10 ∷ []))) ≡ length label + (length digits + 1) =
    length-append label (digits ++ (10 ∷ [])) ∙ ap (λ n. length label + n) (length-append digits (10 ∷ [])) in
    answer_is feed 1 (length c.write_number.new.buffer) (length (label ++ (digits ++ (10 ∷ [])))) c.write_bytes-2.result
    (omega (arith, few, c.requires, first, second, c.write_bytes.auto.buffer, c.write_number.auto.buffer)) c.write_bytes-2.ensures.answer
    (omega (arith, first, second, whole))

pub returns-clause-writes : goal.returns-clause-writes
returns-clause-writes c =
    let old = c.args.text.now in
    let label = c.args.label.now in
    let digits = decimal c.args.number in
    let few : length digits ≤ 20 = length-decimal-le 20 c.args.number (omega arith) (omega arith) (omega arith) in
    let at = c.in_ok-digits_at.digits_at in
    let feed = c.in_ok-feed_at.feed_at in
    let one = c.write_bytes.new.buffer in
    let two = c.write_number.new.buffer in
    let first = place_is 0 (length label) (length old) at (omega (arith, c.requires)) c.in_ok-digits_at.ensures.answer in
    let roomy : at + length digits ≤ length one = omega (arith, few, c.requires, first, c.write_bytes.auto.buffer) in
    let second = place_is at (length digits) (length one) feed roomy c.in_ok-feed_at.ensures.answer in
    let behind : feed ≡ 0 + length (label ++ digits) = omega (arith, length-append label digits, first, second) in
    c.write_bytes-2.ensures.writes
    ∙ text_fits feed (10 ∷ []) two (omega (arith, few, c.requires, first, second, c.write_bytes.auto.buffer, c.write_number.auto.buffer))
    ∙ ap (written feed (10 ∷ [])) (c.write_number.ensures.writes ∙ text_fits at digits one roomy
    ∙ ap (written at digits) (c.write_bytes.ensures.writes ∙ text_fits 0 label old (omega (arith, c.requires)))
    ∙ written_on 0 at label digits old first (omega (arith, few, c.requires, first)))
    ∙ written_on 0 feed (label ++ digits) (10 ∷ []) old behind (omega (arith, few, c.requires, first, second))
    ∙ written_first ((label ++ digits) ++ (10 ∷ [])) old
    ∙ ap (λ t. at_front t old) (append_assoc label digits (10 ∷ []))

-- the digits fit behind the label
pub returns-in_err-feed_at-clause-end : goal.returns-in_err-feed_at-clause-end
returns-in_err-feed_at-clause-end c =
    let label = c.args.label.now in
    let digits = decimal c.args.number in
    let few : length digits ≤ 20 = length-decimal-le 20 c.args.number (omega arith) (omega arith) (omega arith) in
    let at = c.in_ok-digits_at.digits_at in
    let first = place_is 0 (length label) (length c.args.text.now) at (omega (arith, c.requires)) c.in_ok-digits_at.ensures.answer in
    absurd (not_refused at (length digits) (length c.write_bytes.new.buffer) c.in_err-feed_at.field-0.0
    (omega (arith, few, c.requires, first, c.write_bytes.auto.buffer)) c.in_err-feed_at.ensures.answer)

pub returns-in_err-feed_at-clause-writes : goal.returns-in_err-feed_at-clause-writes
returns-in_err-feed_at-clause-writes c =
    let label = c.args.label.now in
    let digits = decimal c.args.number in
    let few : length digits ≤ 20 = length-decimal-le 20 c.args.number (omega arith) (omega arith) (omega arith) in
    let at = c.in_ok-digits_at.digits_at in
    let first = place_is 0 (length label) (length c.args.text.now) at (omega (arith, c.requires)) c.in_ok-digits_at.ensures.answer in
    absurd (not_refused at (length digits) (length c.write_bytes.new.buffer) c.in_err-feed_at.field-0.0
    (omega (arith, few, c.requires, first, c.write_bytes.auto.buffer)) c.in_err-feed_at.ensures.answer)
