use Rattle.std.proofs.Common.{◌≡◌, ◌+◌, ◌∙◌, ap, ◌∷◌, [], length, decimal, arith}
use Rattle.text.specs.Writer.{written}
use Rattle.text.proofs.WriterLemmas.{place_is, answer_is, text_fits, written_on}
use Rattle.enumerators.proofs.listing.write_other_place.Goals as goal

pub returns-clause-end : goal.returns-clause-end
returns-clause-end c =
    let at = c.args.at in
    let after = c.in_ok-after.after in
    let place = c.args.place in
    let bytes = c.args.buffer.now in
    let digits = ap (λ n. length (decimal n)) c.from.ensures in
    let behind : after ≡ at + 1 = place_is at 1 (length bytes) after (omega (arith, c.requires.room)) c.in_ok-after.ensures.answer in
    answer_is after (length (decimal c.from.result)) (length c.write_bytes.new.buffer) (at + length (32 ∷ decimal place)) c.write_number.result
    (omega (arith, c.requires.room, behind, digits, c.write_bytes.auto.buffer)) c.write_number.ensures.answer
    (omega (arith, behind, digits))

pub returns-clause-writes : goal.returns-clause-writes
returns-clause-writes c =
    let at = c.args.at in
    let after = c.in_ok-after.after in
    let place = c.args.place in
    let bytes = c.args.buffer.now in
    let digits = ap (λ n. length (decimal n)) c.from.ensures in
    let behind : after ≡ at + 1 = place_is at 1 (length bytes) after (omega (arith, c.requires.room)) c.in_ok-after.ensures.answer in
    c.write_number.ensures.writes
    ∙ text_fits after (decimal c.from.result) c.write_bytes.new.buffer (omega (arith, c.requires.room, behind, digits, c.write_bytes.auto.buffer))
    ∙ ap (λ n. written after (decimal n) c.write_bytes.new.buffer) c.from.ensures
    ∙ ap (written after (decimal place)) (c.write_bytes.ensures.writes ∙ text_fits at (32 ∷ []) bytes (omega (arith, c.requires.room)))
    ∙ written_on at after (32 ∷ []) (decimal place) bytes behind (omega (arith, c.requires.room, behind))
