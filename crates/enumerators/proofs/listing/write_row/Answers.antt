use Rattle.std.proofs.Common.{◌+◌, ◌∙◌, ap, ◌∷◌, [], ◌++◌, length, length-append, arith}
use Rattle.text.specs.Writer.{written}
use Rattle.text.proofs.WriterLemmas.{same_place, answer_is, text_fits, written_on}
use Rattle.row_laws.specs.Listing.{row_text}
use Rattle.enumerators.proofs.listing.write_row.Goals as goal

pub write_places-requires : goal.write_places-requires
write_places-requires c = record { room = omega (arith, c.requires.room, length-append (row_text c.args.row.now) (10 ∷ [])) }

pub returns-clause-end : goal.returns-clause-end
returns-clause-end c =
    let start = c.args.start in
    let at = c.in_ok-at.at in
    let row = row_text c.args.row.now in
    let whole = length-append row (10 ∷ []) in
    let behind = same_place at (start + length row) c.in_ok-at.ensures.end in
    answer_is at 1 (length c.write_places.new.buffer) (start + length (row ++ (10 ∷ []))) c.write_bytes.result
    (omega (arith, c.requires.room, behind, whole, c.write_places.auto.buffer)) c.write_bytes.ensures.answer
    (omega (arith, behind, whole))

pub returns-clause-writes : goal.returns-clause-writes
returns-clause-writes c =
    let start = c.args.start in
    let at = c.in_ok-at.at in
    let row = row_text c.args.row.now in
    let whole = length-append row (10 ∷ []) in
    let behind = same_place at (start + length row) c.in_ok-at.ensures.end in
    c.write_bytes.ensures.writes
    ∙ text_fits at (10 ∷ []) c.write_places.new.buffer (omega (arith, c.requires.room, behind, whole, c.write_places.auto.buffer))
    ∙ ap (written at (10 ∷ [])) c.write_places.ensures.writes
    ∙ written_on start at row (10 ∷ []) c.args.buffer.now behind (omega (arith, c.requires.room, behind, whole))
