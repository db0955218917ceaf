use Rattle.std.proofs.Common.{◌≡◌, ◌+◌, ◌*◌, ◌≤◌, max, length, take, drop, ltb, Ok, IfOk, refl, arith, ap, sym, subst, ◌∙◌, length-append}
use Rattle.std.specs.List.{flat_map}
use Rattle.std.proofs.lemmas.Bool.{cond-false, le-ltb}
use Rattle.std.proofs.lemmas.List.{take_at}
use Rattle.text.specs.Writer.{written}
use Rattle.text.proofs.WriterLemmas.{same_place, written_on, written_first}
use Rattle.row_laws.specs.Calls.{at_front}
use Rattle.row_laws.specs.Listing.{row_line, line, last_text, listing, least_buffer, Lists}
use Rattle.row_laws.proofs.Listings.{lines_short, rows_short, last_length, listing_parts, lists, numbers}
use Rattle.enumerators.proofs.listing.write_listing.Goals as goal

pub write_last-requires : goal.write_last-requires
write_last-requires g c =
    let v = g.E.Enumerator.shown c.args.enumerator.now in
    let fits = g.met.E.Enumerator.fits c.args.enumerator.now in
    let m = max 1 (4 * v.width) in
    let rows = same_place c.in_ok-at.at (0 + length (flat_map row_line (take 100 v.ahead))) c.in_ok-at.ensures.end in
    let least = c.least_room.ensures ∙ ap least_buffer c.row_len.ensures in
    let short = rows_short m 100 v.ahead (lines_short v.width v.ahead fits.uniform fits.low) in
    record { room = omega (arith, least, c.if-buffer-least_room.false, short, rows, c.write_rows.auto.buffer) }

pub returns-clause-answer : goal.returns-clause-answer
returns-clause-answer g c =
    let v = g.E.Enumerator.shown c.args.enumerator.now in
    let body = flat_map row_line (take 100 v.ahead) in
    let last = line (last_text (drop 100 v.ahead)) in
    let rows = same_place c.in_ok-at.at (0 + length (flat_map row_line (take 100 v.ahead))) c.in_ok-at.ensures.end in
    let least = c.least_room.ensures ∙ ap least_buffer c.row_len.ensures in
    let big : least_buffer v.width ≤ length c.args.buffer.now = omega (arith, least, c.if-buffer-least_room.false) in
    let count : c.in_ok-at.at + length (line (last_text (g.E.Enumerator.shown c.write_rows.new.enumerator).ahead)) ≡ length (listing v.ahead) =
    omega (arith, rows, ap (λ u. length (line (last_text u.ahead))) c.write_rows.ensures.shows, ap length (listing_parts v.ahead) ∙ length-append body last) in
    c.write_last.ensures.end ∙ ap Ok count ∙ sym (cond-false (ltb (length c.args.buffer.now) (least_buffer v.width)) _ _ (le-ltb (length c.args.buffer.now) (least_buffer v.width) big))

pub returns-clause-writes : goal.returns-clause-writes
returns-clause-writes g c =
    let v = g.E.Enumerator.shown c.args.enumerator.now in
    let bytes = c.args.buffer.now in
    let at = c.in_ok-at.at in
    let body = flat_map row_line (take 100 v.ahead) in
    let last = line (last_text (drop 100 v.ahead)) in
    let rows = same_place c.in_ok-at.at (0 + length (flat_map row_line (take 100 v.ahead))) c.in_ok-at.ensures.end in
    let least = c.least_room.ensures ∙ ap least_buffer c.row_len.ensures in
    let big : least_buffer v.width ≤ length bytes = omega (arith, least, c.if-buffer-least_room.false) in
    let fits = g.met.E.Enumerator.fits c.args.enumerator.now in
    let short = rows_short (max 1 (4 * v.width)) 100 v.ahead (lines_short v.width v.ahead fits.uniform fits.low) in
    let end : at + length last ≤ length bytes = omega (arith, big, short, rows, last_length (drop 100 v.ahead)) in
    c.write_last.ensures.writes
    ∙ ap (λ u. written at (line (last_text u.ahead)) c.write_rows.new.buffer) c.write_rows.ensures.shows
    ∙ ap (written at last) c.write_rows.ensures.writes
    ∙ written_on 0 at body last bytes rows end
    ∙ ap (λ t. written 0 t bytes) (sym (listing_parts v.ahead))
    ∙ written_first (listing v.ahead) bytes
    ∙ sym (cond-false (ltb (length bytes) (least_buffer v.width)) _ _ (le-ltb (length bytes) (least_buffer v.width) big))

pub returns-clause-law : goal.returns-clause-law
returns-clause-law g c =
    let v = g.E.Enumerator.shown c.args.enumerator.now in
    let fits = g.met.E.Enumerator.fits c.args.enumerator.now in
    let bytes = c.args.buffer.now in
    let new = c.write_last.new.buffer in
    let count = length (listing v.ahead) in
    let least = c.least_room.ensures ∙ ap least_buffer c.row_len.ensures in
    let big : least_buffer v.width ≤ length bytes = omega (arith, least, c.if-buffer-least_room.false) in
    let roomy = le-ltb (length bytes) (least_buffer v.width) big in
    let answer : c.write_last.result ≡ Ok count = returns-clause-answer g c ∙ cond-false (ltb (length bytes) (least_buffer v.width)) _ _ roomy in
    let writes : new ≡ at_front (listing v.ahead) bytes = returns-clause-writes g c ∙ cond-false (ltb (length bytes) (least_buffer v.width)) _ _ roomy in
    let text : take count new ≡ listing v.ahead = ap (take count) writes ∙ take_at (listing v.ahead) (drop count bytes) count refl in
    subst (λ r. IfOk r (λ n. Lists v.ahead (take n new))) (sym answer) (subst (Lists v.ahead) (sym text) (lists v.ahead (numbers v.ahead fits.low)))
