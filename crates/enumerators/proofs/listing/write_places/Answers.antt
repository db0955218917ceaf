use Rattle.std.proofs.Common.{◌≡◌, ◌+◌, ◌-◌, ◌≤◌, ◌++◌, [], length, take, drop, get_or, decimal, Ok, length-append, ap, sym, ◌∙◌, arith}
use Rattle.std.specs.List.{flat_map}
use Rattle.std.proofs.lemmas.List.{take_all, take_more, flat_map_more}
use Rattle.std.proofs.lemmas.List.Folds.{length-flat_map-take}
use Rattle.text.specs.Writer.{written}
use Rattle.text.proofs.WriterLemmas.{same_place, place_is, text_fits, written_on, written_more}
use Rattle.row_laws.specs.Listing.{row_text, spaced}
use Rattle.row_laws.proofs.Texts.{row_text_parts}
use Rattle.enumerators.proofs.listing.write_places.Goals as goal

pub write_other_place-requires : goal.write_other_place-requires
write_other_place-requires c =
    let row = c.args.row.now in
    let others = take (length row - 1) (drop 1 row) in
    let lo : 1 ≤ length row = c.in-len1-up.len_at_least in
    let whole = ap length (row_text_parts row lo) ∙ length-append (decimal (get_or row 0 0)) (flat_map spaced others) in
    let first = ap (λ n. length (decimal n)) c.from.ensures in
    let fits : c.args.start + length (decimal c.from.result) ≤ length c.args.buffer.now = omega (arith, c.requires.room, whole, first) in
    let begun = place_is c.args.start (length (decimal c.from.result)) (length c.args.buffer.now) c.in_ok-at.at fits c.in_ok-at.ensures.answer in
    record {
      room = omega (
        arith,
        c.requires.room,
        whole,
        first,
        c.loop-place.invariant.0,
        c.loop-place.auto.buffer,
        c.write_number.auto.buffer,
        begun,
        length-flat_map-take spaced others c.loop-place.place-index 0 c.loop-place-test.true,
      );
    }

pub loop-place-preserved : goal.loop-place-preserved
loop-place-preserved c =
    let row = c.args.row.now in
    let others = take (length row - 1) (drop 1 row) in
    let lo : 1 ≤ length row = c.in-len1-up.len_at_least in
    let i = c.loop-place.place-index in
    let start = c.in_ok-at.at in
    let bytes = c.write_number.new.buffer in
    let whole = ap length (row_text_parts row lo) ∙ length-append (decimal (get_or row 0 0)) (flat_map spaced others) in
    let first = ap (λ n. length (decimal n)) c.from.ensures in
    let fits : c.args.start + length (decimal c.from.result) ≤ length c.args.buffer.now = omega (arith, c.requires.room, whole, first) in
    let begun = place_is c.args.start (length (decimal c.from.result)) (length c.args.buffer.now) c.in_ok-at.at fits c.in_ok-at.ensures.answer in
    let a = flat_map spaced (take i others) in
    let b = spaced (get_or others i 0) in
    let step : a ++ b ≡ flat_map spaced (take (i + 1) others) =
    flat_map_more spaced [] (take i others) (get_or others i 0) ∙ ap (flat_map spaced) (sym (take_more others i 0 c.loop-place-test.true)) in
    let moved = same_place c.in_ok-at-2.at (c.loop-place.at + length b) c.in_ok-at-2.ensures.end in
    let both = written_more start c.loop-place.at c.in_ok-at-2.at a b bytes c.loop-place.buffer c.write_other_place.new.buffer
    c.loop-place.invariant.0 c.loop-place.invariant.1 moved
    (omega (
      arith,
      c.requires.room,
      whole,
      first,
      c.loop-place.invariant.0,
      c.write_number.auto.buffer,
      begun,
      moved,
      length-flat_map-take spaced others i 0 c.loop-place-test.true,
    )) c.write_other_place.ensures.writes in
    (both.0 ∙ ap (λ t. start + length t) step, both.1 ∙ ap (λ t. written start t bytes) step)

pub returns-clause-end : goal.returns-clause-end
returns-clause-end c =
    let row = c.args.row.now in
    let others = take (length row - 1) (drop 1 row) in
    let lo : 1 ≤ length row = c.in-len1-up.len_at_least in
    let whole = ap length (row_text_parts row lo) ∙ length-append (decimal (get_or row 0 0)) (flat_map spaced others) in
    let first = ap (λ n. length (decimal n)) c.from.ensures in
    let fits : c.args.start + length (decimal c.from.result) ≤ length c.args.buffer.now = omega (arith, c.requires.room, whole, first) in
    let begun = place_is c.args.start (length (decimal c.from.result)) (length c.args.buffer.now) c.in_ok-at.at fits c.in_ok-at.ensures.answer in
    let all = take_all c.loop-place.place-index others c.loop-place-test.false in
    let end : c.loop-place.at ≡ c.args.start + length (row_text row) =
    omega (arith, whole, first, c.loop-place.invariant.0, begun, ap (λ ps. length (flat_map spaced ps)) all) in
    ap Ok end

pub returns-clause-writes : goal.returns-clause-writes
returns-clause-writes c =
    let row = c.args.row.now in
    let others = take (length row - 1) (drop 1 row) in
    let lo : 1 ≤ length row = c.in-len1-up.len_at_least in
    let start = c.in_ok-at.at in
    let n = c.from.result in
    let whole = ap length (row_text_parts row lo) ∙ length-append (decimal (get_or row 0 0)) (flat_map spaced others) in
    let first = ap (λ n. length (decimal n)) c.from.ensures in
    let fits : c.args.start + length (decimal c.from.result) ≤ length c.args.buffer.now = omega (arith, c.requires.room, whole, first) in
    let begun = place_is c.args.start (length (decimal c.from.result)) (length c.args.buffer.now) c.in_ok-at.at fits c.in_ok-at.ensures.answer in
    let all = take_all c.loop-place.place-index others c.loop-place-test.false in
    c.loop-place.invariant.1
    ∙ ap (λ ps. written start (flat_map spaced ps) c.write_number.new.buffer) all
    ∙ ap (written start (flat_map spaced others)) (c.write_number.ensures.writes ∙ text_fits c.args.start (decimal n) c.args.buffer.now fits)
    ∙ written_on c.args.start start (decimal n) (flat_map spaced others) c.args.buffer.now begun
    (omega (arith, c.requires.room, whole, first, begun))
    ∙ ap (λ t. written c.args.start t c.args.buffer.now) (ap (λ m. decimal m ++ flat_map spaced others) c.from.ensures ∙ sym (row_text_parts row lo))
