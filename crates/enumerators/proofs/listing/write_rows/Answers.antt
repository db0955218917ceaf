use Rattle.std.proofs.Common.{refl, mul-le-mul_right, length-append, ◌≡◌, ◌+◌, ◌*◌, ◌≤◌, ◌<◌, max, length, take, drop, Ok, arith, ap, ◌∙◌}
use Rattle.std.specs.List.{flat_map}
use Rattle.text.specs.Writer.{written}
use Rattle.text.proofs.WriterLemmas.{same_place, written_more}
use Rattle.row_laws.specs.Calls.{leaving}
use Rattle.row_laws.specs.Listing.{row_line}
use Rattle.row_laws.proofs.Listings.{lines_short, rows_short, room_left, lines_more, leaving_more}
use Rattle.enumerators.proofs.listing.write_rows.Goals as goal

pub write_next-requires : goal.write_next-requires
write_next-requires g c =
    let v = g.E.Enumerator.shown c.args.enumerator.now in
    let fits = g.met.E.Enumerator.fits c.args.enumerator.now in
    let i = c.loop-row._row in
    let m = max 1 (4 * v.width) in
    let few : i < 100 = c.loop-row-test.true in
    let short = rows_short m i v.ahead (lines_short v.width v.ahead fits.uniform fits.low) in
    let left : c.loop-row.at + m + 5 ≤ length c.args.buffer.now = room_left i m (length c.args.buffer.now) c.loop-row.at few (omega (arith, short, c.loop-row.invariant.1)) c.requires.room in
    record { room = omega (arith, left, c.loop-row.auto.buffer, ap (λ u. max 1 (4 * u.width)) c.loop-row.invariant.0) }

pub loop-row-preserved : goal.loop-row-preserved
loop-row-preserved g c =
    let v = g.E.Enumerator.shown c.args.enumerator.now in
    let fits = g.met.E.Enumerator.fits c.args.enumerator.now in
    let i = c.loop-row._row in
    let m = max 1 (4 * v.width) in
    let few : i < 100 = c.loop-row-test.true in
    let bytes = c.args.buffer.now in
    let inv = c.loop-row.invariant in
    let next = c.write_next.ensures in
    let a = flat_map row_line (take i v.ahead) in
    let b = flat_map row_line (take 1 (drop i v.ahead)) in
    let step : length (flat_map row_line (take (i + 1) v.ahead)) ≤ (i + 1) * m = rows_short m (i + 1) v.ahead (lines_short v.width v.ahead fits.uniform fits.low) in
    let now : c.in_ok-at.at ≡ c.loop-row.at + length b = same_place _ _ c.in_ok-at.ensures.end ∙ ap (λ u. c.loop-row.at + length (flat_map row_line (take 1 u.ahead))) inv.0 in
    let most : (i + 1) * m ≤ 100 * m = mul-le-mul_right m (omega arith) in
    let left : c.in_ok-at.at ≤ length bytes =
    omega (arith, now, inv.1, ap length (lines_more i v.ahead), length-append a b, step, most, c.requires.room) in
    let both = written_more 0 c.loop-row.at c.in_ok-at.at a b bytes c.loop-row.buffer c.write_next.new.buffer inv.1 inv.2 now left
    (next.writes ∙ ap (λ u. written c.loop-row.at (flat_map row_line (take 1 u.ahead)) c.loop-row.buffer) inv.0) in (
      next.shows ∙ ap (leaving 1) inv.0 ∙ leaving_more i v,
      both.0 ∙ ap (λ t. 0 + length t) (lines_more i v.ahead),
      both.1 ∙ ap (λ t. written 0 t bytes) (lines_more i v.ahead),
    )

pub loop-row-init : goal.loop-row-init
loop-row-init g c = (refl, refl, refl)

pub returns-clause-end : goal.returns-clause-end
returns-clause-end g c =
    let v = g.E.Enumerator.shown c.args.enumerator.now in
    let all : c.loop-row._row ≡ 100 = omega arith in
    ap Ok (c.loop-row.invariant.1 ∙ ap (λ k. 0 + length (flat_map row_line (take k v.ahead))) all)

pub returns-clause-writes : goal.returns-clause-writes
returns-clause-writes g c =
    let v = g.E.Enumerator.shown c.args.enumerator.now in
    let all : c.loop-row._row ≡ 100 = omega arith in
    c.loop-row.invariant.2 ∙ ap (λ k. written 0 (flat_map row_line (take k v.ahead)) c.args.buffer.now) all

pub returns-clause-shows : goal.returns-clause-shows
returns-clause-shows g c =
    let v = g.E.Enumerator.shown c.args.enumerator.now in
    let all : c.loop-row._row ≡ 100 = omega arith in
    c.loop-row.invariant.0 ∙ ap (λ k. leaving k v) all
