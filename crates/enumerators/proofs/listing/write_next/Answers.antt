use Rattle.std.proofs.Common.{◌*◌, ◌≤◌, max, length, arith}
use Rattle.row_laws.specs.Calls.{other_rows}
use Rattle.row_laws.specs.Listing.{row_line}
use Rattle.row_laws.proofs.Listings.{first_short}
use Rattle.enumerators.proofs.listing.write_next.Goals as goal

pub write_row-requires : goal.write_row-requires
write_row-requires g c =
    let v = g.E.Enumerator.shown c.args.enumerator.now in
    let fits = g.met.E.Enumerator.fits c.args.enumerator.now in
    let short : length (row_line c.in-Some.row.now) ≤ max 1 (4 * v.width) =
    first_short v.width v.ahead (other_rows v.ahead) c.in-Some.row.now c.in-Some.ensures fits.uniform fits.low in
    record { room = omega (arith, c.requires.room, short) }
