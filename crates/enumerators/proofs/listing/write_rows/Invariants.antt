use Rattle.std.proofs.Common.{◌≡◌, ◌+◌, length, take}
use Rattle.std.specs.List.{flat_map}
use Rattle.text.specs.Writer.{written}
use Rattle.row_laws.specs.Calls.{leaving}
use Rattle.row_laws.specs.Listing.{row_line}
use Rattle.enumerators.proofs.listing.write_rows.Given as goal

abbrev pub invariant-loop-row : goal.invariant-loop-row
invariant-loop-row g l =
    let v = g.E.Enumerator.shown l.initial.enumerator in
    (g.E.Enumerator.shown l.enumerator ≡ leaving l._row v)
    × (l.at ≡ 0 + length (flat_map row_line (take l._row v.ahead)))
    × (l.buffer ≡ written 0 (flat_map row_line (take l._row v.ahead)) l.initial.buffer)
