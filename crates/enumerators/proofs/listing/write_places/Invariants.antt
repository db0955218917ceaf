use Rattle.std.proofs.Common.{◌≡◌, ◌+◌, length, take}
use Rattle.std.specs.List.{flat_map}
use Rattle.text.specs.Writer.{written}
use Rattle.row_laws.specs.Listing.{spaced}
use Rattle.enumerators.proofs.listing.write_places.Given as goal

abbrev pub invariant-loop-place : goal.invariant-loop-place
invariant-loop-place l =
    (l.at ≡ l.initial.at + length (flat_map spaced (take l.place-index l.others)))
    × (l.buffer ≡ written l.initial.at (flat_map spaced (take l.place-index l.others)) l.initial.buffer)
