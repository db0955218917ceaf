use Rattle.std.proofs.Common.{refl}
use Rattle.row_laws.specs.Calls.{controller}
use Rattle.row_laws.proofs.Written.{place_by_place}
use Rattle.enumerators.proofs.written.place_by_place.Goals as goal

pub returns : goal.returns
returns g c = record { result = refl; law = place_by_place controller g.E.Enumerator.shown g.met.E.Enumerator.fits }
