use Rattle.std.proofs.Common.{refl}
use Rattle.row_laws.proofs.Mixed.{every_mixed_history}
use Rattle.enumerators.proofs.history.every_mixed_history.Goals as goal

pub returns : goal.returns
returns g c = record { result = refl; law = every_mixed_history g.E.Enumerator.shown }
