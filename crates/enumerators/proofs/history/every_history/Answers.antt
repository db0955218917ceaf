use Rattle.std.proofs.Common.{refl}
use Rattle.row_laws.proofs.History.{every_history}
use Rattle.enumerators.proofs.history.every_history.Goals as goal

pub returns : goal.returns
returns g c = record { result = refl; law = every_history g.E.Enumerator.shown }
