-- A call of the runner, as the memory that it stands for.
use Rattle.std.specs.Prelude.{List, map, vec_items}
use Rattle.row_laws.specs.History.{Memory}
use Rattle.enumerators.specs.declared.history.Call.{Call}

abbrev pub memory : {T : Type 0} → Call T → Memory T
memory call = record { pool = vec_items call.pool; places = vec_items call.places; elements = vec_items call.elements; answer = call.answer }

abbrev pub memories : {T : Type 0} → List (Call T) → List (Memory T)
memories calls = map memory calls
