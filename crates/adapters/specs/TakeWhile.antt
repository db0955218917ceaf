-- A takewhile in words: its parts, what it has ahead, and its run.
use Rattle.std.specs.Prelude.{Bool, List, Result}
use Rattle.steps.specs.declared.fault.Fault.{Fault}
use Rattle.steps.specs.Steps.{Step}
use Rattle.laws.specs.Run.{Call}
use Rattle.laws.specs.TakeWhile.{takes, takes_run, takes_end}
use Rattle.adapters.specs.declared.takewhile.TakeWhile.{TakeWhile}

abbrev pub takewhile_source : {S P : Type 0} → TakeWhile S P → S
takewhile_source s = s.source

abbrev pub takewhile_predicate : {S P : Type 0} → TakeWhile S P → P
takewhile_predicate s = s.predicate

-- an item was denied
abbrev pub takewhile_stopped : {S P : Type 0} → TakeWhile S P → Bool
takewhile_stopped s = s.stop_flag

-- by what its predicate says and what its source has ahead
abbrev pub takewhile_ahead : {S P A : Type 0} → (P → A → Result Bool Fault) → (S → List (Step A)) → TakeWhile S P → List (Step A)
takewhile_ahead says ahead s = takes (says s.predicate) s.stop_flag (ahead s.source)

abbrev pub takewhile_run : {S P A : Type 0} → (P → A → Result Bool Fault) → (S → List (Step A)) → TakeWhile S P → List (Call A (List (Step A)))
takewhile_run says ahead s = takes_run (says s.predicate) s.stop_flag (ahead s.source)

abbrev pub takewhile_end : {S P A : Type 0} → (P → A → Result Bool Fault) → (S → List (Step A)) → TakeWhile S P → List (Step A)
takewhile_end says ahead s = takes_end (says s.predicate) s.stop_flag (ahead s.source)
