-- A dropwhile in words: its parts, what it has ahead, and where a call leaves it.
use Rattle.std.specs.Prelude.{Bool, List, Result}
use Rattle.steps.specs.declared.fault.Fault.{Fault}
use Rattle.steps.specs.Steps.{Step}
use Rattle.laws.specs.DropWhile.{drops, DropAfter, drop_after}
use Rattle.adapters.specs.declared.dropwhile.DropWhile.{DropWhile}

abbrev pub dropwhile_source : {S P : Type 0} → DropWhile S P → S
dropwhile_source s = s.source

abbrev pub dropwhile_predicate : {S P : Type 0} → DropWhile S P → P
dropwhile_predicate s = s.predicate

-- an item was denied
abbrev pub dropwhile_started : {S P : Type 0} → DropWhile S P → Bool
dropwhile_started s = s.start_flag

-- by what its predicate says and what its source has ahead
abbrev pub dropwhile_ahead : {S P A : Type 0} → (P → A → Result Bool Fault) → (S → List (Step A)) → DropWhile S P → List (Step A)
dropwhile_ahead says ahead s = drops (says s.predicate) s.start_flag (ahead s.source)

abbrev pub dropwhile_after : {S P A : Type 0} → (P → A → Result Bool Fault) → (S → List (Step A)) → DropWhile S P → DropAfter A
dropwhile_after says ahead s = drop_after (says s.predicate) s.start_flag (ahead s.source)
