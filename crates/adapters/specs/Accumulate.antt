-- An accumulate in words: its parts, and what it has ahead.
use Rattle.std.specs.Prelude.{List, Option, Result}
use Rattle.steps.specs.declared.fault.Fault.{Fault}
use Rattle.steps.specs.Steps.{Step}
use Rattle.laws.specs.Accumulate.{accumulates}
use Rattle.adapters.specs.declared.accumulate.Accumulate.{Accumulate}

abbrev pub accumulate_source : {S J A : Type 0} → Accumulate S J A → S
accumulate_source s = s.source

abbrev pub accumulate_joining : {S J A : Type 0} → Accumulate S J A → J
accumulate_joining s = s.joining

abbrev pub accumulate_initial : {S J A : Type 0} → Accumulate S J A → Option A
accumulate_initial s = s.initial

-- the total given last, where one was given
abbrev pub accumulate_total : {S J A : Type 0} → Accumulate S J A → Option A
accumulate_total s = s.total

-- by its joining and what its source has ahead
abbrev pub accumulate_ahead : {S J A : Type 0} → (J → A → A → Result A Fault) → (S → List (Step A)) → Accumulate S J A → List (Step A)
accumulate_ahead joins ahead s = accumulates (joins s.joining) s.initial s.total (ahead s.source)
