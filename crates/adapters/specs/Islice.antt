-- An islice in words: its parts, what it has ahead, where a call leaves it, its run, and its arguments as they were read.
use Rattle.std.specs.Prelude.{ℕ, List, Some, None, Option}
use Rattle.steps.specs.Steps.{Step}
use Rattle.laws.specs.Run.{Call}
use Rattle.laws.specs.Islice.{Bounds as TheBounds, slices, SliceAfter, slice_after, slice_run, slice_end}
use Rattle.adapters.specs.declared.islice.Bounds.{Bounds}
use Rattle.adapters.specs.declared.islice.Islice.{Islice}

abbrev pub bounds_of : Option Bounds → Option TheBounds
bounds_of None = None
bounds_of (Some b) = Some (record { start = b.start; stop = b.stop; step = b.step })

abbrev pub islice_source : {S : Type 0} → Islice S → S
islice_source s = s.source

-- how many items it has drawn, as long as it has a next number
abbrev pub islice_drawn : {S : Type 0} → Islice S → ℕ
islice_drawn s = s.cur

-- the number of the next item to give
abbrev pub islice_number : {S : Type 0} → Islice S → Option ℕ
islice_number s = s.next

-- how many items it draws by its end
abbrev pub islice_stop : {S : Type 0} → Islice S → Option ℕ
islice_stop s = s.stop

abbrev pub islice_step : {S : Type 0} → Islice S → ℕ
islice_step s = s.step

-- by what its source has ahead
abbrev pub islice_ahead : {S A : Type 0} → (S → List (Step A)) → Islice S → List (Step A)
islice_ahead ahead s = slices s.stop s.step s.next s.cur (ahead s.source)

abbrev pub islice_after : {S A : Type 0} → (S → List (Step A)) → Islice S → SliceAfter A
islice_after ahead s = slice_after s.stop s.step s.next s.cur (ahead s.source)

abbrev pub islice_run : {S A : Type 0} → (S → List (Step A)) → Islice S → List (Call A (List (Step A)))
islice_run ahead s = slice_run s.stop s.step s.next s.cur (ahead s.source)

-- what its source has left once it has said end
abbrev pub islice_end : {S A : Type 0} → (S → List (Step A)) → Islice S → List (Step A)
islice_end ahead s = slice_end s.stop s.step s.next s.cur (ahead s.source)
