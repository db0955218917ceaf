-- What a rule says that meets a fault at one item.
use Rattle.std.specs.Prelude.{ℕ, cond, Some, None, Err, Option, Result, ◌==◌}
use Rattle.steps.specs.declared.fault.Fault.{Fault}

-- the fault that stands in place of an answer, of a rule's origin
abbrev pub no_answer : ℕ → Fault
no_answer from = record { origin = from; cause = 1; place = 0 }

-- what is said of an item, unless the item is the bad one
abbrev pub guarded : {A : Type 0} → ℕ → Option ℕ → ℕ → Result A Fault → Result A Fault
guarded from None n said = said
guarded from (Some bad) n said = cond (bad == n) (Err (no_answer from)) said
