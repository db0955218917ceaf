-- The keys of a source in words: its parts, what it has ahead, and its run.
use Rattle.std.specs.Prelude.{List, Result}
use Rattle.steps.specs.declared.fault.Fault.{Fault}
use Rattle.steps.specs.Steps.{Step}
use Rattle.laws.specs.Run.{Call}
use Rattle.laws.specs.Keys.{keys, keys_run}
use Rattle.adapters.specs.declared.keys.Keys.{Keys}

abbrev pub keys_source : {S K : Type 0} → Keys S K → S
keys_source s = s.source

abbrev pub keys_keying : {S K : Type 0} → Keys S K → K
keys_keying s = s.keying

-- by its key kind and what its source has ahead
abbrev pub keys_ahead : {S K A Q : Type 0} → (K → A → Result Q Fault) → (S → List (Step A)) → Keys S K → List (Step Q)
keys_ahead key ahead s = keys (key s.keying) (ahead s.source)

abbrev pub keys_over : {S K A Q : Type 0} → (K → A → Result Q Fault) → (S → List (Step A)) → Keys S K → List (Call Q (List (Step A)))
keys_over key ahead s = keys_run (key s.keying) (ahead s.source)
