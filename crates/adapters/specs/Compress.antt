-- A compress in words: its parts, what it has ahead, where a call leaves it, and its run.
use Rattle.std.specs.Prelude.{Bool, List, Result}
use Rattle.steps.specs.declared.fault.Fault.{Fault}
use Rattle.steps.specs.Steps.{Step}
use Rattle.laws.specs.Run.{Call}
use Rattle.laws.specs.Compress.{compresses, CompressAfter, compress_after, CompressLeft, compress_ends, compress_run as run_of}
use Rattle.adapters.specs.declared.compress.Compress.{Compress}

abbrev pub compress_items : {D S P : Type 0} → Compress D S P → D
compress_items s = s.items

abbrev pub compress_selectors : {D S P : Type 0} → Compress D S P → S
compress_selectors s = s.selectors

abbrev pub compress_predicate : {D S P : Type 0} → Compress D S P → P
compress_predicate s = s.predicate

-- it has said end
abbrev pub compress_ended : {D S P : Type 0} → Compress D S P → Bool
compress_ended s = s.ended

-- by what its predicate says and what its sources have ahead
abbrev pub compress_ahead : {D S P A B : Type 0} → (P → B → Result Bool Fault) → (D → List (Step A)) → (S → List (Step B)) → Compress D S P → List (Step A)
compress_ahead says data_ahead ahead s = compresses (says s.predicate) s.ended (data_ahead s.items) (ahead s.selectors)

abbrev pub compress_next : {D S P A B : Type 0} → (P → B → Result Bool Fault) → (D → List (Step A)) → (S → List (Step B)) → Compress D S P → CompressAfter A B
compress_next says data_ahead ahead s = compress_after (says s.predicate) s.ended (data_ahead s.items) (ahead s.selectors)

abbrev pub compress_run : {D S P A B : Type 0} → (P → B → Result Bool Fault) → (D → List (Step A)) → (S → List (Step B)) → Compress D S P → List (Call A (CompressLeft A B))
compress_run says data_ahead ahead s = run_of (says s.predicate) s.ended (data_ahead s.items) (ahead s.selectors)

-- what its sources have left once it has said end
abbrev pub compress_end : {D S P A B : Type 0} → (D → List (Step A)) → (S → List (Step B)) → Compress D S P → CompressLeft A B
compress_end data_ahead ahead s = compress_ends s.ended (data_ahead s.items) (ahead s.selectors)

-- and what they have left now
abbrev pub compress_left : {D S P A B : Type 0} → (D → List (Step A)) → (S → List (Step B)) → Compress D S P → CompressLeft A B
compress_left data_ahead ahead s = record { data_left = data_ahead s.items; selectors_left = ahead s.selectors }
