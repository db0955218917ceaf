-- A pairwise in words: its parts, what it has ahead, and its run.
use Rattle.std.specs.Prelude.{List, Option}
use Rattle.steps.specs.Steps.{Step}
use Rattle.laws.specs.Run.{Call}
use Rattle.laws.specs.Pairwise.{pairs, pairs_run}
use Rattle.adapters.specs.declared.pairwise.Pairwise.{Pairwise}

abbrev pub pairwise_source : {S A : Type 0} → Pairwise S A → S
pairwise_source s = s.source

-- the item kept for the next pair, once a pair was given
abbrev pub pairwise_old : {S A : Type 0} → Pairwise S A → Option A
pairwise_old s = s.old

-- by what its source has ahead
abbrev pub pairwise_ahead : {S A : Type 0} → (S → List (Step A)) → Pairwise S A → List (Step (A × A))
pairwise_ahead ahead s = pairs s.old (ahead s.source)

abbrev pub pairwise_run : {S A : Type 0} → (S → List (Step A)) → Pairwise S A → List (Call (A × A) (List (Step A)))
pairwise_run ahead s = pairs_run s.old (ahead s.source)
