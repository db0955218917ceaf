-- A chain in words: its parts, what it has ahead, where a call leaves it, and its run.
use Rattle.std.specs.Prelude.{List, [], ◌∷◌, ◌++◌, Ok, Err}
use Rattle.steps.specs.Steps.{Step, rest}
use Rattle.laws.specs.Run.{Call, Both}
use Rattle.laws.specs.Chain.{until_fault, first_run, first_end, second_run, second_end}
use Rattle.adapters.specs.declared.chain.Chain.{Chain}
use Rattle.adapters.specs.declared.chain.Stage.{Stage}
use Rattle.adapters.specs.declared.chain.Stage.TheVariants.{First, Second, Over}

abbrev pub chains : {A : Type 0} → Stage → List (Step A) → List (Step A) → List (Step A)
chains First ss ts = until_fault (ss ++ ts)
chains Second ss ts = until_fault ts
chains Over ss ts = []

-- what a call leaves of the first source
abbrev pub first_left : {A : Type 0} → Stage → List (Step A) → List (Step A)
first_left First ss = rest ss
first_left Second ss = ss
first_left Over ss = ss

-- what it leaves of the second, which is drawn from once the first has ended
abbrev pub second_left : {A : Type 0} → Stage → List (Step A) → List (Step A) → List (Step A)
second_left First [] ts = rest ts
second_left First (s ∷ ss) ts = ts
second_left Second ss ts = rest ts
second_left Over ss ts = ts

-- the stage after a call: over after a fault and after the end
abbrev pub in_second : {A : Type 0} → List (Step A) → Stage
in_second [] = Over
in_second (Ok a ∷ ts) = Second
in_second (Err f ∷ ts) = Over

abbrev pub stage_after : {A : Type 0} → Stage → List (Step A) → List (Step A) → Stage
stage_after First [] ts = in_second ts
stage_after First (Ok a ∷ ss) ts = First
stage_after First (Err f ∷ ss) ts = Over
stage_after Second ss ts = in_second ts
stage_after Over ss ts = Over

-- the calls of a run from a stage on, and what is left of both sources once it has said end
abbrev pub run_from : {A : Type 0} → Stage → List (Step A) → List (Step A) → List (Call A (Both A A))
run_from First ss ts = first_run ss ts
run_from Second ss ts = second_run ss ts
run_from Over ss ts = []

abbrev pub end_from : {A : Type 0} → Stage → List (Step A) → List (Step A) → Both A A
end_from First ss ts = first_end ss ts
end_from Second ss ts = second_end ss ts
end_from Over ss ts = record { first = ss; second = ts }

abbrev pub chain_first : {S T : Type 0} → Chain S T → S
chain_first s = s.first

abbrev pub chain_second : {S T : Type 0} → Chain S T → T
chain_second s = s.second

abbrev pub chain_stage : {S T : Type 0} → Chain S T → Stage
chain_stage s = s.stage

-- by what its sources have ahead
abbrev pub chain_ahead : {S T A : Type 0} → (S → List (Step A)) → (T → List (Step A)) → Chain S T → List (Step A)
chain_ahead first second s = chains s.stage (first s.first) (second s.second)

abbrev pub chain_run : {S T A : Type 0} → (S → List (Step A)) → (T → List (Step A)) → Chain S T → List (Call A (Both A A))
chain_run first second s = run_from s.stage (first s.first) (second s.second)

abbrev pub chain_end : {S T A : Type 0} → (S → List (Step A)) → (T → List (Step A)) → Chain S T → Both A A
chain_end first second s = end_from s.stage (first s.first) (second s.second)

-- what its sources have left now
abbrev pub chain_below : {S T A : Type 0} → (S → List (Step A)) → (T → List (Step A)) → Chain S T → Both A A
chain_below first second s = record { first = first s.first; second = second s.second }
