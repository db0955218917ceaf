-- What a source means: the list of its steps ahead.
use Rattle.std.specs.Prelude.{List, [], ◌∷◌, Some, None, Ok, Err, Option, Result}
use Rattle.steps.specs.declared.answer.Answer.{Answer}
use Rattle.steps.specs.declared.answer.Answer.TheVariants.{Item, End}
use Rattle.steps.specs.declared.fault.Fault.{Fault}

-- a step is an item or a fault
abbrev pub Step : Type 0 → Type 0
Step A = Result A Fault

abbrev pub item : {A : Type 0} → A → Step A
item a = Ok a

-- an item is answered, and none is the end
abbrev pub answer_of : {A : Type 0} → Option A → Answer A
answer_of (Some a) = Item a
answer_of None = End

-- the item of an answer; the end has none
abbrev pub item_of : {A : Type 0} → Answer A → Option A
item_of (Item a) = Some a
item_of End = None

-- what a call answers for a step
abbrev pub answer : {A : Type 0} → Step A → Result (Answer A) Fault
answer (Ok a) = Ok (Item a)
answer (Err f) = Err f

-- the answer of a call with these steps ahead
abbrev pub first : {A : Type 0} → List (Step A) → Result (Answer A) Fault
first [] = Ok End
first (s ∷ ss) = answer s

-- what stays ahead after it
abbrev pub rest : {A : Type 0} → List (Step A) → List (Step A)
rest [] = []
rest (s ∷ ss) = ss

-- the step that an answer stands for; the end stands for none
abbrev pub answered : {A : Type 0} → Result (Answer A) Fault → Option (Step A)
answered (Ok (Item a)) = Some (Ok a)
answered (Ok End) = None
answered (Err f) = Some (Err f)
