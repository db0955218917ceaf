-- Words that the laws of the adapters share.
use Rattle.std.specs.Prelude.{◌≡◌, ℕ, zero, suc, Bool, true, false, ◌⊎◌, List, [], ◌∷◌, Some, None, Ok, Err, Option, Result}
use Rattle.steps.specs.Steps.{Step}
use Rattle.steps.specs.declared.fault.Fault.{Fault}
use Rattle.steps.specs.declared.answer.Answer.{Answer}

-- the step that gives an item, where there is one
abbrev pub given : {A : Type 0} → Option A → Option (Step A)
given None = None
given (Some a) = Some (Ok a)

-- the items of a list of steps, in order
abbrev pub items : {A : Type 0} → List (Step A) → List A
items [] = []
items (Ok a ∷ ss) = a ∷ items ss
items (Err f ∷ ss) = items ss

-- its faults, in order
abbrev pub faults : {A : Type 0} → List (Step A) → List Fault
faults [] = []
faults (Ok a ∷ ss) = faults ss
faults (Err f ∷ ss) = f ∷ faults ss

-- its first fault
abbrev pub first_fault : {A : Type 0} → List (Step A) → Option Fault
first_fault [] = None
first_fault (Ok a ∷ ss) = first_fault ss
first_fault (Err f ∷ ss) = Some f

-- the earlier of two faults
abbrev pub earlier : Option Fault → Option Fault → Option Fault
earlier None o = o
earlier (Some f) o = Some f

-- the first fault of a run, one answer further
abbrev pub kept_first : {A : Type 0} → Option Fault → Result (Answer A) Fault → Option Fault
kept_first met (Ok a) = met
kept_first met (Err f) = earlier met (Some f)

-- what is left once n items were drawn, and the faults in front of each of them
abbrev pub past : {A : Type 0} → ℕ → List (Step A) → List (Step A)
past zero ss = ss
past (suc n) [] = []
past (suc n) (Ok a ∷ ss) = past n ss
past (suc n) (Err f ∷ ss) = past (suc n) ss

-- each of a list is accepted by a predicate
abbrev pub Accepted : {A : Type 0} → (A → Result Bool Fault) → List A → Type 0
Accepted p [] = Unit {0}
Accepted p (a ∷ more) = (p a ≡ Ok true) × Accepted p more

-- the first of a list, if there is one, is denied
abbrev pub Denied : {A : Type 0} → (A → Result Bool Fault) → List A → Type 0
Denied p [] = Unit {0}
Denied p (a ∷ more) = p a ≡ Ok false

-- a predicate answers yes or no for each of a list
abbrev pub Decided : {A : Type 0} → (A → Result Bool Fault) → List A → Type 0
Decided p [] = Unit {0}
Decided p (a ∷ more) = ((p a ≡ Ok true) ⊎ (p a ≡ Ok false)) × Decided p more
