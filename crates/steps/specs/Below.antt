-- What stands at the bottom of a stack of adapters, and what one call may draw of it.
use Rattle.std.specs.Prelude.{◌≡◌, ℕ, zero, suc, ◌⊎◌, List, [], ◌∷◌, map, Some, None, Ok, Err, Option, Result}
use Rattle.steps.specs.declared.answer.Answer.{Answer}
use Rattle.steps.specs.declared.fault.Fault.{Fault}
use Rattle.steps.specs.Steps.{Step}
use Rattle.steps.specs.Fault.{OwnFault}

-- a step without its item: nothing, or its fault
abbrev pub mark : {A : Type 0} → Step A → Option Fault
mark (Ok a) = None
mark (Err f) = Some f

-- the sources at the bottom, each with the marks of its steps ahead
pub data Below : Type 0 where
  One : List (Option Fault) → Below
  Two : Below → Below → Below

abbrev pub lone : {A : Type 0} → List (Step A) → Below
lone ss = One (map mark ss)

-- one step drawn from one of the bottom sources
abbrev pub Draw : Below → Below → Option Fault → Type 0
Draw (One ss) c s = (more : List (Option Fault)) × (ss ≡ s ∷ more) × (c ≡ One more)
Draw (Two a b) c s = ((d : Below) × (c ≡ Two d b) × Draw a d s) ⊎ ((d : Below) × (c ≡ Two a d) × Draw b d s)

-- n steps drawn one after another, each of them an item
abbrev pub ItemsDrawn : ℕ → Below → Below → Type 0
ItemsDrawn zero b c = b ≡ c
ItemsDrawn (suc n) b c = (d : Below) × Draw b d None × ItemsDrawn n d c

pub record Quiet (b c : Below) : Type 0 where
  pub count : ℕ
  pub drawn : ItemsDrawn count b c

-- a fault that is answered, if any, is an adapter's own
abbrev pub NoneFromBelow : Option Fault → Type 0
NoneFromBelow None = Unit {0}
NoneFromBelow (Some f) = OwnFault f

-- the fault that a call answered
abbrev pub fault_of : {A : Type 0} → Result (Answer A) Fault → Option Fault
fault_of (Ok a) = None
fault_of (Err f) = Some f

-- items alone were drawn, and a fault that is answered is an adapter's own
pub record DrewItems (b c : Below) (met : Option Fault) : Type 0 where
  pub items : Quiet b c
  pub own : NoneFromBelow met

-- a fault was drawn behind items, last of all that was drawn, and it is answered as it is
pub record DrewFault (b c : Below) (met : Option Fault) : Type 0 where
  pub fault : Fault
  pub before : Below
  pub items : Quiet b before
  pub last : Draw before c (Some fault)
  pub answers : met ≡ Some fault

-- what one call may do
pub record Drew (b c : Below) (met : Option Fault) : Type 0 where
  pub which : DrewItems b c met ⊎ DrewFault b c met

-- steps drawn one after another, by their marks
abbrev pub Drawn : List (Option Fault) → Below → Below → Type 0
Drawn [] b c = b ≡ c
Drawn (m ∷ ms) b c = (d : Below) × Draw b d m × Drawn ms d c

-- the faults of marks
abbrev pub marked : List (Option Fault) → List Fault
marked [] = []
marked (None ∷ ms) = marked ms
marked (Some f ∷ ms) = f ∷ marked ms

-- the second list is the first, in order, with adapters' own faults between
abbrev pub Among : List Fault → List Fault → Type 0
Among us [] = us ≡ []
Among us (g ∷ gs) = (OwnFault g × Among us gs) ⊎ ((more : List Fault) × (us ≡ g ∷ more) × Among more gs)

-- calls one after another, with what they answered: each fault drawn at the bottom was answered, as it was and in order, and nothing between but adapters' own
pub record Ran {A : Type 0} (b c : Below) (answers : List (Step A)) : Type 0 where
  pub marks : List (Option Fault)
  pub drawn : Drawn marks b c
  pub among : Among (marked marks) (marked (map mark answers))

abbrev pub mark_there : {A : Type 0} → Option (Step A) → Option Fault
mark_there None = None
mark_there (Some s) = mark s
