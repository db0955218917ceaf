-- dropwhile: the items of its source from the first that the predicate denies.
use Rattle.std.specs.Prelude.{◌≡◌, Bool, true, false, cond, List, [], ◌∷◌, ◌++◌, map, Ok, Err, Result}
use Rattle.steps.specs.declared.fault.Fault.{Fault}
use Rattle.steps.specs.Steps.{Step, rest}
use Rattle.laws.specs.Items.{Accepted, Denied, Decided}

-- an accepted item is lost, at the first denied one the source goes on as it is; a predicate's fault takes its item's place
abbrev pub drop_on : {A : Type 0} → Result Bool Fault → A → List (Step A) → List (Step A) → List (Step A)
drop_on (Ok true) a ss more = more
drop_on (Ok false) a ss more = Ok a ∷ ss
drop_on (Err f) a ss more = Err f ∷ more

abbrev pub dropped : {A : Type 0} → (A → Result Bool Fault) → List (Step A) → List (Step A)
dropped p [] = []
dropped p (Ok a ∷ ss) = drop_on (p a) a ss (dropped p ss)
dropped p (Err f ∷ ss) = Err f ∷ dropped p ss

-- what a dropwhile has ahead: all of its source once an item was denied
abbrev pub drops : {A : Type 0} → (A → Result Bool Fault) → Bool → List (Step A) → List (Step A)
drops p started ss = cond started ss (dropped p ss)

-- where a call leaves the source and the start flag
pub record DropAfter (A : Type 0) : Type 0 where
  pub left : List (Step A)
  pub started : Bool

abbrev pub drop_go : {A : Type 0} → Result Bool Fault → List (Step A) → DropAfter A → DropAfter A
drop_go (Ok true) ss more = more
drop_go (Ok false) ss more = record { left = ss; started = true }
drop_go (Err f) ss more = record { left = ss; started = false }

-- accepted items are drawn up to the first step that is answered
abbrev pub dropping : {A : Type 0} → (A → Result Bool Fault) → List (Step A) → DropAfter A
dropping p [] = record { left = []; started = false }
dropping p (Ok a ∷ ss) = drop_go (p a) ss (dropping p ss)
dropping p (Err f ∷ ss) = record { left = ss; started = false }

abbrev pub drop_after : {A : Type 0} → (A → Result Bool Fault) → Bool → List (Step A) → DropAfter A
drop_after p started ss = cond started (record { left = rest ss; started = true }) (dropping p ss)

-- Over a source without faults and a predicate that answers yes or no: what is given is what the longest
-- accepted front leaves, which is nothing or begins with a denied item.
abbrev pub BehindFront : {A : Type 0} → (A → Result Bool Fault) → List (Step A) → List (Step A) → Type 0
BehindFront {A} p ss gives = (xs : List A) → ss ≡ map Ok xs → Decided p xs →
    (front : List A) × (behind : List A) × (xs ≡ front ++ behind) × Accepted p front × Denied p behind × (gives ≡ map Ok behind)
