-- takewhile: the items of its source up to the first that the predicate denies.
use Rattle.std.specs.Prelude.{◌≡◌, Bool, true, false, cond, ◌⊎◌, List, [], ◌∷◌, ◌++◌, map, Ok, Err, Result}
use Rattle.steps.specs.declared.fault.Fault.{Fault}
use Rattle.steps.specs.Steps.{Step, rest}
use Rattle.laws.specs.Items.{items, Accepted, Denied, Decided}
use Rattle.laws.specs.Run.{Call, OneStepEach}

-- an item is given where the predicate accepts it; a predicate's fault takes its item's place
abbrev pub take_on : {A : Type 0} → Result Bool Fault → A → List (Step A) → List (Step A)
take_on (Ok true) a more = Ok a ∷ more
take_on (Ok false) a more = []
take_on (Err f) a more = Err f ∷ more

abbrev pub taken : {A : Type 0} → (A → Result Bool Fault) → List (Step A) → List (Step A)
taken p [] = []
taken p (Ok a ∷ ss) = take_on (p a) a (taken p ss)
taken p (Err f ∷ ss) = Err f ∷ taken p ss

-- what a takewhile has ahead: nothing once an item was denied
abbrev pub takes : {A : Type 0} → (A → Result Bool Fault) → Bool → List (Step A) → List (Step A)
takes p stopped ss = cond stopped [] (taken p ss)

-- a call draws one step, and none once an item was denied
abbrev pub takes_left : {A : Type 0} → Bool → List (Step A) → List (Step A)
takes_left stopped ss = cond stopped ss (rest ss)

-- whether an item was denied, after a call
abbrev pub denied : Result Bool Fault → Bool
denied (Ok true) = false
denied (Ok false) = true
denied (Err f) = false

abbrev pub takes_stops : {A : Type 0} → (A → Result Bool Fault) → List (Step A) → Bool
takes_stops p [] = false
takes_stops p (Ok a ∷ ss) = denied (p a)
takes_stops p (Err f ∷ ss) = false

abbrev pub takes_stopped : {A : Type 0} → (A → Result Bool Fault) → Bool → List (Step A) → Bool
takes_stopped p stopped ss = cond stopped true (takes_stops p ss)

-- what a takewhile has left below once it has said end
abbrev pub take_stop : {A : Type 0} → Result Bool Fault → List (Step A) → List (Step A) → List (Step A)
take_stop (Ok true) ss more = more
take_stop (Ok false) ss more = ss
take_stop (Err f) ss more = more

abbrev pub take_end : {A : Type 0} → (A → Result Bool Fault) → List (Step A) → List (Step A)
take_end p [] = []
take_end p (Ok a ∷ ss) = take_stop (p a) ss (take_end p ss)
take_end p (Err f ∷ ss) = take_end p ss

abbrev pub takes_end : {A : Type 0} → (A → Result Bool Fault) → Bool → List (Step A) → List (Step A)
takes_end p stopped ss = cond stopped ss (take_end p ss)

-- the calls of a run, with what each leaves of the source
abbrev pub take_call : {A : Type 0} → Result Bool Fault → A → List (Step A) → List (Call A (List (Step A))) → List (Call A (List (Step A)))
take_call (Ok true) a ss more = record { step = Ok a; left = ss } ∷ more
take_call (Ok false) a ss more = []
take_call (Err f) a ss more = record { step = Err f; left = ss } ∷ more

abbrev pub taken_run : {A : Type 0} → (A → Result Bool Fault) → List (Step A) → List (Call A (List (Step A)))
taken_run p [] = []
taken_run p (Ok a ∷ ss) = take_call (p a) a ss (taken_run p ss)
taken_run p (Err f ∷ ss) = record { step = Err f; left = ss } ∷ taken_run p ss

abbrev pub takes_run : {A : Type 0} → (A → Result Bool Fault) → Bool → List (Step A) → List (Call A (List (Step A)))
takes_run p stopped ss = cond stopped [] (taken_run p ss)

-- Over a source without faults and a predicate that answers yes or no: what is given is the longest
-- front that the predicate accepts. The items are that front and what is behind it, which is nothing or begins with a denied item.
abbrev pub LongestFront : {A : Type 0} → (A → Result Bool Fault) → List (Step A) → List (Step A) → Type 0
LongestFront {A} p ss gives = (xs : List A) → ss ≡ map Ok xs → Decided p xs →
    (front : List A) × (behind : List A) × (xs ≡ front ++ behind) × Accepted p front × Denied p behind × (gives ≡ map Ok front)

-- With and without faults: each call that gives a step draws one step. By its end it has drawn up to the first item that the predicate
-- denies, that item too and no step more, or all where none is denied.
abbrev pub NoneDenied : {A : Type 0} → (A → Result Bool Fault) → List A → Type 0
NoneDenied p [] = Unit {0}
NoneDenied p (a ∷ xs) = (p a ≡ Ok false → ⊥) × NoneDenied p xs

pub record DeniedLast {A : Type 0} (p : A → Result Bool Fault) (ss : List (Step A)) (run : List (Call A (List (Step A)))) (end : List (Step A)) : Type 0 where
  pub each : OneStepEach ss run
  pub front : List (Step A)
  pub passed : NoneDenied p (items front)
  pub by_the_end : ((ss ≡ front) × (end ≡ [])) ⊎ ((a : A) × (ss ≡ front ++ Ok a ∷ end) × (p a ≡ Ok false))
