-- accumulate: the initial value, if any, then each item joined to the total.
use Rattle.std.specs.Prelude.{◌≡◌, ℕ, ◌+◌, ◌<◌, List, [], ◌∷◌, map, length, take, Some, None, Ok, Err, Option, Result}
use Rattle.std.specs.List.{slice_get}
use Rattle.steps.specs.declared.fault.Fault.{Fault}
use Rattle.steps.specs.Steps.{Step, rest}

-- a joining's fault replaces its item and leaves the total
abbrev pub join_on : {A : Type 0} → Result A Fault → A → (A → List (Step A)) → List (Step A)
join_on (Ok v) t more = Ok v ∷ more v
join_on (Err f) t more = Err f ∷ more t

abbrev pub totals : {A : Type 0} → (A → A → Result A Fault) → A → List (Step A) → List (Step A)
totals j t [] = []
totals j t (Ok a ∷ ss) = join_on (j t a) t (λ v. totals j v ss)
totals j t (Err f ∷ ss) = Err f ∷ totals j t ss

-- without an initial value the first item is the first total
abbrev pub from_first : {A : Type 0} → (A → A → Result A Fault) → List (Step A) → List (Step A)
from_first j [] = []
from_first j (Ok a ∷ ss) = Ok a ∷ totals j a ss
from_first j (Err f ∷ ss) = Err f ∷ from_first j ss

abbrev pub from_initial : {A : Type 0} → (A → A → Result A Fault) → Option A → List (Step A) → List (Step A)
from_initial j None ss = from_first j ss
from_initial j (Some i) ss = Ok i ∷ totals j i ss

-- what an accumulate has ahead, with its initial value and its total so far
abbrev pub accumulates : {A : Type 0} → (A → A → Result A Fault) → Option A → Option A → List (Step A) → List (Step A)
accumulates j initial None ss = from_initial j initial ss
accumulates j initial (Some t) ss = totals j t ss

-- a call draws one step, and none for the initial value
abbrev pub initial_left : {A : Type 0} → Option A → List (Step A) → List (Step A)
initial_left None ss = rest ss
initial_left (Some i) ss = ss

abbrev pub accumulate_left : {A : Type 0} → Option A → Option A → List (Step A) → List (Step A)
accumulate_left initial None ss = initial_left initial ss
accumulate_left initial (Some t) ss = rest ss

-- the total after a call
abbrev pub join_total : {A : Type 0} → Result A Fault → A → A
join_total (Ok v) t = v
join_total (Err f) t = t

abbrev pub next_total : {A : Type 0} → (A → A → Result A Fault) → A → List (Step A) → A
next_total j t [] = t
next_total j t (Ok a ∷ ss) = join_total (j t a) t
next_total j t (Err f ∷ ss) = t

abbrev pub first_total : {A : Type 0} → Option A → List (Step A) → Option A
first_total (Some i) ss = Some i
first_total None [] = None
first_total None (Ok a ∷ ss) = Some a
first_total None (Err f ∷ ss) = None

abbrev pub total_after : {A : Type 0} → (A → A → Result A Fault) → Option A → Option A → List (Step A) → Option A
total_after j initial None ss = first_total initial ss
total_after j initial (Some t) ss = Some (next_total j t ss)

-- the join of values in their order, from the left; a fault on the way is the fault of the whole
abbrev pub joined_all : {A : Type 0} → (A → A → Result A Fault) → Result A Fault → List A → Result A Fault
joined_all j (Err f) xs = Err f
joined_all j (Ok t) [] = Ok t
joined_all j (Ok t) (x ∷ xs) = joined_all j (j t x) xs

-- the values that are joined: the initial value, if any, and the items
abbrev pub with_initial : {A : Type 0} → Option A → List A → List A
with_initial None xs = xs
with_initial (Some i) xs = i ∷ xs

abbrev pub join_of : {A : Type 0} → (A → A → Result A Fault) → List A → Option (Result A Fault)
join_of j [] = None
join_of j (x ∷ xs) = Some (joined_all j (Ok x) xs)

-- Over a source without faults: there are as many totals as values, and the k-th is the join of the first k, where the joining has no fault on the way.
pub record RunningTotals {A : Type 0} (j : A → A → Result A Fault) (initial : Option A) (ss gives : List (Step A)) : Type 0 where
  pub each : (xs : List A) → ss ≡ map Ok xs → (k : ℕ) (v : A) → k < length (with_initial initial xs) →
      join_of j (take (k + 1) (with_initial initial xs)) ≡ Some (Ok v) → slice_get gives k ≡ Some (Ok v)
  pub count : (xs : List A) → ss ≡ map Ok xs → length gives ≡ length (with_initial initial xs)
