-- What the adapters do with the faults of the sources below, in whole runs.
use Rattle.std.specs.Prelude.{◌≡◌, ℕ, ◌⊎◌, List, [], ◌∷◌, ◌++◌, take, drop, Some, None, Option, Ok, Err, Result}
use Rattle.std.specs.List.{slice_get}
use Rattle.steps.specs.Steps.{Step}
use Rattle.steps.specs.declared.fault.Fault.{Fault}
use Rattle.laws.specs.Items.{faults}

-- an adapter that asks nothing has no fault of its own
abbrev pub NoneOwn : Fault → Type 0
NoneOwn f = ⊥

-- the last list is the first two woven together, each in its order, with faults of the adapter's own between them
abbrev pub Woven : (Fault → Type 0) → List Fault → List Fault → List Fault → Type 0
Woven O us vs [] = (us ≡ []) × (vs ≡ [])
Woven O us vs (g ∷ gs) =
    (O g × Woven O us vs gs)
    ⊎ (((more : List Fault) × (us ≡ g ∷ more) × Woven O more vs gs) ⊎ ((more : List Fault) × (vs ≡ g ∷ more) × Woven O us more gs))

-- one source: what was met of its faults is given, in order, the adapter's own between them; the others are left below
abbrev pub Handed : {A B : Type 0} → (Fault → Type 0) → List (Step A) → List (Step A) → List (Step B) → Type 0
Handed O ss left gives = (met : List Fault) × (faults ss ≡ met ++ faults left) × Woven O met [] (faults gives)

-- two sources
abbrev pub HandedTwo : {A B C : Type 0} → (Fault → Type 0) → List (Step A) → List (Step B) → List (Step A) → List (Step B) → List (Step C) → Type 0
HandedTwo O ss ts ss' ts' gives =
    (met : List Fault) × (also : List Fault) × (faults ss ≡ met ++ faults ss') × (faults ts ≡ also ++ faults ts') × Woven O met also (faults gives)

-- a fault of the second source, drawn with an item of the first, loses that item
abbrev pub unlost : {A B : Type 0} → List A → List (Step B) → List A
unlost [] ts = []
unlost (a ∷ xs) [] = a ∷ xs
unlost (a ∷ xs) (Ok b ∷ ts) = a ∷ unlost xs ts
unlost (a ∷ xs) (Err f ∷ ts) = unlost xs ts

-- the last item of a list of steps, or what stood before them
abbrev pub latest_of : {A : Type 0} → Option A → List (Step A) → Option A
latest_of o [] = o
latest_of o (Ok a ∷ ss) = latest_of (Some a) ss
latest_of o (Err f ∷ ss) = latest_of o ss

abbrev pub total_step : {A : Type 0} → (A → A → Result A Fault) → Option A → Step A → Step A
total_step j o (Err f) = Err f
total_step j None (Ok a) = Ok a
total_step j (Some t) (Ok a) = j t a

abbrev pub total_at : {A : Type 0} → (A → A → Result A Fault) → Option A → Option (Step A) → Option (Step A)
total_at j o None = None
total_at j o (Some s) = Some (total_step j o s)

abbrev pub EachTotal : {A : Type 0} → (A → A → Result A Fault) → Option A → List (Step A) → List (Step A) → Type 0
EachTotal j o ss gives = (k : ℕ) → slice_get gives k ≡ total_at j (latest_of o (take k gives)) (slice_get ss k)

-- the initial value comes before the totals
abbrev pub TotalsGiven : {A : Type 0} → (A → A → Result A Fault) → Option A → List (Step A) → List (Step A) → Type 0
TotalsGiven j None ss gives = EachTotal j None ss gives
TotalsGiven j (Some i) ss gives = (slice_get gives 0 ≡ Some (Ok i)) × EachTotal j (Some i) ss (drop 1 gives)
