-- The runs of a list of items: longest stretches whose keys equal their first key, one after another.
use Rattle.std.specs.Prelude.{◌≡◌, ℕ, zero, suc, ◌+◌, Bool, true, false, List, [], ◌∷◌, ◌++◌, length, Ok, Result}
use Rattle.steps.specs.declared.fault.Fault.{Fault}

-- a run: its key, its first item and the others
pub record Run (A Q : Type 0) : Type 0 where
  pub key : Q
  pub first : A
  pub more : List A

abbrev pub members : {A Q : Type 0} → Run A Q → List A
members r = r.first ∷ r.more

-- an item has a key, and it equals that of a run
pub record Equals {A Q : Type 0} (key : A → Result Q Fault) (same : Q → Q → Bool) (q : Q) (a : A) : Type 0 where
  pub its : Q
  pub is : key a ≡ Ok its
  pub equal : same its q ≡ true

-- an item has a key, and it does not equal that of a run
pub record Differs {A Q : Type 0} (key : A → Result Q Fault) (same : Q → Q → Bool) (q : Q) (a : A) : Type 0 where
  pub its : Q
  pub is : key a ≡ Ok its
  pub unequal : same its q ≡ false

abbrev pub AllEqual : {A Q : Type 0} → (A → Result Q Fault) → (Q → Q → Bool) → Q → List A → Type 0
AllEqual key same q [] = Unit {0}
AllEqual key same q (a ∷ more) = Equals key same q a × AllEqual key same q more

-- nothing comes, or an item whose key differs
abbrev pub Stops : {A Q : Type 0} → (A → Result Q Fault) → (Q → Q → Bool) → Q → List A → Type 0
Stops key same q [] = Unit {0}
Stops key same q (a ∷ more) = Differs key same q a

-- a longest stretch whose keys equal its first key, where these items come after it
pub record IsRun {A Q : Type 0} (key : A → Result Q Fault) (same : Q → Q → Bool) (r : Run A Q) (after : List A) : Type 0 where
  pub first_key : key r.first ≡ Ok r.key
  pub equal : AllEqual key same r.key r.more
  pub longest : Stops key same r.key after

-- a list is these runs, one after another
abbrev pub Runs : {A Q : Type 0} → (A → Result Q Fault) → (Q → Q → Bool) → List A → List (Run A Q) → Type 0
Runs key same xs [] = xs ≡ []
Runs {A} {Q} key same xs (r ∷ rs) = (after : List A) × (xs ≡ r.first ∷ (r.more ++ after)) × IsRun key same r after × Runs key same after rs

-- there is a key for each item
abbrev pub HasKeys : {A Q : Type 0} → (A → Result Q Fault) → List A → Type 0
HasKeys key [] = Unit {0}
HasKeys {A} {Q} key (a ∷ more) = ((q : Q) × (key a ≡ Ok q)) × HasKeys key more

-- a list divides into runs, and in one way
pub record OneDivision {A Q : Type 0} (key : A → Result Q Fault) (same : Q → Q → Bool) (xs : List A) : Type 0 where
  pub runs : List (Run A Q)
  pub divided : Runs key same xs runs
  pub only : (others : List (Run A Q)) → Runs key same xs others → others ≡ runs

-- how many items lie before the run of this place, counted from 0
abbrev pub place : {A Q : Type 0} → ℕ → List (Run A Q) → ℕ
place zero rs = 0
place (suc i) [] = 0
place (suc i) (r ∷ rs) = length (members r) + place i rs
