-- keys: the key of each item of its source, by a key kind.
use Rattle.std.specs.Prelude.{◌≡◌, ℕ, List, [], ◌∷◌, length, Some, Ok, Err, Result}
use Rattle.std.specs.List.{slice_get}
use Rattle.steps.specs.declared.fault.Fault.{Fault}
use Rattle.steps.specs.Steps.{Step}
use Rattle.laws.specs.Run.{Call}

-- a fault of the source stays where it is, and a key's fault takes its item's place
abbrev pub keys : {A Q : Type 0} → (A → Result Q Fault) → List (Step A) → List (Step Q)
keys key [] = []
keys key (Ok a ∷ ss) = key a ∷ keys key ss
keys key (Err f ∷ ss) = Err f ∷ keys key ss

-- the calls of a run, with what each leaves of the source
abbrev pub keys_run : {A Q : Type 0} → (A → Result Q Fault) → List (Step A) → List (Call Q (List (Step A)))
keys_run key [] = []
keys_run key (Ok a ∷ ss) = record { step = key a; left = ss } ∷ keys_run key ss
keys_run key (Err f ∷ ss) = record { step = Err f; left = ss } ∷ keys_run key ss

-- With and without faults: there are as many steps as the source has, and the k-th is the key of the k-th item of the source, the
-- fault that this key is, or the fault that the source has there.
pub record KeyOfEach {A Q : Type 0} (key : A → Result Q Fault) (ss : List (Step A)) (gives : List (Step Q)) : Type 0 where
  pub key_there : (k : ℕ) (a : A) → slice_get ss k ≡ Some (Ok a) → slice_get gives k ≡ Some (key a)
  pub fault_there : (k : ℕ) (f : Fault) → slice_get ss k ≡ Some (Err f) → slice_get gives k ≡ Some (Err f)
  pub count : length gives ≡ length ss
