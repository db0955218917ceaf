-- chain of two: the steps of the first source, then those of the second, cut after the first fault.
use Rattle.std.specs.Prelude.{◌≡◌, ◌⊎◌, List, [], ◌∷◌, ◌++◌, map, Ok, Err}
use Rattle.steps.specs.Steps.{Step}
use Rattle.steps.specs.declared.fault.Fault.{Fault}
use Rattle.laws.specs.Run.{Call, Both}

abbrev pub until_fault : {A : Type 0} → List (Step A) → List (Step A)
until_fault [] = []
until_fault (Ok a ∷ ss) = Ok a ∷ until_fault ss
until_fault (Err f ∷ ss) = Err f ∷ []

-- the calls of a run once the first source has ended, and what is left of both by its end
abbrev pub second_run : {A : Type 0} → List (Step A) → List (Step A) → List (Call A (Both A A))
second_run ss [] = []
second_run ss (Ok a ∷ ts) = record { step = Ok a; left = record { first = ss; second = ts } } ∷ second_run ss ts
second_run ss (Err f ∷ ts) = record { step = Err f; left = record { first = ss; second = ts } } ∷ []

abbrev pub second_end : {A : Type 0} → List (Step A) → List (Step A) → Both A A
second_end ss [] = record { first = ss; second = [] }
second_end ss (Ok a ∷ ts) = second_end ss ts
second_end ss (Err f ∷ ts) = record { first = ss; second = ts }

-- the same from the start
abbrev pub first_run : {A : Type 0} → List (Step A) → List (Step A) → List (Call A (Both A A))
first_run [] ts = second_run [] ts
first_run (Ok a ∷ ss) ts = record { step = Ok a; left = record { first = ss; second = ts } } ∷ first_run ss ts
first_run (Err f ∷ ss) ts = record { step = Err f; left = record { first = ss; second = ts } } ∷ []

abbrev pub first_end : {A : Type 0} → List (Step A) → List (Step A) → Both A A
first_end [] ts = second_end [] ts
first_end (Ok a ∷ ss) ts = first_end ss ts
first_end (Err f ∷ ss) ts = record { first = ss; second = ts }

-- Over two sources without faults: one list after the other.
abbrev pub OneAfterOther : {A : Type 0} → List (Step A) → List (Step A) → List (Step A) → Type 0
OneAfterOther {A} ss ts gives = (xs ys : List A) → ss ≡ map Ok xs → ts ≡ map Ok ys → gives ≡ map Ok (xs ++ ys)

-- With and without faults: what is given and what is left below make up both lists, so no step is lost. The items in front of the
-- first fault are given, and that fault, last of all. Nothing of the second source is drawn before the first has ended.
abbrev pub SecondLater : {A : Type 0} → List (Step A) → Both A A → Type 0
SecondLater ts left = (left.second ≡ ts) ⊎ (left.first ≡ [])

pub record CutAtFault {A : Type 0} (ss ts gives : List (Step A)) (run : List (Call A (Both A A))) (end : Both A A) : Type 0 where
  pub none_lost : gives ++ (end.first ++ end.second) ≡ ss ++ ts
  pub items : List A
  pub cut : ((gives ≡ map Ok items) × (end.first ≡ []) × (end.second ≡ [])) ⊎ ((f : Fault) × (gives ≡ map Ok items ++ Err f ∷ []))
  pub later : (before after : List (Call A (Both A A))) (c : Call A (Both A A)) → run ≡ before ++ c ∷ after → SecondLater ts c.left
  pub end_later : SecondLater ts end
