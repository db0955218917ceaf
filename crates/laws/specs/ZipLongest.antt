-- zip_longest of two: pairs until both sources have ended, with a fill for the one that ended first.
use Rattle.std.specs.Prelude.{◌≡◌, ℕ, ◌+◌, List, [], ◌∷◌, ◌++◌, map, length, take, drop, Some, None, Option, Ok, Err}
use Rattle.std.specs.List.{slice_get}
use Rattle.steps.specs.Steps.{Step, rest}
use Rattle.laws.specs.Items.{faults}
use Rattle.laws.specs.Run.{Call, Both}

-- once the left has ended
abbrev pub filled : {A B : Type 0} → A → List (Step B) → List (Step (A × B))
filled fill [] = []
filled fill (Ok b ∷ ts) = Ok (fill, b) ∷ filled fill ts
filled fill (Err f ∷ ts) = Err f ∷ filled fill ts

-- a left fault draws nothing on the right; a right fault loses the left item
abbrev pub zipped : {A B : Type 0} → A → B → List (Step A) → List (Step B) → List (Step (A × B))
zipped l r [] ts = filled l ts
zipped l r (Err f ∷ ss) ts = Err f ∷ zipped l r ss ts
zipped l r (Ok a ∷ ss) [] = Ok (a, r) ∷ zipped l r ss []
zipped l r (Ok a ∷ ss) (Ok b ∷ ts) = Ok (a, b) ∷ zipped l r ss ts
zipped l r (Ok a ∷ ss) (Err f ∷ ts) = Err f ∷ zipped l r ss ts

-- what a call leaves of the right source
abbrev pub right_left : {A B : Type 0} → List (Step A) → List (Step B) → List (Step B)
right_left [] ts = rest ts
right_left (Ok a ∷ ss) ts = rest ts
right_left (Err f ∷ ss) ts = ts

-- the calls of a run, with what each leaves of the two sources
abbrev pub filled_run : {A B : Type 0} → A → List (Step B) → List (Call (A × B) (Both A B))
filled_run fill [] = []
filled_run fill (Ok b ∷ ts) = record { step = Ok (fill, b); left = record { first = []; second = ts } } ∷ filled_run fill ts
filled_run fill (Err f ∷ ts) = record { step = Err f; left = record { first = []; second = ts } } ∷ filled_run fill ts

abbrev pub zipped_run : {A B : Type 0} → A → B → List (Step A) → List (Step B) → List (Call (A × B) (Both A B))
zipped_run l r [] ts = filled_run l ts
zipped_run l r (Err f ∷ ss) ts = record { step = Err f; left = record { first = ss; second = ts } } ∷ zipped_run l r ss ts
zipped_run l r (Ok a ∷ ss) [] = record { step = Ok (a, r); left = record { first = ss; second = [] } } ∷ zipped_run l r ss []
zipped_run l r (Ok a ∷ ss) (Ok b ∷ ts) = record { step = Ok (a, b); left = record { first = ss; second = ts } } ∷ zipped_run l r ss ts
zipped_run l r (Ok a ∷ ss) (Err f ∷ ts) = record { step = Err f; left = record { first = ss; second = ts } } ∷ zipped_run l r ss ts

-- Over two sources without faults: the k-th pair has the k-th item of each, or its side's fill, as long as one of them has a k-th item.
abbrev pub wide : {A B : Type 0} → A → B → Option A → Option B → Option (Step (A × B))
wide l r None None = None
wide l r (Some a) None = Some (Ok (a, r))
wide l r None (Some b) = Some (Ok (l, b))
wide l r (Some a) (Some b) = Some (Ok (a, b))

abbrev pub LongestZip : {A B : Type 0} → A → B → List (Step A) → List (Step B) → List (Step (A × B)) → Type 0
LongestZip {A} {B} l r ss ts gives = (xs : List A) (ys : List B) → ss ≡ map Ok xs → ts ≡ map Ok ys → (k : ℕ) → slice_get gives k ≡ wide l r (slice_get xs k) (slice_get ys k)

-- With and without faults: each call draws one step of the left source, and one of the right but where the left gave a fault. A source
-- that has ended is asked again, and has none to give.
abbrev pub OneOfEach : {A B : Type 0} → List (Step A) → List (Step B) → List (Call (A × B) (Both A B)) → Type 0
OneOfEach {A} {B} ss ts run = (before after : List (Call (A × B) (Both A B))) (c : Call (A × B) (Both A B)) → run ≡ before ++ c ∷ after →
    (asked : ℕ) × (asked + length (faults (take (length before + 1) ss)) ≡ length before + 1)
    × (c.left.first ≡ drop (length before + 1) ss) × (c.left.second ≡ drop asked ts)
