-- pairwise: each item with the one before it.
use Rattle.std.specs.Prelude.{◌≡◌, ℕ, suc, ◌+◌, List, [], ◌∷◌, ◌++◌, map, length, Some, None, Option, Ok, Err}
use Rattle.std.specs.List.{slice_get}
use Rattle.steps.specs.Steps.{Step, rest}
use Rattle.laws.specs.Items.{items}
use Rattle.laws.specs.Run.{Call, given_by}

-- after the item that came last
abbrev pub paired : {A : Type 0} → A → List (Step A) → List (Step (A × A))
paired old [] = []
paired old (Ok a ∷ ss) = Ok (old, a) ∷ paired a ss
paired old (Err f ∷ ss) = Err f ∷ paired old ss

-- before the first pair: a call draws two items, and a fault at the second loses the first
abbrev pub unpaired : {A : Type 0} → List (Step A) → List (Step (A × A))
unpaired [] = []
unpaired (Err f ∷ ss) = Err f ∷ unpaired ss
unpaired (Ok a ∷ []) = []
unpaired (Ok a ∷ (Err f ∷ ss)) = Err f ∷ unpaired ss
unpaired (Ok a ∷ (Ok b ∷ ss)) = Ok (a, b) ∷ paired b ss

-- what a pairwise has ahead, with the item that it keeps for the next pair
abbrev pub pairs : {A : Type 0} → Option A → List (Step A) → List (Step (A × A))
pairs None ss = unpaired ss
pairs (Some old) ss = paired old ss

-- what a call leaves of the source
abbrev pub unpaired_left : {A : Type 0} → List (Step A) → List (Step A)
unpaired_left [] = []
unpaired_left (Err f ∷ ss) = ss
unpaired_left (Ok a ∷ ss) = rest ss

abbrev pub pairs_left : {A : Type 0} → Option A → List (Step A) → List (Step A)
pairs_left None ss = unpaired_left ss
pairs_left (Some old) ss = rest ss

-- the item that is kept for the next pair, after a call
abbrev pub next_old : {A : Type 0} → Option A → List (Step A) → Option A
next_old old [] = old
next_old old (Ok a ∷ ss) = Some a
next_old old (Err f ∷ ss) = old

abbrev pub first_old : {A : Type 0} → List (Step A) → Option A
first_old [] = None
first_old (Err f ∷ ss) = None
first_old (Ok a ∷ ss) = next_old None ss

abbrev pub pairs_old : {A : Type 0} → Option A → List (Step A) → Option A
pairs_old None ss = first_old ss
pairs_old (Some old) ss = next_old (Some old) ss

-- the calls of a run, with what each leaves of the source
abbrev pub paired_run : {A : Type 0} → A → List (Step A) → List (Call (A × A) (List (Step A)))
paired_run old [] = []
paired_run old (Ok a ∷ ss) = record { step = Ok (old, a); left = ss } ∷ paired_run a ss
paired_run old (Err f ∷ ss) = record { step = Err f; left = ss } ∷ paired_run old ss

abbrev pub unpaired_run : {A : Type 0} → List (Step A) → List (Call (A × A) (List (Step A)))
unpaired_run [] = []
unpaired_run (Err f ∷ ss) = record { step = Err f; left = ss } ∷ unpaired_run ss
unpaired_run (Ok a ∷ []) = []
unpaired_run (Ok a ∷ (Err f ∷ ss)) = record { step = Err f; left = ss } ∷ unpaired_run ss
unpaired_run (Ok a ∷ (Ok b ∷ ss)) = record { step = Ok (a, b); left = ss } ∷ paired_run b ss

abbrev pub pairs_run : {A : Type 0} → Option A → List (Step A) → List (Call (A × A) (List (Step A)))
pairs_run None ss = unpaired_run ss
pairs_run (Some old) ss = paired_run old ss

-- Over a source without faults: the k-th pair is the k-th item with the next.
abbrev pub pair_of : {A : Type 0} → Option A → Option A → Option (Step (A × A))
pair_of None o = None
pair_of (Some a) None = None
pair_of (Some a) (Some b) = Some (Ok (a, b))

abbrev pub Neighbours : {A : Type 0} → List (Step A) → List (Step (A × A)) → Type 0
Neighbours {A} ss gives = (xs : List A) → ss ≡ map Ok xs → (k : ℕ) → slice_get gives k ≡ pair_of (slice_get xs k) (slice_get xs (k + 1))

-- a list of steps from the first place where two items stand side by side
abbrev pub from_pair : {A : Type 0} → List (Step A) → List (Step A)
from_pair [] = []
from_pair (Err f ∷ ss) = from_pair ss
from_pair (Ok a ∷ []) = []
from_pair (Ok a ∷ (Err f ∷ ss)) = from_pair ss
from_pair (Ok a ∷ (Ok b ∷ ss)) = Ok a ∷ (Ok b ∷ ss)

-- With and without faults: once a pair was given, as many items are drawn as pairs were given, and one, and those that were lost, which
-- are the items in front of the first place where two stand side by side.
abbrev pub PairsDrawn : {A : Type 0} → List (Step A) → List (Call (A × A) (List (Step A))) → Type 0
PairsDrawn {A} ss run = (before after : List (Call (A × A) (List (Step A)))) (c : Call (A × A) (List (Step A))) (n : ℕ) → run ≡ before ++ c ∷ after →
    length (items (given_by (before ++ c ∷ []))) ≡ suc n →
    (drawn : List (Step A)) × (ss ≡ drawn ++ c.left) × (length (items drawn) + length (items (from_pair ss)) ≡ suc n + 1 + length (items ss))
