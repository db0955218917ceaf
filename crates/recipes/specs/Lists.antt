-- The lists that recipes give, by the steps that their sources have ahead.
use Rattle.std.specs.Prelude.{◌≡◌, ℕ, zero, suc, ◌+◌, ◌*◌, ◌%◌, ◌<◌, Bool, cond, List, [], ◌∷◌, ◌++◌, map, length, replicate, Some, None, Option, Ok, Err, Result}
use Rattle.std.specs.List.{slice_get}
use Rattle.steps.specs.Steps.{Step}
use Rattle.steps.specs.Refusals.{refusal_number}
use Rattle.steps.specs.declared.fault.Fault.{Fault}
use Rattle.laws.specs.Runs.{Run, Runs}
use Rattle.recipes.specs.declared.rule_error.RuleError.{RuleError}
use Rattle.recipes.specs.declared.rule_error.RuleError.TheVariants.{Broken, Refused, Memory}

-- the number of the refusal, where it is one
abbrev pub number_of : RuleError → Option ℕ
number_of (Broken f) = None
number_of (Refused r) = Some (refusal_number r)
number_of (Memory e) = None

abbrev pub refusal_of : {A : Type 0} → Result A RuleError → Option ℕ
refusal_of (Ok v) = None
refusal_of (Err e) = number_of e

-- all steps are items, and this holds of their list
abbrev pub OverItems : {A : Type 0} → List (Step A) → (List A → Type 0) → Type 0
OverItems {A} ss P = (xs : List A) × (ss ≡ map Ok xs) × P xs

-- where a fault ended it, this holds of that fault
abbrev pub OnFault : {A : Type 0} → Result A RuleError → (Fault → Type 0) → Type 0
OnFault (Ok v) P = Unit {0}
OnFault (Err (Broken f)) P = P f
OnFault (Err (Refused r)) P = Unit {0}
OnFault (Err (Memory e)) P = Unit {0}

-- it is the first of some faults
abbrev pub FirstOf : List Fault → Fault → Type 0
FirstOf fs f = (more : List Fault) × (fs ≡ f ∷ more)

-- each three in a row
abbrev pub triples_of : {A : Type 0} → List A → List (A × A × A)
triples_of [] = []
triples_of (a ∷ []) = []
triples_of (a ∷ (b ∷ [])) = []
triples_of (a ∷ (b ∷ (c ∷ xs))) = (a, b, c) ∷ triples_of (b ∷ (c ∷ xs))

-- a list n times over
abbrev pub times : {A : Type 0} → ℕ → List A → List A
times zero xs = []
times (suc n) xs = xs ++ times n xs

-- the places of those that equal a value, counted from n
abbrev pub places_of : {A : Type 0} → (A → A → Bool) → A → ℕ → List A → List ℕ
places_of equal value n [] = []
places_of equal value n (a ∷ xs) = cond (equal a value) (n ∷ places_of equal value (n + 1) xs) (places_of equal value (n + 1) xs)

-- the items, and behind them fewer than n fills, so that runs of n make up all
abbrev pub InRuns : {A : Type 0} → ℕ → A → List A → List A → Type 0
InRuns n fill xs ys = (k : ℕ) × (ys ≡ xs ++ replicate k fill) × (k < n) × (length ys % n ≡ 0)

-- every third of a list from the second: those at the places 1, 4, 7 and so on
abbrev pub EachThird : {A : Type 0} → List A → List A → Type 0
EachThird xs ys = (k : ℕ) → slice_get ys k ≡ slice_get xs (1 + k * 3)

-- the pairs whose sides differ, in order
abbrev pub differing : {A : Type 0} → (A → A → Bool) → List (A × A) → List (A × A)
differing equal [] = []
differing equal (p ∷ ps) = cond (equal p.0 p.1) (differing equal ps) (p ∷ differing equal ps)

-- the items divide into runs, longest stretches whose keys equal their first key, and these are the first items of the runs
abbrev pub FirstOfEachRun : {A Q : Type 0} → (A → Result Q Fault) → (Q → Q → Bool) → List A → List A → Type 0
FirstOfEachRun {A} {Q} key same xs ys = (rs : List (Run A Q)) × Runs key same xs rs × (ys ≡ map (λ r. r.first) rs)
