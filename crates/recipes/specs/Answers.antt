-- What recipes answer, by the steps that their source has ahead. A fault in front of the answer is handed on.
use Rattle.std.specs.Prelude.{◌≡◌, ℕ, ◌+◌, ◌-◌, ◌*◌, ◌<◌, ◌^◌, ◌==◌, ◌⊎◌, Bool, true, false, cond, nat_lt, List, [], ◌∷◌, ◌++◌, map, length, Some, None, Option, Ok, Err, Result}
use Rattle.std.specs.List.{slice_get}
use Rattle.steps.specs.declared.fault.Fault.{Fault}
use Rattle.steps.specs.declared.fault.TheConstants.Fault.{JOINING}
use Rattle.steps.specs.declared.call_error.CallError.{CallError}
use Rattle.steps.specs.declared.call_error.CallError.TheVariants.{Broken}
use Rattle.steps.specs.Steps.{Step}
use Rattle.rules.specs.Joining.{sum}
use Rattle.laws.specs.Items.{Decided}
use Rattle.laws.specs.ZipLongest.{zipped}

-- the item number n, counted from 0
abbrev pub nth_of : {A : Type 0} → ℕ → List (Step A) → Result (Option A) Fault
nth_of n [] = Ok None
nth_of n (Err f ∷ ss) = Err f
nth_of n (Ok a ∷ ss) = cond (n == 0) (Ok (Some a)) (nth_of (n - 1) ss)

-- and what is left behind it, or behind a fault in front of it
abbrev pub nth_left : {A : Type 0} → ℕ → List (Step A) → List (Step A)
nth_left n [] = []
nth_left n (Err f ∷ ss) = ss
nth_left n (Ok a ∷ ss) = cond (n == 0) ss (nth_left (n - 1) ss)

-- Over a source without faults it is the item at that place of the list.
abbrev pub AtPlace : {A : Type 0} → ℕ → List (Step A) → Result (Option A) Fault → Type 0
AtPlace {A} n ss r = (xs : List A) → ss ≡ map Ok xs → r ≡ Ok (slice_get xs n)

-- the first item that is accepted
abbrev pub first_on : {A : Type 0} → Result Bool Fault → A → Result (Option A) Fault → Result (Option A) Fault
first_on (Ok true) a more = Ok (Some a)
first_on (Ok false) a more = more
first_on (Err f) a more = Err f

abbrev pub first_of : {A : Type 0} → (A → Result Bool Fault) → List (Step A) → Result (Option A) Fault
first_of p [] = Ok None
first_of p (Err f ∷ ss) = Err f
first_of p (Ok a ∷ ss) = first_on (p a) a (first_of p ss)

-- each of a list is denied
abbrev pub AllDenied : {A : Type 0} → (A → Result Bool Fault) → List A → Type 0
AllDenied p [] = Unit {0}
AllDenied p (a ∷ xs) = (p a ≡ Ok false) × AllDenied p xs

-- it is accepted and all in front of it are denied
pub record FirstAt {A : Type 0} (p : A → Result Bool Fault) (xs : List A) (r : Result (Option A) Fault) : Type 0 where
  pub front : List A
  pub found : A
  pub behind : List A
  pub all : xs ≡ front ++ found ∷ behind
  pub passed : AllDenied p front
  pub accepted : p found ≡ Ok true
  pub answers : r ≡ Ok (Some found)

-- Over a source without faults and a predicate that answers yes or no: none is there and all are denied, or it is the first.
abbrev pub FirstAccepted : {A : Type 0} → (A → Result Bool Fault) → List (Step A) → Result (Option A) Fault → Type 0
FirstAccepted {A} p ss r = (xs : List A) → ss ≡ map Ok xs → Decided p xs → (AllDenied p xs × (r ≡ Ok None)) ⊎ FirstAt p xs r

-- how many items are accepted, from n on
abbrev pub raised_to : Result ℕ Fault → (ℕ → Result ℕ Fault) → Result ℕ Fault
raised_to (Ok m) more = more m
raised_to (Err f) more = Err f

abbrev pub count_on : Result Bool Fault → ℕ → (ℕ → Result ℕ Fault) → Result ℕ Fault
count_on (Ok true) n more = raised_to (sum n 1) more
count_on (Ok false) n more = more n
count_on (Err f) n more = Err f

abbrev pub count_of : {A : Type 0} → (A → Result Bool Fault) → ℕ → List (Step A) → Result ℕ Fault
count_of p n [] = Ok n
count_of p n (Err f ∷ ss) = Err f
count_of p n (Ok a ∷ ss) = count_on (p a) n (λ m. count_of p m ss)

abbrev pub keep_on : {A : Type 0} → Result Bool Fault → A → List A → List A
keep_on (Ok true) a more = a ∷ more
keep_on (Ok false) a more = more
keep_on (Err f) a more = more

-- the accepted items of a list, in order
abbrev pub kept_of : {A : Type 0} → (A → Result Bool Fault) → List A → List A
kept_of p [] = []
kept_of p (a ∷ xs) = keep_on (p a) a (kept_of p xs)

-- Over a source without faults and a predicate that answers yes or no: it is the length of the list of accepted items.
abbrev pub CountsKept : {A : Type 0} → (A → Result Bool Fault) → List (Step A) → Result ℕ Fault → Type 0
CountsKept {A} p ss r = (xs : List A) → ss ≡ map Ok xs → Decided p xs → length xs < 2 ^ 64 → r ≡ Ok (length (kept_of p xs))

-- the product, where 64 bits hold it; else the fault of a joining
abbrev pub product : ℕ → ℕ → Result ℕ Fault
product a b = cond (nat_lt (a * b) (2 ^ 64)) (Ok (a * b)) (Err (record { origin = JOINING; cause = 1; place = 0 }))

-- the sum of the products of pairs, from n on
abbrev pub dot_of : ℕ → List (Step (ℕ × ℕ)) → Result ℕ Fault
dot_of n [] = Ok n
dot_of n (Err f ∷ ss) = Err f
dot_of n (Ok p ∷ ss) = raised_to (product p.0 p.1) (λ q. raised_to (sum n q) (λ m. dot_of m ss))

-- the sum of the products of two lists, place by place
abbrev pub dot_product : List ℕ → List ℕ → ℕ
dot_product [] ys = 0
dot_product (a ∷ xs) [] = 0
dot_product (a ∷ xs) (b ∷ ys) = a * b + dot_product xs ys

-- Over two sources without faults it is that of their lists, where 64 bits hold it.
abbrev pub EachDot : Type 0
EachDot = (xs ys : List ℕ) → dot_product xs ys < 2 ^ 64 → dot_of 0 (zipped 0 0 (map Ok xs) (map Ok ys)) ≡ Ok (dot_product xs ys)

-- whether all items equal a first one, up to the first that differs
abbrev pub alike_from : {A : Type 0} → (A → A → Bool) → A → List (Step A) → Result Bool CallError
alike_from same a [] = Ok true
alike_from same a (Err f ∷ ss) = Err (Broken f)
alike_from same a (Ok b ∷ ss) = cond (same b a) (alike_from same a ss) (Ok false)

abbrev pub alike_of : {A : Type 0} → (A → A → Bool) → List (Step A) → Result Bool CallError
alike_of same [] = Ok true
alike_of same (Err f ∷ ss) = Err (Broken f)
alike_of same (Ok a ∷ ss) = alike_from same a ss

-- Over a source without faults: each of the items equals the first, or one is there that does not.
abbrev pub AllAlike : {A : Type 0} → (A → A → Bool) → A → List A → Type 0
AllAlike same a [] = Unit {0}
AllAlike same a (b ∷ xs) = (same b a ≡ true) × AllAlike same a xs

abbrev pub OneDiffers : {A : Type 0} → (A → A → Bool) → A → List A → Type 0
OneDiffers {A} same a xs = (front : List A) × (b : A) × (behind : List A) × (xs ≡ front ++ b ∷ behind) × (same b a ≡ false)

abbrev pub EachAlike : Type 0 → Type 0
EachAlike A = (same : A → A → Bool) (a : A) (xs : List A) →
    (AllAlike same a xs × (alike_of same (map Ok (a ∷ xs)) ≡ Ok true)) ⊎ (OneDiffers same a xs × (alike_of same (map Ok (a ∷ xs)) ≡ Ok false))

-- what these mean, for every list of steps
abbrev pub EachNth : Type 0 → Type 0
EachNth A = (n : ℕ) (ss : List (Step A)) → AtPlace n ss (nth_of n ss)

abbrev pub EachFirst : Type 0 → Type 0
EachFirst A = (p : A → Result Bool Fault) (ss : List (Step A)) → FirstAccepted p ss (first_of p ss)

abbrev pub EachCount : Type 0 → Type 0
EachCount A = (p : A → Result Bool Fault) (ss : List (Step A)) → CountsKept p ss (count_of p 0 ss)

-- A fault comes up where what is in front of it has not answered: no more items than the number that is asked for, none that
-- is accepted, or none that is neither accepted nor denied. The predicate's fault at an item comes up likewise.
pub record HandsOn (A : Type 0) : Type 0 where
  pub nth : (n : ℕ) (front : List A) (f : Fault) (more : List (Step A)) → length front < n + 1 → nth_of n (map Ok front ++ Err f ∷ more) ≡ Err f
  pub first : (p : A → Result Bool Fault) (front : List A) (f : Fault) (more : List (Step A)) → AllDenied p front →
      first_of p (map Ok front ++ Err f ∷ more) ≡ Err f
  pub first_own : (p : A → Result Bool Fault) (front : List A) (a : A) (f : Fault) (more : List (Step A)) → AllDenied p front → p a ≡ Err f →
      first_of p (map Ok front ++ Ok a ∷ more) ≡ Err f
  pub count : (p : A → Result Bool Fault) (front : List A) (f : Fault) (more : List (Step A)) → Decided p front → length front < 2 ^ 64 →
      count_of p 0 (map Ok front ++ Err f ∷ more) ≡ Err f
  pub count_own : (p : A → Result Bool Fault) (front : List A) (a : A) (f : Fault) (more : List (Step A)) → Decided p front → length front < 2 ^ 64 →
      p a ≡ Err f → count_of p 0 (map Ok front ++ Ok a ∷ more) ≡ Err f
  pub alike : (same : A → A → Bool) (a : A) (front : List A) (f : Fault) (more : List (Step A)) → AllAlike same a front →
      alike_of same (Ok a ∷ (map Ok front ++ Err f ∷ more)) ≡ Err (Broken f)

-- a charge above a limit
abbrev pub above : ℕ → ℕ → Result Bool Fault
above limit n = Ok (nat_lt limit n)
