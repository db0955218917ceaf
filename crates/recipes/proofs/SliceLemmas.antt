-- What an islice gives, where it meets no fault, and which fault it gives first.
use Rattle.std.proofs.Common.{◌≡◌, ℕ, zero, suc, ◌+◌, ◌*◌, ◌^◌, ◌<◌, ◌≤◌, ◌⊎◌, inl, inr, Bool, true, false, cond, nat_le, nat_lt, List, [], ◌∷◌, ◌++◌, map, length, take, Some, None, Option, Ok, Err, refl, sym, ap, ◌∙◌, subst, arith}
use Rattle.std.specs.List.{slice_get}
use Rattle.std.proofs.lemmas.Bool.{cond-true, cond-false, ltb-false}
use Rattle.std.proofs.lemmas.Option.{slice_get_past}
use Rattle.steps.specs.Steps.{Step}
use Rattle.laws.specs.Items.{items, faults, given}
use Rattle.steps.specs.declared.fault.Fault.{Fault}
use Rattle.recipes.specs.Lists.{OverItems, FirstOf, EachThird}
use Rattle.recipes.proofs.ListLemmas.{all_items, over_items}
use Rattle.laws.specs.Islice.{Bounds, SliceMade, below_stop, slice_end, bounds, maxsize, until, raised, counted, slices}

no_fault : {f : Fault} {fs : List Fault} → ◌≡◌ {A = List Fault} [] (f ∷ fs) → ⊥
no_fault e = cc

take_none : {A : Type 0} (k : ℕ) → take {A = A} k [] ≡ []
take_none zero = refl
take_none (suc k) = refl

-- with c items given and k to give: an item is given
give_one : {A : Type 0} (k c : ℕ) (a : A) (ss : List (Step A)) → c + suc k < 2 ^ 64 →
    slices (Some (c + suc k)) 1 (Some c) c (Ok a ∷ ss) ≡ Ok a ∷ slices (Some (c + 1 + k)) 1 (Some (c + 1)) (c + 1) ss
give_one k c a ss h =
    let z : nat_le (c + suc k) c ≡ false = grind arith in
    let y : nat_lt c c ≡ false = grind arith in
    let r : raised c 1 ≡ Some (c + 1) = grind arith in
    let n : c + suc k ≡ c + 1 + k = omega arith in
    cond-false _ _ _ z ∙ cond-false _ _ _ y ∙ ap (λ o. Ok a ∷ slices (Some (c + suc k)) 1 o (counted o c) ss) r
    ∙ ap (λ m. Ok a ∷ slices (Some m) 1 (Some (c + 1)) (c + 1) ss) n

taken_from : {A : Type 0} (k c : ℕ) (ss : List (Step A)) (xs : List A) → c + k < 2 ^ 64 → slices (Some (c + k)) 1 (Some c) c ss ≡ map Ok xs → take k ss ≡ map Ok xs
taken_from k c [] xs h e = take_none k ∙ e
taken_from zero c (Ok a ∷ ss) xs h e = let z : nat_le (c + 0) c ≡ true = grind arith in sym (cond-true _ _ _ z) ∙ e
taken_from zero c (Err f ∷ ss) xs h e = let z : nat_le (c + 0) c ≡ true = grind arith in sym (cond-true _ _ _ z) ∙ e
taken_from (suc k) c (Ok a ∷ ss) [] h e = let w = sym (give_one k c a ss h) ∙ e in cc
taken_from (suc k) c (Ok a ∷ ss) (x ∷ xs) h e =
    let w = sym (give_one k c a ss h) ∙ e in
    let i : a ≡ x = cc in
    let t : slices (Some (c + 1 + k)) 1 (Some (c + 1)) (c + 1) ss ≡ map Ok xs = cc in
    ap (λ us. Ok a ∷ us) (taken_from k (c + 1) ss xs (omega arith) t) ∙ ap (λ b. Ok b ∷ map Ok xs) i
taken_from (suc k) c (Err f ∷ ss) [] h e = let z : nat_le (c + suc k) c ≡ false = grind arith in let w = sym (cond-false _ _ _ z) ∙ e in cc
taken_from (suc k) c (Err f ∷ ss) (x ∷ xs) h e = let z : nat_le (c + suc k) c ≡ false = grind arith in let w = sym (cond-false _ _ _ z) ∙ e in cc

-- the first fault of what is given is the first among those k steps
broken_from : {A : Type 0} (k c : ℕ) (ss : List (Step A)) (f : Fault) → c + k < 2 ^ 64 → FirstOf (faults (slices (Some (c + k)) 1 (Some c) c ss)) f → FirstOf (faults (take k ss)) f
broken_from k c [] f h e = let n = e.1 in absurd (no_fault n)
broken_from zero c (Ok a ∷ ss) f h e = let z : nat_le (c + 0) c ≡ true = grind arith in absurd (no_fault (sym (ap faults (cond-true _ _ _ z)) ∙ e.1))
broken_from zero c (Err g ∷ ss) f h e = let z : nat_le (c + 0) c ≡ true = grind arith in absurd (no_fault (sym (ap faults (cond-true _ _ _ z)) ∙ e.1))
broken_from (suc k) c (Ok a ∷ ss) f h e = broken_from k (c + 1) ss f (omega arith) (e.0, sym (ap faults (give_one k c a ss h)) ∙ e.1)
broken_from (suc k) c (Err g ∷ ss) f h e =
    let z : nat_le (c + suc k) c ≡ false = grind arith in
    let w = sym (ap faults (cond-false _ _ _ z)) ∙ e.1 in
    (faults (take k ss), cc)

-- arguments that are read are those that were given, and the stop is no more than the limit
read_one : (n : ℕ) (read : Bounds) → bounds (Some n ∷ []) ≡ Some read → (read ≡ record { start = 0; stop = Some n; step = 1 }) × (n ≤ maxsize)
read_one n read e = grind arith

until_one : (n : ℕ) → until 0 (Some n) ≡ Some n
until_one zero = refl
until_one (suc n) = let z : nat_lt 0 (suc n) ≡ true = grind arith in ap Some (cond-true _ _ _ z)

-- what an islice of one argument gives
taken_is : {A : Type 0} (n : ℕ) (ss : List (Step A)) (cur : ℕ) (next stop : Option ℕ) (step : ℕ) → SliceMade (Some n ∷ []) ss cur next stop step →
    (slices stop step next cur ss ≡ slices (Some (0 + n)) 1 (Some 0) 0 ss) × (0 + n < 2 ^ 64)
taken_is n ss cur next stop step m =
    let r = read_one n m.read m.from_arguments in
    let a : cur ≡ 0 = m.none_drawn in
    let b : next ≡ Some 0 = m.next_is ∙ ap (λ (q : Bounds). Some q.start) r.0 in
    let c : stop ≡ Some n = m.stop_is ∙ ap (λ (q : Bounds). until q.start q.stop) r.0 ∙ until_one n in
    let d : step ≡ 1 = m.step_is ∙ ap (λ (q : Bounds). q.step) r.0 in
    let z : n ≡ 0 + n = omega arith in (
      ap (λ u. slices stop step next u ss) a ∙ ap (λ o. slices stop step o 0 ss) b ∙ ap (λ u. slices stop u (Some 0) 0 ss) d ∙ ap (λ o. slices o 1 (Some 0) 0 ss) c
          ∙ ap (λ k. slices (Some k) 1 (Some 0) 0 ss) z,
      omega (arith, r.1),
    )

pub taken : {A : Type 0} (n : ℕ) (ss : List (Step A)) (cur : ℕ) (next stop : Option ℕ) (step : ℕ) (xs : List A) → SliceMade (Some n ∷ []) ss cur next stop step →
    slices stop step next cur ss ≡ map Ok xs → take n ss ≡ map Ok xs
taken n ss cur next stop step xs m e = let i = taken_is n ss cur next stop step m in taken_from n 0 ss xs i.1 (sym i.0 ∙ e)

pub broken : {A : Type 0} (n : ℕ) (ss : List (Step A)) (cur : ℕ) (next stop : Option ℕ) (step : ℕ) (f : Fault) → SliceMade (Some n ∷ []) ss cur next stop step →
    FirstOf (faults (slices stop step next cur ss)) f → FirstOf (faults (take n ss)) f
broken n ss cur next stop step f m e = let i = taken_is n ss cur next stop step m in broken_from n 0 ss f i.1 (e.0, sym (ap faults i.0) ∙ e.1)

read_thirds : (read : Bounds) → bounds (Some 1 ∷ (None ∷ (Some 3 ∷ []))) ≡ Some read → read ≡ record { start = 1; stop = None; step = 3 }
read_thirds read e = cc

faults_none : {A : Type 0} (xs : List A) → faults {A = A} (map Ok xs) ++ [] ≡ []
faults_none [] = refl
faults_none (x ∷ xs) = faults_none xs

get_item : {A : Type 0} (xs : List A) (k : ℕ) → slice_get {X = Step A} (map Ok xs) k ≡ given (slice_get xs k)
get_item [] k = refl
get_item (x ∷ xs) zero = refl
get_item (x ∷ xs) (suc k) = get_item xs k

given_same : {A : Type 0} (o p : Option A) → given o ≡ given p → o ≡ p
given_same None None e = refl
given_same None (Some b) e = cc
given_same (Some a) None e = cc
given_same (Some a) (Some b) e = cc

-- a place that 64 bits do not hold is past the end
given_below : {A : Type 0} (xs : List A) (n : ℕ) → length xs < 2 ^ 64 → (nat_lt n (2 ^ 64) ≡ true) ⊎ (nat_lt n (2 ^ 64) ≡ false) →
    cond (nat_lt n (2 ^ 64)) (given (slice_get xs n)) None ≡ given (slice_get xs n)
given_below xs n h (inl t) = cond-true _ _ _ t
given_below xs n h (inr f) = let w : 2 ^ 64 ≤ n = ltb-false n (2 ^ 64) f in cond-false _ _ _ f ∙ ap given (sym (slice_get_past xs n (omega (arith, h, w))))

bool_cases : (b : Bool) → (b ≡ true) ⊎ (b ≡ false)
bool_cases true = inl refl
bool_cases false = inr refl

abbrev law_at : {A : Type 0} → List A → List (Step A) → ℕ → Bounds → Type 0
law_at xs gives k b = slice_get gives k ≡ cond (below_stop b.stop (b.start + k * b.step)) (given (slice_get xs (b.start + k * b.step))) None

pub thirds : {A : Type 0} (ss : List (Step A)) (cur : ℕ) (next stop : Option ℕ) (step : ℕ) (xs : List A) → SliceMade (Some 1 ∷ (None ∷ (Some 3 ∷ []))) ss cur next stop step →
    faults (slices stop step next cur ss) ++ faults (slice_end stop step next cur ss) ≡ faults ss → slices stop step next cur ss ≡ map Ok xs →
    length (items ss) + 3 ≤ 2 ^ 64 → OverItems ss (λ all. EachThird all xs)
thirds {A} ss cur next stop step xs m fs e h =
    let r = read_thirds m.read m.from_arguments in
    let st : m.read.stop ≡ None = ap (λ (q : Bounds). q.stop) r in
    let by : m.read.step ≡ 3 = ap (λ (q : Bounds). q.step) r in
    let left : slice_end stop step next cur ss ≡ [] = m.by_end.1 st (omega (arith, by, h)) in
    let w : faults ss ≡ [] = sym fs ∙ ap (λ us. faults us ++ faults (slice_end stop step next cur ss)) e ∙ ap (λ us. faults (map Ok xs) ++ faults us) left ∙ faults_none xs in
    over_items ss (λ all. EachThird all xs) w
    (λ k. given_same _ _ (sym (get_item xs k) ∙ ap (λ us. slice_get us k) (sym e)
    ∙ subst (law_at (items ss) (slices stop step next cur ss) k) r (m.law (items ss) (all_items ss w) k)
    ∙ given_below (items ss) (1 + k * 3) (omega (arith, h)) (bool_cases (nat_lt (1 + k * 3) (2 ^ 64)))))
