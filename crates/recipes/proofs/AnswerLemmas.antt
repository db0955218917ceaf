-- What recipes answer over sources without faults.
use Rattle.std.proofs.Common.{◌≡◌, ℕ, zero, suc, ◌+◌, ◌-◌, ◌*◌, ◌<◌, ◌^◌, ◌==◌, ◌⊎◌, cond, subst, Bool, true, false, List, [], ◌∷◌, ◌++◌, map, length, Some, None, Option, Ok, Err, Result, refl, sym, ap, ◌∙◌, ⊎_elim, inl, inr, arith}
use Rattle.std.specs.List.{slice_get}
use Rattle.steps.specs.declared.fault.Fault.{Fault}
use Rattle.steps.specs.declared.answer.Answer.{Answer}
use Rattle.steps.specs.Steps.{Step, first, item_of}
use Rattle.laws.specs.Items.{Decided}
use Rattle.laws.specs.DropWhile.{drop_on, dropped}
use Rattle.rules.specs.Combined.{turned}
use Rattle.rules.specs.Joining.{sum}
use Rattle.recipes.specs.Answers.{nth_of, AtPlace, first_on, first_of, AllDenied, FirstAt, FirstAccepted, raised_to, count_on, count_of, keep_on, kept_of, CountsKept, product, dot_of, dot_product}
use Rattle.laws.specs.ZipLongest.{zipped, filled}

nth_there : {A : Type 0} (n : ℕ) (xs : List A) → nth_of n (map Ok xs) ≡ Ok (slice_get xs n)
nth_there n [] = refl
nth_there zero (x ∷ xs) = refl
nth_there (suc n) (x ∷ xs) =
    let z : (suc n == 0) ≡ false = grind arith in
    let e : suc n - 1 ≡ n = omega arith in
    ap (λ b. cond b (Ok (Some x)) (nth_of (suc n - 1) (map Ok xs))) z ∙ ap (λ m. nth_of m (map Ok xs)) e ∙ nth_there n xs

pub at_place : {A : Type 0} (n : ℕ) (ss : List (Step A)) → AtPlace n ss (nth_of n ss)
at_place n ss xs e = ap (nth_of n) e ∙ nth_there n xs

-- what a rule answers with the answer of a call
abbrev told : {A : Type 0} → Result (Answer A) Fault → Result (Option A) Fault
told (Ok a) = Ok (item_of a)
told (Err f) = Err f

told_on : {A : Type 0} (r : Result Bool Fault) (a : A) (ss more : List (Step A)) (later : Result (Option A) Fault) → told (first more) ≡ later →
    told (first (drop_on (turned r) a ss more)) ≡ first_on r a later
told_on (Ok true) a ss more later e = refl
told_on (Ok false) a ss more later e = e
told_on (Err f) a ss more later e = refl

told_first : {A : Type 0} (p : A → Result Bool Fault) (ss : List (Step A)) → told (first (dropped (λ a. turned (p a)) ss)) ≡ first_of p ss
told_first p [] = refl
told_first p (Ok a ∷ ss) = told_on (p a) a ss _ _ (told_first p ss)
told_first p (Err f ∷ ss) = refl

pub first_item : {A : Type 0} (p : A → Result Bool Fault) (ss : List (Step A)) (a : Answer A) → Ok a ≡ first (dropped (λ b. turned (p b)) ss) → Ok (item_of a) ≡ first_of p ss
first_item p ss a e = ap told e ∙ told_first p ss

pub first_broken : {A : Type 0} (p : A → Result Bool Fault) (ss : List (Step A)) (f : Fault) → Err f ≡ first (dropped (λ b. turned (p b)) ss) → Err f ≡ first_of p ss
first_broken p ss f e = ap told e ∙ told_first p ss

none_on : {A : Type 0} (p : A → Result Bool Fault) (a : A) (xs : List A) → p a ≡ Ok false → AllDenied p xs × (first_of p (map Ok xs) ≡ Ok None) →
    AllDenied p (a ∷ xs) × (first_of p (map Ok (a ∷ xs)) ≡ Ok None)
none_on p a xs n d = ((n, d.0), ap (λ r. first_on r a (first_of p (map Ok xs))) n ∙ d.1)

found_on : {A : Type 0} (p : A → Result Bool Fault) (a : A) (xs : List A) → p a ≡ Ok false → FirstAt p xs (first_of p (map Ok xs)) → FirstAt p (a ∷ xs) (first_of p (map Ok (a ∷ xs)))
found_on p a xs n d = record {
  front = a ∷ d.front;
  found = d.found;
  behind = d.behind;
  all = ap (λ us. a ∷ us) d.all;
  passed = (n, d.passed);
  accepted = d.accepted;
  answers = ap (λ r. first_on r a (first_of p (map Ok xs))) n ∙ d.answers;
}

first_there : {A : Type 0} (p : A → Result Bool Fault) (xs : List A) → Decided p xs → (AllDenied p xs × (first_of p (map Ok xs) ≡ Ok None)) ⊎ FirstAt p xs (first_of p (map Ok xs))
first_there p [] d = inl (tt, refl)
first_there p (a ∷ xs) d = ⊎_elim
    (λ y. inr (record { front = []; found = a; behind = xs; all = refl; passed = tt; accepted = y; answers = ap (λ r. first_on r a (first_of p (map Ok xs))) y }))
    (λ n. ⊎_elim (λ e. inl (none_on p a xs n e)) (λ e. inr (found_on p a xs n e)) (first_there p xs d.1))
    d.0

pub first_accepted : {A : Type 0} (p : A → Result Bool Fault) (ss : List (Step A)) → FirstAccepted p ss (first_of p ss)
first_accepted p ss xs e d = subst (λ us. (AllDenied p xs × (first_of p us ≡ Ok None)) ⊎ FirstAt p xs (first_of p us)) (sym e) (first_there p xs d)

sum_there : (n : ℕ) → n + 1 < 2 ^ 64 → sum n 1 ≡ Ok (n + 1)
sum_there n h = grind arith

count_there : {A : Type 0} (p : A → Result Bool Fault) (n : ℕ) (xs : List A) → Decided p xs → n + length xs < 2 ^ 64 → count_of p n (map Ok xs) ≡ Ok (n + length (kept_of p xs))
count_there p n [] d h = ap Ok (omega arith)
count_there p n (a ∷ xs) d h = ⊎_elim
    (λ y. ap (λ r. count_on r n (λ m. count_of p m (map Ok xs))) y ∙ ap (λ r. raised_to r (λ m. count_of p m (map Ok xs))) (sum_there n (omega arith))
    ∙ count_there p (n + 1) xs d.1 (omega arith) ∙ ap Ok (omega arith) ∙ ap (λ r. Ok (n + length (keep_on r a (kept_of p xs)))) (sym y))
    (λ e. ap (λ r. count_on r n (λ m. count_of p m (map Ok xs))) e ∙ count_there p n xs d.1 (omega arith) ∙ ap (λ r. Ok (n + length (keep_on r a (kept_of p xs)))) (sym e))
    d.0

pub counts_kept : {A : Type 0} (p : A → Result Bool Fault) (ss : List (Step A)) → CountsKept p ss (count_of p 0 ss)
counts_kept p ss xs e d h = ap (count_of p 0) e ∙ count_there p 0 xs d (omega arith) ∙ ap Ok (omega arith)

product_there : (a b : ℕ) → a * b < 2 ^ 64 → product a b ≡ Ok (a * b)
product_there a b h = grind arith

add_there : (n m : ℕ) → n + m < 2 ^ 64 → sum n m ≡ Ok (n + m)
add_there n m h = grind arith

dot_step : (n a b : ℕ) (ss : List (Step (ℕ × ℕ))) → n + a * b < 2 ^ 64 → dot_of n (Ok (a, b) ∷ ss) ≡ dot_of (n + a * b) ss
dot_step n a b ss h =
    ap (λ r. raised_to r (λ q. raised_to (sum n q) (λ m. dot_of m ss))) (product_there a b (omega (arith, h)))
    ∙ ap (λ r. raised_to r (λ m. dot_of m ss)) (add_there n (a * b) h)

-- the items that one list has more count nothing
dot_right : (n : ℕ) (ys : List ℕ) → n < 2 ^ 64 → dot_of n (filled 0 (map Ok ys)) ≡ Ok n
dot_right n [] h = refl
dot_right n (b ∷ ys) h =
    let z : n + 0 * b ≡ n = grind arith in
    dot_step n 0 b (filled 0 (map Ok ys)) (omega (arith, z, h)) ∙ ap (λ m. dot_of m (filled 0 (map Ok ys))) z ∙ dot_right n ys h

dot_left : (n : ℕ) (xs : List ℕ) → n < 2 ^ 64 → dot_of n (zipped 0 0 (map Ok xs) []) ≡ Ok n
dot_left n [] h = refl
dot_left n (a ∷ xs) h =
    let z : n + a * 0 ≡ n = grind arith in
    dot_step n a 0 (zipped 0 0 (map Ok xs) []) (omega (arith, z, h)) ∙ ap (λ m. dot_of m (zipped 0 0 (map Ok xs) [])) z ∙ dot_left n xs h

dot_there : (n : ℕ) (xs ys : List ℕ) → n + dot_product xs ys < 2 ^ 64 → dot_of n (zipped 0 0 (map Ok xs) (map Ok ys)) ≡ Ok (n + dot_product xs ys)
dot_there n [] ys h = let z : n + 0 ≡ n = omega arith in dot_right n ys (omega (arith, h)) ∙ ap Ok (sym z)
dot_there n (a ∷ xs) [] h = let z : n + 0 ≡ n = omega arith in dot_left n (a ∷ xs) (omega (arith, h)) ∙ ap Ok (sym z)
dot_there n (a ∷ xs) (b ∷ ys) h =
    let z : n + a * b + dot_product xs ys ≡ n + (a * b + dot_product xs ys) = omega arith in
    dot_step n a b (zipped 0 0 (map Ok xs) (map Ok ys)) (omega (arith, h)) ∙ dot_there (n + a * b) xs ys (omega (arith, z, h)) ∙ ap Ok z

pub each_dot : (xs ys : List ℕ) → dot_product xs ys < 2 ^ 64 → dot_of 0 (zipped 0 0 (map Ok xs) (map Ok ys)) ≡ Ok (dot_product xs ys)
each_dot xs ys h = let z : 0 + dot_product xs ys ≡ dot_product xs ys = omega arith in dot_there 0 xs ys (omega (arith, z, h)) ∙ ap Ok z

pub nth_broken : {A : Type 0} (n : ℕ) (front : List A) (f : Fault) (more : List (Step A)) → length front < n + 1 → nth_of n (map Ok front ++ Err f ∷ more) ≡ Err f
nth_broken n [] f more h = refl
nth_broken zero (x ∷ xs) f more h = absurd (omega arith)
nth_broken (suc n) (x ∷ xs) f more h =
    let z : (suc n == 0) ≡ false = grind arith in
    let e : suc n - 1 ≡ n = omega arith in
    ap (λ b. cond b (Ok (Some x)) (nth_of (suc n - 1) (map Ok xs ++ Err f ∷ more))) z
    ∙ ap (λ m. nth_of m (map Ok xs ++ Err f ∷ more)) e ∙ nth_broken n xs f more (omega arith)

-- denied items in front change nothing
first_behind : {A : Type 0} (p : A → Result Bool Fault) (front : List A) (ss : List (Step A)) → AllDenied p front → first_of p (map Ok front ++ ss) ≡ first_of p ss
first_behind p [] ss d = refl
first_behind p (x ∷ xs) ss d = ap (λ r. first_on r x (first_of p (map Ok xs ++ ss))) d.0 ∙ first_behind p xs ss d.1

pub first_met : {A : Type 0} (p : A → Result Bool Fault) (front : List A) (f : Fault) (more : List (Step A)) → AllDenied p front → first_of p (map Ok front ++ Err f ∷ more) ≡ Err f
first_met p front f more d = first_behind p front (Err f ∷ more) d

pub first_own : {A : Type 0} (p : A → Result Bool Fault) (front : List A) (a : A) (f : Fault) (more : List (Step A)) → AllDenied p front → p a ≡ Err f →
    first_of p (map Ok front ++ Ok a ∷ more) ≡ Err f
first_own p front a f more d e = first_behind p front (Ok a ∷ more) d ∙ ap (λ r. first_on r a (first_of p more)) e

-- items that are accepted or denied are counted, or not, and the rest is counted on from there
count_behind : {A : Type 0} (p : A → Result Bool Fault) (n : ℕ) (front : List A) (f : Fault) (ss : List (Step A)) → ((m : ℕ) → count_of p m ss ≡ Err f) → Decided p front → n + length front < 2 ^ 64 →
    count_of p n (map Ok front ++ ss) ≡ Err f
count_behind p n [] f ss k d h = k n
count_behind p n (x ∷ xs) f ss k d h = ⊎_elim
    (λ y. ap (λ r. count_on r n (λ m. count_of p m (map Ok xs ++ ss))) y ∙ ap (λ r. raised_to r (λ m. count_of p m (map Ok xs ++ ss))) (sum_there n (omega arith))
    ∙ count_behind p (n + 1) xs f ss k d.1 (omega arith))
    (λ e. ap (λ r. count_on r n (λ m. count_of p m (map Ok xs ++ ss))) e ∙ count_behind p n xs f ss k d.1 (omega arith))
    d.0

pub count_met : {A : Type 0} (p : A → Result Bool Fault) (front : List A) (f : Fault) (more : List (Step A)) → Decided p front → length front < 2 ^ 64 →
    count_of p 0 (map Ok front ++ Err f ∷ more) ≡ Err f
count_met p front f more d h = count_behind p 0 front f (Err f ∷ more) (λ m. refl) d (omega arith)

pub count_own : {A : Type 0} (p : A → Result Bool Fault) (front : List A) (a : A) (f : Fault) (more : List (Step A)) → Decided p front → length front < 2 ^ 64 → p a ≡ Err f →
    count_of p 0 (map Ok front ++ Ok a ∷ more) ≡ Err f
count_own p front a f more d h e = count_behind p 0 front f (Ok a ∷ more) (λ m. ap (λ r. count_on r m (λ k. count_of p k more)) e) d (omega arith)
