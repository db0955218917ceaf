-- The k-th pair of zip_longest.
use Rattle.std.proofs.Common.{◌≡◌, ℕ, zero, suc, ◌+◌, List, [], ◌∷◌, ◌++◌, map, length, take, drop, None, Result, refl, sym, ap, ◌∙◌, arith, Ok, Err, inl, inr}
use Rattle.std.specs.List.{slice_get}
use Rattle.steps.specs.Steps.{Step, first, rest}
use Rattle.steps.specs.declared.fault.Fault.{Fault}
use Rattle.steps.specs.declared.answer.Answer.{Answer}
use Rattle.laws.specs.Items.{faults, items}
use Rattle.laws.specs.Run.{Follows, Call, Both, CallOf}
use Rattle.laws.specs.ZipLongest.{filled, zipped, right_left, filled_run, zipped_run, OneOfEach, wide, LongestZip}
use Rattle.laws.specs.Faults.{Woven, unlost}
use Rattle.laws.proofs.Run.{not_over, follows_at}

pub filled_at : {A B : Type 0} (l : A) (r : B) (ys : List B) (k : ℕ) → slice_get (filled l (map Ok ys)) k ≡ wide l r None (slice_get ys k)
filled_at l r [] k = refl
filled_at l r (y ∷ ys) zero = refl
filled_at l r (y ∷ ys) (suc k) = filled_at l r ys k

pub zipped_at : {A B : Type 0} (l : A) (r : B) (xs : List A) (ys : List B) (k : ℕ) → slice_get (zipped l r (map Ok xs) (map Ok ys)) k ≡ wide l r (slice_get xs k) (slice_get ys k)
zipped_at l r [] ys k = filled_at l r ys k
zipped_at l r (x ∷ xs) [] zero = refl
zipped_at l r (x ∷ xs) [] (suc k) = zipped_at l r xs [] k
zipped_at l r (x ∷ xs) (y ∷ ys) zero = refl
zipped_at l r (x ∷ xs) (y ∷ ys) (suc k) = zipped_at l r xs ys k

pub longest_zip : {A B : Type 0} (l : A) (r : B) (ss : List (Step A)) (ts : List (Step B)) → LongestZip l r ss ts (zipped l r ss ts)
longest_zip l r ss ts xs ys e f k = ap (λ us. slice_get (zipped l r us ts) k) e ∙ ap (λ us. slice_get (zipped l r (map Ok xs) us) k) f ∙ zipped_at l r xs ys k

-- one call of a run
pub zip_follows : {A B : Type 0} (l : A) (r : B) (ss : List (Step A)) (ts : List (Step B)) →
    CallOf (zipped_run l r ss ts) (record { first = []; second = [] }) (first (zipped l r ss ts)) (record { first = rest ss; second = right_left ss ts })
    (zipped_run l r (rest ss) (right_left ss ts)) (record { first = []; second = [] })
zip_follows l r [] [] = (refl, refl, refl, refl)
zip_follows l r [] (Ok b ∷ ts) = (refl, refl, refl, refl)
zip_follows l r [] (Err f ∷ ts) = (refl, refl, refl, refl)
zip_follows l r (Err f ∷ ss) ts = (refl, refl, refl, refl)
zip_follows l r (Ok a ∷ ss) [] = (refl, refl, refl, refl)
zip_follows l r (Ok a ∷ ss) (Ok b ∷ ts) = (refl, refl, refl, refl)
zip_follows l r (Ok a ∷ ss) (Err f ∷ ts) = (refl, refl, refl, refl)

-- what is drawn by each call
drop_none : {A : Type 0} (n : ℕ) → drop {A = A} n [] ≡ []
drop_none zero = refl
drop_none (suc n) = refl

no_faults : (A : Type 0) (n : ℕ) → length (faults (take {A = Step A} n [])) ≡ 0
no_faults A zero = refl
no_faults A (suc n) = refl

one_each : {A B : Type 0} (ss : List (Step A)) (ts : List (Step B)) → OneOfEach ss ts []
one_each ss ts before after c e = absurd (not_over before c after e)

-- a step of the left, and one of the right
each_both : {A B : Type 0} (g : Step (A × B)) (a : A) (s : Step B) (ss : List (Step A)) (ts : List (Step B)) (run : List (Call (A × B) (Both A B))) → OneOfEach ss ts run →
    OneOfEach (Ok a ∷ ss) (s ∷ ts) (record { step = g; left = record { first = ss; second = ts } } ∷ run)
each_both {A} {B} g a s ss ts run h [] after c e =
    let same : c ≡ record { step = g; left = record { first = ss; second = ts } } = cc in
    (1, refl, ap (λ (d : Call (A × B) (Both A B)). d.left.first) same, ap (λ (d : Call (A × B) (Both A B)). d.left.second) same)
each_both g a s ss ts run h (b ∷ before) after c e =
    let more : run ≡ before ++ c ∷ after = cc in
    let r = h before after c more in
    let n : suc (length before + 1) ≡ suc (length before) + 1 = omega arith in
    (suc r.0, omega (arith, r.1, ap (λ k. length (faults (take k (Ok a ∷ ss)))) n), r.2 ∙ ap (λ k. drop k (Ok a ∷ ss)) n, r.3)

-- a step of the left, where the right has ended
each_first : {A B : Type 0} (g : Step (A × B)) (a : A) (ss : List (Step A)) (run : List (Call (A × B) (Both A B))) → OneOfEach ss [] run →
    OneOfEach (Ok a ∷ ss) [] (record { step = g; left = record { first = ss; second = [] } } ∷ run)
each_first {A} {B} g a ss run h [] after c e =
    let same : c ≡ record { step = g; left = record { first = ss; second = [] } } = cc in
    (1, refl, ap (λ (d : Call (A × B) (Both A B)). d.left.first) same, ap (λ (d : Call (A × B) (Both A B)). d.left.second) same)
each_first g a ss run h (b ∷ before) after c e =
    let more : run ≡ before ++ c ∷ after = cc in
    let r = h before after c more in
    let n : suc (length before + 1) ≡ suc (length before) + 1 = omega arith in
    (suc r.0, omega (arith, r.1, ap (λ k. length (faults (take k (Ok a ∷ ss)))) n), r.2 ∙ ap (λ k. drop k (Ok a ∷ ss)) n, r.3 ∙ drop_none r.0)

-- a fault of the left draws nothing of the right
each_fault : {A B : Type 0} (f : Fault) (ss : List (Step A)) (ts : List (Step B)) (run : List (Call (A × B) (Both A B))) → OneOfEach ss ts run →
    OneOfEach (Err f ∷ ss) ts (record { step = Err f; left = record { first = ss; second = ts } } ∷ run)
each_fault {A} {B} f ss ts run h [] after c e =
    let same : c ≡ record { step = Err f; left = record { first = ss; second = ts } } = cc in
    (0, refl, ap (λ (d : Call (A × B) (Both A B)). d.left.first) same, ap (λ (d : Call (A × B) (Both A B)). d.left.second) same)
each_fault f ss ts run h (b ∷ before) after c e =
    let more : run ≡ before ++ c ∷ after = cc in
    let r = h before after c more in
    let n : suc (length before + 1) ≡ suc (length before) + 1 = omega arith in
    (r.0, omega (arith, r.1, ap (λ k. length (faults (take k (Err f ∷ ss)))) n), r.2 ∙ ap (λ k. drop k (Err f ∷ ss)) n, r.3)

-- a step of the right, where the left has ended
each_second : {A B : Type 0} (g : Step (A × B)) (s : Step B) (ts : List (Step B)) (run : List (Call (A × B) (Both A B))) → OneOfEach {A = A} [] ts run →
    OneOfEach {A = A} [] (s ∷ ts) (record { step = g; left = record { first = []; second = ts } } ∷ run)
each_second {A} {B} g s ts run h [] after c e =
    let same : c ≡ record { step = g; left = record { first = []; second = ts } } = cc in
    (1, refl, ap (λ (d : Call (A × B) (Both A B)). d.left.first) same, ap (λ (d : Call (A × B) (Both A B)). d.left.second) same)
each_second {A} {B} g s ts run h (b ∷ before) after c e =
    let more : run ≡ before ++ c ∷ after = cc in
    let r = h before after c more in
    (suc r.0, omega (arith, r.1, no_faults A (length before + 1), no_faults A (suc (length before) + 1)), r.2 ∙ drop_none (length before + 1) ∙ sym (drop_none (suc (length before) + 1)), r.3)

filled_each : {A B : Type 0} (l : A) (ts : List (Step B)) → OneOfEach {A = A} [] ts (filled_run l ts)
filled_each l [] = one_each [] []
filled_each l (Ok b ∷ ts) = each_second (Ok (l, b)) (Ok b) ts (filled_run l ts) (filled_each l ts)
filled_each l (Err f ∷ ts) = each_second (Err f) (Err f) ts (filled_run l ts) (filled_each l ts)

pub one_of_each : {A B : Type 0} (l : A) (r : B) (ss : List (Step A)) (ts : List (Step B)) → OneOfEach ss ts (zipped_run l r ss ts)
one_of_each l r [] ts = filled_each l ts
one_of_each l r (Err f ∷ ss) ts = each_fault f ss ts (zipped_run l r ss ts) (one_of_each l r ss ts)
one_of_each l r (Ok a ∷ ss) [] = each_first (Ok (a, r)) a ss (zipped_run l r ss []) (one_of_each l r ss [])
one_of_each l r (Ok a ∷ ss) (Ok b ∷ ts) = each_both (Ok (a, b)) a (Ok b) ss ts (zipped_run l r ss ts) (one_of_each l r ss ts)
one_of_each l r (Ok a ∷ ss) (Err f ∷ ts) = each_both (Err f) a (Err f) ss ts (zipped_run l r ss ts) (one_of_each l r ss ts)

pub zip_call : {A B : Type 0} (l l' : A) (r r' : B) (ss left : List (Step A)) (ts right : List (Step B)) (a : Result (Answer (A × B)) Fault) →
    a ≡ first (zipped l r ss ts) → left ≡ rest ss → right ≡ right_left ss ts → l' ≡ l → r' ≡ r →
    Follows (zipped_run l r ss ts) (record { first = []; second = [] }) a (record { first = left; second = right }) (zipped_run l' r' left right) (record { first = []; second = [] })
zip_call l l' r r' ss left ts right a e f g h i =
    let both : record { first = left; second = right } ≡ record { first = rest ss; second = right_left ss ts } = cc in
    let later : zipped_run l' r' left right ≡ zipped_run l r (rest ss) (right_left ss ts) = cc in
    follows_at _ _ _ a _ _ _ _ _ _ (zip_follows l r ss ts) e both later refl

-- zip_longest
filled_right : {A B : Type 0} (O : Fault → Type 0) (l : A) (ts : List (Step B)) → Woven O [] (faults ts) (faults (filled l ts))
filled_right O l [] = (refl, refl)
filled_right O l (Ok b ∷ ts) = filled_right O l ts
filled_right O l (Err f ∷ ts) = inr (inr (faults ts, refl, filled_right O l ts))

pub zip_woven : {A B : Type 0} (O : Fault → Type 0) (l : A) (r : B) (ss : List (Step A)) (ts : List (Step B)) → Woven O (faults ss) (faults ts) (faults (zipped l r ss ts))
zip_woven O l r [] ts = filled_right O l ts
zip_woven O l r (Err f ∷ ss) ts = inr (inl (faults ss, refl, zip_woven O l r ss ts))
zip_woven O l r (Ok a ∷ ss) [] = zip_woven O l r ss []
zip_woven O l r (Ok a ∷ ss) (Ok b ∷ ts) = zip_woven O l r ss ts
zip_woven O l r (Ok a ∷ ss) (Err f ∷ ts) = inr (inr (faults ts, refl, zip_woven O l r ss ts))

filled_items : {A B : Type 0} (l : A) (ts : List (Step B)) → items (filled l ts) ≡ items (filled l (map Ok (items ts)))
filled_items l [] = refl
filled_items l (Ok b ∷ ts) = ap (λ xs. (l, b) ∷ xs) (filled_items l ts)
filled_items l (Err f ∷ ts) = filled_items l ts

zip_ended : {A B : Type 0} (l : A) (r : B) (ss : List (Step A)) → items (zipped l r ss []) ≡ items (zipped l r (map Ok (items ss)) [])
zip_ended l r [] = refl
zip_ended l r (Err f ∷ ss) = zip_ended l r ss
zip_ended l r (Ok a ∷ ss) = ap (λ xs. (a, r) ∷ xs) (zip_ended l r ss)

pub zip_items : {A B : Type 0} (l : A) (r : B) (ss : List (Step A)) (ts : List (Step B)) →
    items (zipped l r ss ts) ≡ items (zipped l r (map Ok (unlost (items ss) ts)) (map Ok (items ts)))
zip_items l r [] ts = filled_items l ts
zip_items l r (Err f ∷ ss) ts = zip_items l r ss ts
zip_items l r (Ok a ∷ ss) [] = ap (λ xs. (a, r) ∷ xs) (zip_ended l r ss)
zip_items l r (Ok a ∷ ss) (Ok b ∷ ts) = ap (λ xs. (a, b) ∷ xs) (zip_items l r ss ts)
zip_items l r (Ok a ∷ ss) (Err f ∷ ts) = zip_items l r ss ts
