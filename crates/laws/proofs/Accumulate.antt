-- The totals of accumulate.
use Rattle.std.proofs.Common.{◌≡◌, ℕ, zero, suc, ◌+◌, ◌<◌, List, [], ◌∷◌, map, length, take, Some, None, Ok, Err, Option, Result, refl, ap, ◌∙◌, subst, add-one, arith, inl, inr}
use Rattle.std.specs.List.{slice_get}
use Rattle.steps.specs.Steps.{Step}
use Rattle.steps.specs.declared.fault.Fault.{Fault}
use Rattle.laws.specs.Accumulate.{join_on, totals, from_initial, joined_all, with_initial, join_of, RunningTotals, from_first}
use Rattle.laws.specs.Items.{items, faults}
use Rattle.laws.specs.Faults.{Woven, latest_of, total_at, EachTotal, TotalsGiven}

-- a fault on the way is the fault of the whole
err_stays : {A : Type 0} (j : A → A → Result A Fault) (f : Fault) (xs : List A) (v : A) → joined_all j (Err f) xs ≡ Ok v → ⊥
err_stays j f xs v e = let z : ◌≡◌ {A = ℕ} 0 1 = cc in omega arith

-- after one join: it failed, it is the total that is asked for, or the totals behind it go on
totals_on : {A : Type 0} (j : A → A → Result A Fault) (t : A) (xs : List A) (v : A)
    (behind : (u : A) (k : ℕ) → k < length xs → joined_all j (Ok u) (take (suc k) xs) ≡ Ok v → slice_get (totals j u (map Ok xs)) k ≡ Some (Ok v))
    (k : ℕ) (r : Result A Fault) → k < suc (length xs) →
    joined_all j r (take k xs) ≡ Ok v → slice_get (join_on r t (λ u. totals j u (map Ok xs))) k ≡ Some (Ok v)
totals_on j t xs v behind k (Err f) h e = absurd (err_stays j f (take k xs) v e)
totals_on j t xs v behind zero (Ok u) h e = cc
totals_on j t xs v behind (suc k) (Ok u) h e = behind u k (omega arith) e

-- behind a total t, the k-th total is t joined with the first k + 1 items
pub totals_at : {A : Type 0} (j : A → A → Result A Fault) (t : A) (xs : List A) (k : ℕ) (v : A) → k < length xs →
    joined_all j (Ok t) (take (suc k) xs) ≡ Ok v → slice_get (totals j t (map Ok xs)) k ≡ Some (Ok v)
totals_at j t [] k v h e = absurd (omega arith)
totals_at j t (x ∷ xs) k v h e = totals_on j t xs v (λ u n. totals_at j u xs n v) k (j t x) h e

length_on : {A : Type 0} (j : A → A → Result A Fault) (t : A) (xs : List A) (behind : (u : A) → length (totals j u (map Ok xs)) ≡ length xs)
    (r : Result A Fault) → length (join_on r t (λ u. totals j u (map Ok xs))) ≡ suc (length xs)
length_on j t xs behind (Ok u) = ap suc (behind u)
length_on j t xs behind (Err f) = ap suc (behind t)

-- each item gives one step
pub length_totals : {A : Type 0} (j : A → A → Result A Fault) (t : A) (xs : List A) → length (totals j t (map Ok xs)) ≡ length xs
length_totals j t [] = refl
length_totals j t (x ∷ xs) = length_on j t xs (λ u. length_totals j u xs) (j t x)

-- the values x and xs, where x is the first total
first_at : {A : Type 0} (j : A → A → Result A Fault) (x : A) (xs : List A) (k : ℕ) (v : A) → k < suc (length xs) →
    joined_all j (Ok x) (take k xs) ≡ Ok v → slice_get (Ok x ∷ totals j x (map Ok xs)) k ≡ Some (Ok v)
first_at j x xs zero v h e = cc
first_at j x xs (suc k) v h e = totals_at j x xs k v (omega arith) e

some_ok : {A : Type 0} (r : Result A Fault) (v : A) → Some r ≡ Some (Ok v) → r ≡ Ok v
some_ok r v e = cc

from_values : {A : Type 0} (j : A → A → Result A Fault) (x : A) (xs : List A) (k : ℕ) (v : A) → k < suc (length xs) →
    join_of j (take (k + 1) (x ∷ xs)) ≡ Some (Ok v) → slice_get (Ok x ∷ totals j x (map Ok xs)) k ≡ Some (Ok v)
from_values j x xs k v h e =
    let f : join_of j (take (suc k) (x ∷ xs)) ≡ Some (Ok v) = subst (λ n. join_of j (take n (x ∷ xs)) ≡ Some (Ok v)) (add-one k) e in
    first_at j x xs k v h (some_ok (joined_all j (Ok x) (take k xs)) v f)

each_at : {A : Type 0} (j : A → A → Result A Fault) (initial : Option A) (xs : List A) (k : ℕ) (v : A) → k < length (with_initial initial xs) →
    join_of j (take (k + 1) (with_initial initial xs)) ≡ Some (Ok v) → slice_get (from_initial j initial (map Ok xs)) k ≡ Some (Ok v)
each_at j None [] k v h e = absurd (omega arith)
each_at j None (x ∷ xs) k v h e = from_values j x xs k v h e
each_at j (Some i) xs k v h e = from_values j i xs k v h e

length_at : {A : Type 0} (j : A → A → Result A Fault) (initial : Option A) (xs : List A) → length (from_initial j initial (map Ok xs)) ≡ length (with_initial initial xs)
length_at j None [] = refl
length_at j None (x ∷ xs) = ap suc (length_totals j x xs)
length_at j (Some i) xs = ap suc (length_totals j i xs)

pub running_totals : {A : Type 0} (j : A → A → Result A Fault) (initial : Option A) (ss : List (Step A)) → RunningTotals j initial ss (from_initial j initial ss)
running_totals j initial ss = record {
  each = λ xs s k v h e. ap (λ us. slice_get (from_initial j initial us) k) s ∙ each_at j initial xs k v h e;
  count = λ xs s. ap (λ us. length (from_initial j initial us)) s ∙ length_at j initial xs;
}

-- accumulate: the totals are those over the same list without the source's faults
join_on_items : {A : Type 0} (r : Result A Fault) (t : A) (more less : A → List (Step A)) → ((v : A) → items (more v) ≡ items (less v)) →
    items (join_on r t more) ≡ items (join_on r t less)
join_on_items (Ok v) t more less e = ap (λ xs. v ∷ xs) (e v)
join_on_items (Err f) t more less e = e t

totals_items : {A : Type 0} (j : A → A → Result A Fault) (t : A) (ss : List (Step A)) → items (totals j t ss) ≡ items (totals j t (map Ok (items ss)))
totals_items j t [] = refl
totals_items j t (Ok a ∷ ss) = join_on_items (j t a) t _ _ (λ v. totals_items j v ss)
totals_items j t (Err f ∷ ss) = totals_items j t ss

first_items : {A : Type 0} (j : A → A → Result A Fault) (ss : List (Step A)) → items (from_first j ss) ≡ items (from_first j (map Ok (items ss)))
first_items j [] = refl
first_items j (Ok a ∷ ss) = ap (λ xs. a ∷ xs) (totals_items j a ss)
first_items j (Err f ∷ ss) = first_items j ss

pub accumulate_items : {A : Type 0} (j : A → A → Result A Fault) (i : Option A) (ss : List (Step A)) → items (from_initial j i ss) ≡ items (from_initial j i (map Ok (items ss)))
accumulate_items j None ss = first_items j ss
accumulate_items j (Some i) ss = ap (λ xs. i ∷ xs) (totals_items j i ss)

-- accumulate
join_on_woven : {A : Type 0} (O : Fault → Type 0) (r : Result A Fault) (t : A) (us : List Fault) (more : A → List (Step A)) →
    ((f : Fault) → r ≡ Err f → O f) → ((v : A) → Woven O us [] (faults (more v))) → Woven O us [] (faults (join_on r t more))
join_on_woven O (Ok v) t us more own h = h v
join_on_woven O (Err f) t us more own h = inl (own f refl, h t)

totals_woven : {A : Type 0} (O : Fault → Type 0) (j : A → A → Result A Fault) (own : (a b : A) (f : Fault) → j a b ≡ Err f → O f) (t : A) (ss : List (Step A)) →
    Woven O (faults ss) [] (faults (totals j t ss))
totals_woven O j own t [] = (refl, refl)
totals_woven O j own t (Ok a ∷ ss) = join_on_woven O (j t a) t (faults ss) _ (own t a) (λ v. totals_woven O j own v ss)
totals_woven O j own t (Err f ∷ ss) = inr (inl (faults ss, refl, totals_woven O j own t ss))

first_woven : {A : Type 0} (O : Fault → Type 0) (j : A → A → Result A Fault) (own : (a b : A) (f : Fault) → j a b ≡ Err f → O f) (ss : List (Step A)) →
    Woven O (faults ss) [] (faults (from_first j ss))
first_woven O j own [] = (refl, refl)
first_woven O j own (Ok a ∷ ss) = totals_woven O j own a ss
first_woven O j own (Err f ∷ ss) = inr (inl (faults ss, refl, first_woven O j own ss))

pub accumulate_woven : {A : Type 0} (O : Fault → Type 0) (j : A → A → Result A Fault) (own : (a b : A) (f : Fault) → j a b ≡ Err f → O f) (i : Option A) (ss : List (Step A)) →
    Woven O (faults ss) [] (faults (from_initial j i ss))
accumulate_woven O j own None ss = first_woven O j own ss
accumulate_woven O j own (Some i) ss = totals_woven O j own i ss

join_on_zero : {A : Type 0} (r : Result A Fault) (t : A) (more : A → List (Step A)) → slice_get (join_on r t more) 0 ≡ Some r
join_on_zero (Ok v) t more = refl
join_on_zero (Err f) t more = refl

total_suc : {A : Type 0} (j : A → A → Result A Fault) (r : Result A Fault) (t : A) (ss : List (Step A)) (k : ℕ) (more : A → List (Step A)) →
    ((v : A) → slice_get (more v) k ≡ total_at j (latest_of (Some v) (take k (more v))) (slice_get ss k)) →
    slice_get (join_on r t more) (suc k) ≡ total_at j (latest_of (Some t) (take (suc k) (join_on r t more))) (slice_get ss k)
total_suc j (Ok v) t ss k more h = h v
total_suc j (Err f) t ss k more h = h t

each_total : {A : Type 0} (j : A → A → Result A Fault) (t : A) (ss : List (Step A)) → EachTotal j (Some t) ss (totals j t ss)
each_total j t [] k = refl
each_total j t (Ok a ∷ ss) zero = join_on_zero (j t a) t (λ v. totals j v ss)
each_total j t (Ok a ∷ ss) (suc k) = total_suc j (j t a) t ss k (λ v. totals j v ss) (λ v. each_total j v ss k)
each_total j t (Err f ∷ ss) zero = refl
each_total j t (Err f ∷ ss) (suc k) = each_total j t ss k

first_total_at : {A : Type 0} (j : A → A → Result A Fault) (ss : List (Step A)) → EachTotal j None ss (from_first j ss)
first_total_at j [] k = refl
first_total_at j (Ok a ∷ ss) zero = refl
first_total_at j (Ok a ∷ ss) (suc k) = each_total j a ss k
first_total_at j (Err f ∷ ss) zero = refl
first_total_at j (Err f ∷ ss) (suc k) = first_total_at j ss k

pub totals_given : {A : Type 0} (j : A → A → Result A Fault) (i : Option A) (ss : List (Step A)) → TotalsGiven j i ss (from_initial j i ss)
totals_given j None ss = first_total_at j ss
totals_given j (Some i) ss = (refl, each_total j i ss)
