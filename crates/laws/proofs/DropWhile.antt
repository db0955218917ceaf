-- What is behind the longest front that a predicate accepts.
use Rattle.std.proofs.Common.{◌≡◌, Bool, List, [], ◌∷◌, ◌++◌, map, Result, refl, ap, ◌∙◌, Ok, true, false, sym, Err, inl, inr}
use Rattle.steps.specs.Steps.{Step}
use Rattle.steps.specs.declared.fault.Fault.{Fault}
use Rattle.laws.specs.Items.{Accepted, Denied, items, faults}
use Rattle.laws.specs.DropWhile.{drop_on, dropped, BehindFront}
use Rattle.laws.specs.Faults.{Woven}
use Rattle.laws.proofs.TakeWhile.{split}
use Rattle.laws.proofs.Items.{items_ok}
use Rattle.laws.proofs.Faults.{woven_left}

pub dropped_front : {A : Type 0} (p : A → Result Bool Fault) (front behind : List A) → Accepted p front → Denied p behind → dropped p (map Ok (front ++ behind)) ≡ map Ok behind
dropped_front p [] [] a d = refl
dropped_front p [] (x ∷ xs) a d = ap (λ r. drop_on r x (map Ok xs) (dropped p (map Ok xs))) d
dropped_front p (x ∷ front) behind a d =
    ap (λ r. drop_on r x (map Ok (front ++ behind)) (dropped p (map Ok (front ++ behind)))) a.0 ∙ dropped_front p front behind a.1 d

pub behind_front : {A : Type 0} (p : A → Result Bool Fault) (ss : List (Step A)) → BehindFront p ss (dropped p ss)
behind_front p ss xs e d =
    let s = split p xs d in
    (s.0, s.1, s.2, s.3, s.4, ap (dropped p) (e ∙ ap (map Ok) s.2) ∙ dropped_front p s.0 s.1 s.3 s.4)

-- dropwhile: the same, and its faults are those of the source, where the predicate has none
drop_on_items : {A : Type 0} (r : Result Bool Fault) (a : A) (ss more less : List (Step A)) → items more ≡ items less →
    items (drop_on r a ss more) ≡ items (drop_on r a (map Ok (items ss)) less)
drop_on_items (Ok true) a ss more less e = e
drop_on_items (Ok false) a ss more less e = ap (λ xs. a ∷ xs) (sym (items_ok (items ss)))
drop_on_items (Err f) a ss more less e = e

pub dropwhile_items : {A : Type 0} (p : A → Result Bool Fault) (ss : List (Step A)) → items (dropped p ss) ≡ items (dropped p (map Ok (items ss)))
dropwhile_items p [] = refl
dropwhile_items p (Ok a ∷ ss) = drop_on_items (p a) a ss _ _ (dropwhile_items p ss)
dropwhile_items p (Err f ∷ ss) = dropwhile_items p ss

-- dropwhile
drop_on_woven : {A : Type 0} (O : Fault → Type 0) (r : Result Bool Fault) (a : A) (ss more : List (Step A)) →
    ((f : Fault) → r ≡ Err f → O f) → Woven O (faults ss) [] (faults more) → Woven O (faults ss) [] (faults (drop_on r a ss more))
drop_on_woven O (Ok true) a ss more own h = h
drop_on_woven O (Ok false) a ss more own h = woven_left O (faults ss)
drop_on_woven O (Err f) a ss more own h = inl (own f refl, h)

pub dropwhile_woven : {A : Type 0} (O : Fault → Type 0) (p : A → Result Bool Fault) (own : (a : A) (f : Fault) → p a ≡ Err f → O f) (ss : List (Step A)) →
    Woven O (faults ss) [] (faults (dropped p ss))
dropwhile_woven O p own [] = (refl, refl)
dropwhile_woven O p own (Ok a ∷ ss) = drop_on_woven O (p a) a ss _ (own a) (dropwhile_woven O p own ss)
dropwhile_woven O p own (Err f ∷ ss) = inr (inl (faults ss, refl, dropwhile_woven O p own ss))
