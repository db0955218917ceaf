-- The keys of the items of a source, place by place.
use Rattle.std.proofs.Common.{◌≡◌, ℕ, zero, suc, List, [], ◌∷◌, map, length, Some, Ok, Err, Result, refl, ap, inl, inr}
use Rattle.std.specs.List.{slice_get}
use Rattle.steps.specs.Steps.{Step, first, rest}
use Rattle.steps.specs.declared.fault.Fault.{Fault}
use Rattle.steps.specs.declared.answer.Answer.{Answer}
use Rattle.laws.specs.Items.{items, faults}
use Rattle.laws.specs.Faults.{Woven}
use Rattle.laws.specs.Run.{CallOf, Follows, OneStepEach}
use Rattle.laws.specs.Keys.{keys, keys_run, KeyOfEach}
use Rattle.laws.proofs.Run.{one_none, one_more, follows_at}

key_at : {A Q : Type 0} (key : A → Result Q Fault) (ss : List (Step A)) (k : ℕ) (a : A) → slice_get ss k ≡ Some (Ok a) → slice_get (keys key ss) k ≡ Some (key a)
key_at key [] k a e = cc
key_at key (Ok b ∷ ss) zero a e = cc
key_at key (Err f ∷ ss) zero a e = cc
key_at key (Ok b ∷ ss) (suc k) a e = key_at key ss k a e
key_at key (Err f ∷ ss) (suc k) a e = key_at key ss k a e

fault_at : {A Q : Type 0} (key : A → Result Q Fault) (ss : List (Step A)) (k : ℕ) (f : Fault) → slice_get ss k ≡ Some (Err f) → slice_get (keys key ss) k ≡ Some (Err f)
fault_at key [] k f e = cc
fault_at key (Ok b ∷ ss) zero f e = cc
fault_at key (Err g ∷ ss) zero f e = cc
fault_at key (Ok b ∷ ss) (suc k) f e = fault_at key ss k f e
fault_at key (Err g ∷ ss) (suc k) f e = fault_at key ss k f e

as_many : {A Q : Type 0} (key : A → Result Q Fault) (ss : List (Step A)) → length (keys key ss) ≡ length ss
as_many key [] = refl
as_many key (Ok a ∷ ss) = ap suc (as_many key ss)
as_many key (Err f ∷ ss) = ap suc (as_many key ss)

pub key_of_each : {A Q : Type 0} (key : A → Result Q Fault) (ss : List (Step A)) → KeyOfEach key ss (keys key ss)
key_of_each key ss = record { key_there = key_at key ss; fault_there = fault_at key ss; count = as_many key ss }

-- the keys given are those given over the same list without its faults
step_items : {Q : Type 0} (r : Result Q Fault) (more less : List (Step Q)) → items more ≡ items less → items (r ∷ more) ≡ items (r ∷ less)
step_items (Ok q) more less e = ap (λ xs. q ∷ xs) e
step_items (Err f) more less e = e

pub keys_items : {A Q : Type 0} (key : A → Result Q Fault) (ss : List (Step A)) → items (keys key ss) ≡ items (keys key (map Ok (items ss)))
keys_items key [] = refl
keys_items key (Ok a ∷ ss) = step_items (key a) _ _ (keys_items key ss)
keys_items key (Err f ∷ ss) = keys_items key ss

-- the source's faults are given, with the key kind's between them
step_woven : {Q : Type 0} (O : Fault → Type 0) (r : Result Q Fault) (us : List Fault) (more : List (Step Q)) →
    ((f : Fault) → r ≡ Err f → O f) → Woven O us [] (faults more) → Woven O us [] (faults (r ∷ more))
step_woven O (Ok q) us more own h = h
step_woven O (Err f) us more own h = inl (own f refl, h)

pub keys_woven : {A Q : Type 0} (O : Fault → Type 0) (key : A → Result Q Fault) (own : (a : A) (f : Fault) → key a ≡ Err f → O f) (ss : List (Step A)) →
    Woven O (faults ss) [] (faults (keys key ss))
keys_woven O key own [] = (refl, refl)
keys_woven O key own (Ok a ∷ ss) = step_woven O (key a) (faults ss) _ (own a) (keys_woven O key own ss)
keys_woven O key own (Err f ∷ ss) = inr (inl (faults ss, refl, keys_woven O key own ss))

-- each call draws one step
pub keys_one_each : {A Q : Type 0} (key : A → Result Q Fault) (ss : List (Step A)) → OneStepEach ss (keys_run key ss)
keys_one_each key [] = one_none []
keys_one_each key (Ok a ∷ ss) = one_more (Ok a) (key a) ss (keys_run key ss) (keys_one_each key ss)
keys_one_each key (Err f ∷ ss) = one_more (Err f) (Err f) ss (keys_run key ss) (keys_one_each key ss)

-- one call of a run
keys_follow : {A Q : Type 0} (key : A → Result Q Fault) (ss : List (Step A)) →
    CallOf (keys_run key ss) [] (first (keys key ss)) (rest ss) (keys_run key (rest ss)) []
keys_follow key [] = (refl, refl, refl, refl)
keys_follow key (Ok a ∷ ss) = (refl, refl, refl, refl)
keys_follow key (Err f ∷ ss) = (refl, refl, refl, refl)

pub keys_call : {A Q : Type 0} (key now : A → Result Q Fault) (ss left : List (Step A)) (r : Result (Answer Q) Fault) →
    r ≡ first (keys key ss) → left ≡ rest ss → now ≡ key →
    Follows (keys_run key ss) [] r left (keys_run now left) []
keys_call key now ss left r e f g =
    let later : keys_run now left ≡ keys_run key (rest ss) = cc in
    follows_at _ _ _ r _ left _ _ _ _ (keys_follow key ss) e f later refl
