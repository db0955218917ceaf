-- What a chain gives, where it meets no fault, and which fault it gives first.
use Rattle.std.proofs.Common.{◌≡◌, List, [], ◌∷◌, ◌++◌, map, Ok, Err, ap, ◌∙◌}
use Rattle.steps.specs.Steps.{Step}
use Rattle.steps.specs.declared.fault.Fault.{Fault}
use Rattle.laws.specs.Items.{faults}
use Rattle.laws.specs.Chain.{until_fault}
use Rattle.recipes.specs.Lists.{FirstOf}

uncut : {A : Type 0} (ss : List (Step A)) (xs : List A) → until_fault ss ≡ map Ok xs → ss ≡ map Ok xs
uncut [] xs e = e
uncut (Ok a ∷ ss) [] e = cc
uncut (Ok a ∷ ss) (x ∷ xs) e =
    let i : a ≡ x = cc in
    let t : until_fault ss ≡ map Ok xs = cc in
    ap (λ us. Ok a ∷ us) (uncut ss xs t) ∙ ap (λ b. Ok b ∷ map Ok xs) i
uncut (Err f ∷ ss) [] e = cc
uncut (Err f ∷ ss) (x ∷ xs) e = cc

uncut_behind : {A : Type 0} (ss ts : List (Step A)) (xs : List A) → ss ++ until_fault ts ≡ map Ok xs → ss ++ ts ≡ map Ok xs
uncut_behind [] ts xs e = uncut ts xs e
uncut_behind (s ∷ ss) ts [] e = cc
uncut_behind (s ∷ ss) ts (x ∷ xs) e =
    let i : s ≡ Ok x = cc in
    let t : ss ++ until_fault ts ≡ map Ok xs = cc in
    ap (λ us. s ∷ us) (uncut_behind ss ts xs t) ∙ ap (λ b. b ∷ map Ok xs) i

pub flattened : {A : Type 0} (ss ts : List (Step A)) (xs : List A) → until_fault (ss ++ until_fault ts) ≡ map Ok xs → ss ++ ts ≡ map Ok xs
flattened ss ts xs e = uncut_behind ss ts xs (uncut (ss ++ until_fault ts) xs e)

-- a cut keeps the first fault
first_kept : {A : Type 0} (ss : List (Step A)) (f : Fault) → FirstOf (faults (until_fault ss)) f → FirstOf (faults ss) f
first_kept [] f h = h
first_kept (Ok a ∷ ss) f h = first_kept ss f h
first_kept (Err g ∷ ss) f h = let e = h.1 in (faults ss, cc)

first_behind : {A : Type 0} (ss ts : List (Step A)) (f : Fault) → FirstOf (faults (ss ++ until_fault ts)) f → FirstOf (faults (ss ++ ts)) f
first_behind [] ts f h = first_kept ts f h
first_behind (Ok a ∷ ss) ts f h = first_behind ss ts f h
first_behind (Err g ∷ ss) ts f h = let e = h.1 in (faults (ss ++ ts), cc)

pub first_of_all : {A : Type 0} (ss ts : List (Step A)) (f : Fault) → FirstOf (faults (until_fault (ss ++ until_fault ts))) f → FirstOf (faults (ss ++ ts)) f
first_of_all ss ts f h = first_behind ss ts f (first_kept (ss ++ until_fault ts) f h)
