-- What an answer tells of the steps ahead.
use Rattle.std.proofs.Common.{◌≡◌, ℕ, List, [], ◌∷◌, Some, None, Ok, Err, Option, refl, ap, arith}
use Rattle.steps.specs.declared.fault.Fault.{Fault}
use Rattle.steps.specs.declared.answer.Answer.TheVariants.{Item, End}
use Rattle.steps.specs.Steps.{Step, first, rest}
use Rattle.laws.specs.Items.{earlier, first_fault, kept_first}

pub item_first : {A : Type 0} (a : A) (ss : List (Step A)) → first ss ≡ Ok (Item a) → ss ≡ Ok a ∷ rest ss
item_first a [] e = let z : ◌≡◌ {A = ℕ} 0 1 = cc in absurd (omega arith)
item_first a (Ok b ∷ ss) e = let same : b ≡ a = cc in ap (λ x. Ok x ∷ ss) same
item_first a (Err f ∷ ss) e = let z : ◌≡◌ {A = ℕ} 0 1 = cc in absurd (omega arith)

pub fault_first : {A : Type 0} (f : Fault) (ss : List (Step A)) → first ss ≡ Err f → ss ≡ Err f ∷ rest ss
fault_first f [] e = let z : ◌≡◌ {A = ℕ} 0 1 = cc in absurd (omega arith)
fault_first f (Ok b ∷ ss) e = let z : ◌≡◌ {A = ℕ} 0 1 = cc in absurd (omega arith)
fault_first f (Err h ∷ ss) e = let same : h ≡ f = cc in ap (λ x. Err x ∷ ss) same

pub end_first : {A : Type 0} (ss : List (Step A)) → first ss ≡ Ok End → ss ≡ []
end_first [] e = refl
end_first (Ok b ∷ ss) e = let z : ◌≡◌ {A = ℕ} 0 1 = cc in absurd (omega arith)
end_first (Err f ∷ ss) e = let z : ◌≡◌ {A = ℕ} 0 1 = cc in absurd (omega arith)

pub earlier_none : (o : Option Fault) → earlier o None ≡ o
earlier_none None = refl
earlier_none (Some f) = refl

earlier_again : (o p : Option Fault) (f : Fault) → earlier (earlier o (Some f)) p ≡ earlier o (Some f)
earlier_again None p f = refl
earlier_again (Some h) p f = refl

-- a run that keeps its first fault, one answer further
pub first_kept : {A : Type 0} (met : Option Fault) (ss : List (Step A)) → earlier (kept_first met (first ss)) (first_fault (rest ss)) ≡ earlier met (first_fault ss)
first_kept met [] = refl
first_kept met (Ok a ∷ ss) = refl
first_kept met (Err f ∷ ss) = earlier_again met (first_fault ss) f

-- some steps are not none
pub no_cons : {A : Type 0} (s : Step A) (ss : List (Step A)) → s ∷ ss ≡ [] → ⊥
no_cons s ss e = let z : ◌≡◌ {A = ℕ} 0 1 = cc in omega arith
