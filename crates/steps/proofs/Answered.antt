-- The step that a call answered is the first that was ahead.
use Rattle.std.proofs.Common.{◌≡◌, ℕ, List, [], ◌∷◌, ◌++◌, Some, sym, ap, ◌∙◌, arith, Ok, Err}
use Rattle.std.proofs.lemmas.List.{append_assoc}
use Rattle.steps.specs.Steps.{Step, first, rest, answered}

pub step_first : {A : Type 0} (s : Step A) (ss : List (Step A)) → answered (first ss) ≡ Some s → ss ≡ s ∷ rest ss
step_first s [] e = let z : ◌≡◌ {A = ℕ} 0 1 = cc in absurd (omega arith)
step_first s (Ok a ∷ ss) e = let same : Ok a ≡ s = cc in ap (λ t. t ∷ ss) same
step_first s (Err f ∷ ss) e = let same : Err f ≡ s = cc in ap (λ t. t ∷ ss) same

-- the steps drawn so far and those ahead, one step further
pub drawn_more : {A : Type 0} (all drawn ahead : List (Step A)) (s : Step A) → all ≡ drawn ++ ahead → answered (first ahead) ≡ Some s → all ≡ (drawn ++ s ∷ []) ++ rest ahead
drawn_more all drawn ahead s e f = e ∙ ap (λ us. drawn ++ us) (step_first s ahead f) ∙ sym (append_assoc drawn (s ∷ []) (rest ahead))
