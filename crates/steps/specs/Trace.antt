-- Histories of calls on a state. A relation says of one call which state it found, what the call was before it was made, what
-- it is after, and which state it left.
use Rattle.std.specs.Prelude.{◌≡◌, ℕ, ◌+◌, Bool, cond, List, [], ◌∷◌}

-- calls, one after another, that lead from one state to another
abbrev pub Trace : {S B A : Type 0} → (S → B → A → S → Type 0) → S → List B → List A → S → Type 0
Trace R s [] [] t = t ≡ s
Trace R s [] (a ∷ afters) t = ⊥
Trace R s (b ∷ befores) [] t = ⊥
Trace {S} R s (b ∷ befores) (a ∷ afters) t = (u : S) × R s b a u × Trace R u befores afters t

-- how many of some calls count, each by its own number, as 1 and 0
abbrev pub total : {C : Type 0} → (C → ℕ) → List C → ℕ
total counts [] = 0
total counts (c ∷ calls) = counts c + total counts calls

-- what the calls of a history add up to, from x on, each with what it was before and after
abbrev pub gathered : {X B A : Type 0} → (X → B → A → X) → X → List B → List A → X
gathered adds x [] afters = x
gathered adds x (b ∷ befores) [] = x
gathered adds x (b ∷ befores) (a ∷ afters) = gathered adds (adds x b a) befores afters

-- the calls of a history that a test of what they left keeps, as they were before they were made
abbrev pub kept : {B A : Type 0} → (A → Bool) → List B → List A → List B
kept keeps [] afters = []
kept keeps (b ∷ befores) [] = []
kept keeps (b ∷ befores) (a ∷ afters) = cond (keeps a) (b ∷ kept keeps befores afters) (kept keeps befores afters)
