-- A whole run of an adapter, call by call until it says end, with what is left below after each.
use Rattle.std.specs.Prelude.{◌≡◌, ℕ, ◌+◌, List, [], ◌∷◌, ◌++◌, length, drop, Ok, Result}
use Rattle.steps.specs.Steps.{Step, answer}
use Rattle.steps.specs.declared.fault.Fault.{Fault}
use Rattle.steps.specs.declared.answer.Answer.{Answer}
use Rattle.steps.specs.declared.answer.Answer.TheVariants.{End}
use Rattle.laws.specs.Items.{items}

-- a call that gives a step: the step, and what is left below then
pub record Call (A L : Type 0) : Type 0 where
  pub step : Step A
  pub left : L

-- the steps that calls gave
abbrev pub given_by : {A L : Type 0} → List (Call A L) → List (Step A)
given_by [] = []
given_by (c ∷ run) = c.step ∷ given_by run

-- what is left of two sources
pub record Both (A B : Type 0) : Type 0 where
  pub first : List (Step A)
  pub second : List (Step B)

-- One call of a run: it answers the first step that the run gives, leaves below what the run says, and the others are still to come.
-- A call that says end leaves what the run says of the end. What the end leaves does not change.
abbrev pub CallOf : {A L : Type 0} → List (Call A L) → L → Result (Answer A) Fault → L → List (Call A L) → L → Type 0
CallOf [] end result left later later_end = (result ≡ Ok End) × (left ≡ end) × (later ≡ []) × (later_end ≡ end)
CallOf (c ∷ run) end result left later later_end = (result ≡ answer c.step) × (left ≡ c.left) × (later ≡ run) × (later_end ≡ end)

pub record Follows {A L : Type 0} (run : List (Call A L)) (end : L) (result : Result (Answer A) Fault) (left : L) (later : List (Call A L)) (later_end : L) : Type 0 where
  pub call : CallOf run end result left later later_end

-- each call draws one step
abbrev pub OneStepEach : {A B : Type 0} → List (Step A) → List (Call B (List (Step A))) → Type 0
OneStepEach {A} {B} ss run = (before after : List (Call B (List (Step A)))) (c : Call B (List (Step A))) → run ≡ before ++ c ∷ after → c.left ≡ drop (length before + 1) ss

-- so many items, and the faults among them, were drawn of a source
pub record ItemsDrawn {A : Type 0} (count : ℕ) (ss left : List (Step A)) : Type 0 where
  pub front : List (Step A)
  pub all : ss ≡ front ++ left
  pub counted : length (items front) ≡ count
