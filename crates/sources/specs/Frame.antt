-- Record bytes: a record is a two-byte payload length, a two-byte kind and the payload, low byte first. What a payload means
-- is for its reader to say: `step` gives the step of a record that begins at a place and has a kind and a payload.
use Rattle.std.specs.Prelude.{◌≡◌, ℕ, zero, suc, ◌+◌, ◌*◌, ◌<◌, cond, List, [], ◌∷◌, ◌++◌, length, take, drop, nat_lt, Ok, Err, Result}
use Rattle.steps.specs.Steps.{Step}
use Rattle.steps.specs.declared.fault.Fault.{Fault}
use Rattle.steps.specs.declared.fault.TheConstants.Fault.{SOURCE}
use Rattle.sources.specs.declared.cause.Cause.TheVariants.{CutHeader, CutPayload}
use Rattle.sources.specs.Cause.{cause_number}

-- the number in two bytes, the low one first
abbrev pub word : ℕ → ℕ → ℕ
word low high = low + 256 * high

-- a source's fault
abbrev pub broken : ℕ → ℕ → Fault
broken cause place = record { origin = SOURCE; cause = cause; place = place }

-- The steps that bytes mean, the first of them at a place: records one after another. Fewer than four bytes
-- are cause 1, a payload cut short is cause 2, and nothing is ahead after these; after any other record the next is.
pub data Reads {A : Type 0} (step : ℕ → ℕ → List ℕ → Step A) : ℕ → List ℕ → List (Step A) → Type 0 where
  no_bytes : {place : ℕ} → Reads step place [] []
  cut_header : {place : ℕ} (bytes : List ℕ) → 0 < length bytes → length bytes < 4 → Reads step place bytes (Err (broken (cause_number CutHeader) place) ∷ [])
  cut_payload : {place : ℕ} {l0 l1 k0 k1 : ℕ} {bytes : List ℕ} → length bytes < word l0 l1 → Reads step place (l0 ∷ (l1 ∷ (k0 ∷ (k1 ∷ bytes)))) (Err (broken (cause_number CutPayload) place) ∷ [])
  one_record : {place : ℕ} {l0 l1 k0 k1 : ℕ} {steps : List (Step A)} (payload more : List ℕ) → length payload ≡ word l0 l1 →
      Reads step (place + 4 + word l0 l1) more steps → Reads step place (l0 ∷ (l1 ∷ (k0 ∷ (k1 ∷ (payload ++ more))))) (step place (word k0 k1) payload ∷ steps)

-- a record at the front of some bytes: its kind, its payload, and the bytes behind it
pub record Framed : Type 0 where
  pub kind : ℕ
  pub payload : List ℕ
  pub behind : List ℕ

-- the record at the front of some bytes, or the cause for which there is none
abbrev pub framed : List ℕ → Result Framed ℕ
framed [] = Err (cause_number CutHeader)
framed (a ∷ []) = Err (cause_number CutHeader)
framed (a ∷ (b ∷ [])) = Err (cause_number CutHeader)
framed (a ∷ (b ∷ (c ∷ []))) = Err (cause_number CutHeader)
framed (l0 ∷ (l1 ∷ (k0 ∷ (k1 ∷ bytes)))) =
    cond (nat_lt (length bytes) (word l0 l1)) (Err (cause_number CutPayload))
    (Ok (record { kind = word k0 k1; payload = take (word l0 l1) bytes; behind = drop (word l0 l1) bytes }))

-- the step of what stands at a place, and what is ahead after it
abbrev pub stepped : {A : Type 0} → (ℕ → ℕ → List ℕ → Step A) → ℕ → (ℕ → List ℕ → List (Step A)) → Result Framed ℕ → List (Step A)
stepped step place ahead (Err cause) = Err (broken cause place) ∷ []
stepped step place ahead (Ok r) = step place r.kind r.payload ∷ ahead (place + 4 + length r.payload) r.behind

-- the steps that bytes mean as a function; no bytes hold more records than they are
abbrev pub reading : {A : Type 0} → (ℕ → ℕ → List ℕ → Step A) → ℕ → ℕ → List ℕ → List (Step A)
reading step zero place bytes = []
reading step (suc n) place [] = []
reading step (suc n) place (b ∷ bytes) = stepped step place (reading step n) (framed (b ∷ bytes))

-- what is ahead at a place of the bytes
abbrev pub steps_from : {A : Type 0} → (ℕ → ℕ → List ℕ → Step A) → List ℕ → ℕ → List (Step A)
steps_from step bytes at = reading step (length (drop at bytes)) at (drop at bytes)
