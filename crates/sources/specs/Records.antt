-- Blocks read from record bytes: a block is a record of kind 0x0010 with a payload of eight bytes.
use Rattle.std.specs.Prelude.{ℕ, cond, List, [], ◌∷◌, ◌==◌, Ok, Err}
use Rattle.steps.specs.Steps.{Step}
use Rattle.sources.specs.declared.block.Block.{Block}
use Rattle.sources.specs.Block.{right_minutes}
use Rattle.sources.specs.declared.cause.Cause.TheVariants.{OtherKind, OtherLength, WrongMinutes}
use Rattle.sources.specs.Cause.{cause_number}
use Rattle.sources.specs.Frame.{word, broken, steps_from}

-- a block with wrong minutes is cause 5
abbrev pub block_of : ℕ → Block → Step Block
block_of place b = cond (right_minutes b) (Ok b) (Err (broken (cause_number WrongMinutes) place))

-- the step of a record with this kind and this payload: another kind is cause 3, another length cause 4
abbrev pub payload_step : ℕ → List ℕ → Step Block
payload_step place (a ∷ (b ∷ (c ∷ (d ∷ (e ∷ (f ∷ (g ∷ (h ∷ [])))))))) =
    block_of place (record { bus = word a b; bay = word c d; start = word e f; end = word g h })
payload_step place [] = Err (broken (cause_number OtherLength) place)
payload_step place (a ∷ []) = Err (broken (cause_number OtherLength) place)
payload_step place (a ∷ (b ∷ [])) = Err (broken (cause_number OtherLength) place)
payload_step place (a ∷ (b ∷ (c ∷ []))) = Err (broken (cause_number OtherLength) place)
payload_step place (a ∷ (b ∷ (c ∷ (d ∷ [])))) = Err (broken (cause_number OtherLength) place)
payload_step place (a ∷ (b ∷ (c ∷ (d ∷ (e ∷ []))))) = Err (broken (cause_number OtherLength) place)
payload_step place (a ∷ (b ∷ (c ∷ (d ∷ (e ∷ (f ∷ [])))))) = Err (broken (cause_number OtherLength) place)
payload_step place (a ∷ (b ∷ (c ∷ (d ∷ (e ∷ (f ∷ (g ∷ []))))))) = Err (broken (cause_number OtherLength) place)
payload_step place (a ∷ (b ∷ (c ∷ (d ∷ (e ∷ (f ∷ (g ∷ (h ∷ (i ∷ more))))))))) = Err (broken (cause_number OtherLength) place)

abbrev pub record_step : ℕ → ℕ → List ℕ → Step Block
record_step place kind payload = cond (kind == 16) (payload_step place payload) (Err (broken (cause_number OtherKind) place))

-- the blocks and faults ahead at a place of the bytes
abbrev pub records_from : List ℕ → ℕ → List (Step Block)
records_from bytes at = steps_from record_step bytes at
