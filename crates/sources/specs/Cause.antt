-- The numbers of the causes for which a record is faulty, and how they are told.
use Rattle.std.specs.Prelude.{◌≡◌, ℕ, cond, List, ◌++◌, ◌≢◌, Result, MatchResult, codes, decimal, ◌==◌}
use Rattle.steps.specs.declared.fault.Fault.{Fault}
use Rattle.steps.specs.declared.fault.TheConstants.Fault.{SOURCE}
use Rattle.steps.specs.Fault.{fault_text}
use Rattle.sources.specs.declared.cause.Cause.{Cause}
use Rattle.sources.specs.declared.cause.Cause.TheVariants.{CutHeader, CutPayload, OtherKind, OtherLength, WrongMinutes}
use Rattle.sources.specs.declared.cause.UnknownCause.{UnknownCause}

abbrev pub cause_number : Cause → ℕ
cause_number CutHeader = 1
cause_number CutPayload = 2
cause_number OtherKind = 3
cause_number OtherLength = 4
cause_number WrongMinutes = 5

-- what a number stands for: the cause that has it, or none where no cause has it
abbrev pub CauseOf : ℕ → Result Cause UnknownCause → Type 0
CauseOf n r = MatchResult r (λ cause. cause_number cause ≡ n) (λ e. (e.0 ≡ n) × ((cause : Cause) → cause_number cause ≢ n))

abbrev pub cause_text : Cause → List ℕ
cause_text CutHeader = codes "fewer than four bytes left"
cause_text CutPayload = codes "payload cut short"
cause_text OtherKind = codes "another kind of record"
cause_text OtherLength = codes "payload not of eight bytes"
cause_text WrongMinutes = codes "end not after start, or after midnight"

abbrev pub no_cause_text : ℕ → List ℕ
no_cause_text n = codes "no cause has the number " ++ decimal n

-- the words of the cause that has a number
abbrev pub number_text : ℕ → List ℕ
number_text n =
    cond (n == 1) (cause_text CutHeader)
    (cond (n == 2) (cause_text CutPayload)
    (cond (n == 3) (cause_text OtherKind)
    (cond (n == 4) (cause_text OtherLength)
    (cond (n == 5) (cause_text WrongMinutes) (codes "unknown")))))

-- a source's fault names its record, and any other is told as it is
abbrev pub record_fault_text : Fault → List ℕ
record_fault_text f =
    cond (f.origin == SOURCE)
    (codes "record at byte " ++ (decimal f.place ++ (codes ", cause " ++ (decimal f.cause ++ (codes ": " ++ number_text f.cause)))))
    (fault_text f)
