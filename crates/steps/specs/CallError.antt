-- How it is told why a call gave no answer.
use Rattle.std.specs.Prelude.{ℕ, List}
use Rattle.steps.specs.declared.call_error.CallError.{CallError}
use Rattle.steps.specs.declared.call_error.CallError.TheVariants.{Refused, Broken}
use Rattle.steps.specs.Refusals.{refusal_text}
use Rattle.steps.specs.Fault.{fault_text}

-- the text of what it holds
abbrev pub call_error_text : CallError → List ℕ
call_error_text (Refused r) = refusal_text r
call_error_text (Broken f) = fault_text f
