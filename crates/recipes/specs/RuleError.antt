-- The error of a rule that makes a list, by the error of a call, and its text.
use Rattle.std.specs.Prelude.{ℕ, List, codes}
use Rattle.steps.specs.declared.call_error.CallError.{CallError}
use Rattle.steps.specs.declared.call_error.CallError.TheVariants.{Refused as call_refused, Broken as call_broken}
use Rattle.steps.specs.Fault.{fault_text}
use Rattle.steps.specs.Refusals.{refusal_text}
use Rattle.recipes.specs.declared.rule_error.RuleError.{RuleError}
use Rattle.recipes.specs.declared.rule_error.RuleError.TheVariants.{Broken, Refused, Memory}

abbrev pub rule_error_of : CallError → RuleError
rule_error_of (call_refused r) = Refused r
rule_error_of (call_broken f) = Broken f

-- the text of what it holds
abbrev pub rule_error_text : RuleError → List ℕ
rule_error_text (Broken f) = fault_text f
rule_error_text (Refused r) = refusal_text r
rule_error_text (Memory e) = codes "no memory for the list"
