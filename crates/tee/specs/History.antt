-- A call of the runner, as the memory that it stands for.
use Rattle.std.specs.Prelude.{List, map, Some, None, Option, vec_items}
use Rattle.laws.specs.Tee.{Ask, Step, StepElsewhere, Copy, Told, Stepped, Copied, Memory}
use Rattle.tee.specs.declared.history.Ask.{Ask as TheAsk}
use Rattle.tee.specs.declared.history.Ask.TheVariants.{Step as AsksStep, StepElsewhere as AsksElsewhere, Copy as AsksCopy}
use Rattle.tee.specs.declared.history.Told.{Told as TheTold}
use Rattle.tee.specs.declared.history.Told.TheVariants.{Stepped as ToldStepped, Copied as ToldCopied}
use Rattle.tee.specs.declared.history.Call.{Call}

abbrev pub asked : TheAsk → Ask
asked (AsksStep b) = Step b
asked (AsksElsewhere b) = StepElsewhere b
asked (AsksCopy b) = Copy b

abbrev pub told : {A : Type 0} → TheTold A → Told A
told (ToldStepped r) = Stepped r
told (ToldCopied r) = Copied r

abbrev pub told_so_far : {A : Type 0} → Option (TheTold A) → Option (Told A)
told_so_far None = None
told_so_far (Some t) = Some (told t)

abbrev pub memory : {A : Type 0} → Call A → Memory A
memory call = record {
  ask = asked call.ask;
  other = vec_items call.other;
  told = told_so_far call.told;
}

abbrev pub memories : {A : Type 0} → List (Call A) → List (Memory A)
memories calls = map memory calls
