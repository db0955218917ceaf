-- A number that no cause has is told as unknown.
use Rattle.std.proofs.Common.{◌≡◌, ℕ, false, ◌≢◌, codes, eqb, sym, ◌∙◌}
use Rattle.std.proofs.lemmas.Bool.{cond-false, ne_eqb}
use Rattle.sources.specs.declared.cause.Cause.{Cause}
use Rattle.sources.specs.declared.cause.Cause.TheVariants.{CutHeader, CutPayload, OtherKind, OtherLength, WrongMinutes}
use Rattle.sources.specs.Cause.{cause_number, number_text}

pub no_cause : (n : ℕ) → ((cause : Cause) → cause_number cause ≢ n) → codes "unknown" ≡ number_text n
no_cause n h =
    let none : (cause : Cause) → eqb n (cause_number cause) ≡ false = λ cause. ne_eqb n (cause_number cause) (λ e. h cause (sym e)) in
    sym (cond-false (eqb n 1) _ _ (none CutHeader) ∙ cond-false (eqb n 2) _ _ (none CutPayload) ∙ cond-false (eqb n 3) _ _ (none OtherKind)
    ∙ cond-false (eqb n 4) _ _ (none OtherLength) ∙ cond-false (eqb n 5) _ _ (none WrongMinutes))
