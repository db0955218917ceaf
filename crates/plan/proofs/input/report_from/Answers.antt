use Rattle.std.proofs.Common.{◌↔◌, ℕ, List, IsTrue, subst}
use Rattle.std.specs.Io.KnownBytes.{Appends}
use Rattle.sources.specs.Records.{records_from}
use Rattle.plan.specs.Pass.{Passes}
use Rattle.plan.specs.Account.{all_clear}
use Rattle.plan.specs.Outcome.{Tells}
use Rattle.plan.proofs.InputLemmas.{of_known}
use Rattle.plan.proofs.input.report_from.Goals as goal

pub returns-clause-verdict : goal.returns-clause-verdict
returns-clause-verdict g c =
    let P : List ℕ → Type 0 = λ bytes. IsTrue (all_clear c.in-Ok-report.account) ↔ Passes (records_from bytes 0) in
    of_known (g.R.Read.remaining c.args.input.now) c.in-Ok.bytes.items P c.in-Ok.ensures (subst P c.as_slice.ensures.value c.in-Ok-report.ensures.verdict)

pub returns-clause-law : goal.returns-clause-law
returns-clause-law g c =
    let P : List ℕ → Type 0 = λ bytes. (text : List ℕ) × Appends (g.W.Write.contents c.args.out.now) (g.W.Write.contents c.report.new.out) text × Tells c.args.name.now bytes text in
    of_known (g.R.Read.remaining c.args.input.now) c.in-Ok.bytes.items P c.in-Ok.ensures (subst P c.as_slice.ensures.value c.in-Ok-report.ensures.law)
