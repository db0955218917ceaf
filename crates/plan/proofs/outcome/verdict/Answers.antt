use Rattle.std.proofs.Common.{string_bytes, sym, arith, subst}
use Rattle.std.proofs.lemmas.Result.{IfOk-weaker}
use Rattle.plan.specs.Outcome.{OneLine, failed_line}
use Rattle.plan.proofs.OutcomeLemmas.{Fits, failed_one_line}
use Rattle.plan.proofs.outcome.verdict.Goals as goal

pub returns-clause-single : goal.returns-clause-single
unfolding failed_line
returns-clause-single c =
    let f : Fits c.args.account = record { faults = omega (arith, c.well_formed); overlaps = omega (arith, c.well_formed); out_of_order = omega (arith, c.well_formed); long_gaps = omega (arith, c.well_formed) } in
    let line : OneLine (failed_line c.args.account) = failed_one_line c.args.account f in
    IfOk-weaker c.failed.result _ (λ s. OneLine (string_bytes s)) (λ s e. subst OneLine (sym e) line) c.failed.ensures
