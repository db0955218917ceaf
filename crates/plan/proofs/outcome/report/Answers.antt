use Rattle.std.proofs.Common.{◌≡◌, string_bytes, ap, subst, refl, ◌∙◌}
use Rattle.sources.specs.Records.{records_from}
use Rattle.plan.specs.Account.{account_of}
use Rattle.plan.specs.Outcome.{report_text, verdict_line, OneLine}
use Rattle.plan.proofs.OutcomeLemmas.{reported, tells}
use Rattle.plan.proofs.outcome.report.Goals as goal

pub returns-clause-text : goal.returns-clause-text
returns-clause-text g c =
    reported (g.W.Write.contents c.args.out.now) (g.W.Write.contents c.writeln.new.self) (g.W.Write.contents c.write_account.new.out) (g.W.Write.contents c.writeln-2.new.self)
    c.args.name.now c.args.bytes.now (string_bytes c.in_ok-line.line) c.in_ok-account.account
    c.in_ok-writeln.ensures.bytes c.in_ok-write_account.ensures c.in_ok-writeln-2.ensures.bytes c.in_ok-account.ensures.counts c.in_ok-line.ensures.line

pub returns-clause-law : goal.returns-clause-law
returns-clause-law g c =
    let said : string_bytes c.in_ok-line.line ≡ verdict_line (account_of (records_from c.args.bytes.now 0)) = c.in_ok-line.ensures.line ∙ ap verdict_line c.in_ok-account.ensures.counts in (
      report_text c.args.name.now c.args.bytes.now,
      reported (g.W.Write.contents c.args.out.now) (g.W.Write.contents c.writeln.new.self) (g.W.Write.contents c.write_account.new.out) (g.W.Write.contents c.writeln-2.new.self)
          c.args.name.now c.args.bytes.now (string_bytes c.in_ok-line.line) c.in_ok-account.account
          c.in_ok-writeln.ensures.bytes c.in_ok-write_account.ensures c.in_ok-writeln-2.ensures.bytes c.in_ok-account.ensures.counts c.in_ok-line.ensures.line,
      tells c.args.name.now c.args.bytes.now (report_text c.args.name.now c.args.bytes.now) refl (subst OneLine said c.in_ok-line.ensures.single),
    )
