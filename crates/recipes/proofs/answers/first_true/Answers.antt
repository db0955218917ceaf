use Rattle.std.proofs.Common.{sym, ap, ◌∙◌}
use Rattle.steps.specs.Steps.{first}
use Rattle.recipes.proofs.AnswerLemmas.{first_broken}
use Rattle.recipes.proofs.answers.first_true.Goals as goal

pub returns : goal.returns
returns g c = record {
  answer = first_broken (g.P.Predicate.says c.args.predicate) (g.S.Source.ahead c.args.source) c.in-Err.fault (sym c.in-Err.is ∙ c.next.ensures.gives ∙ ap first c.new.ensures.ahead);
}
