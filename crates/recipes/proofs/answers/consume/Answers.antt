use Rattle.recipes.proofs.CallLemmas.{consumed_past, match_on}
use Rattle.recipes.proofs.answers.consume.Goals as goal

pub returns : goal.returns
returns g c = record {
  answer = match_on c.consume.result _ _ _ _ (λ p k. (k, consumed_past c.args.n _ _ _ k)) (λ e k. k) c.consume.ensures.consumed;
}
