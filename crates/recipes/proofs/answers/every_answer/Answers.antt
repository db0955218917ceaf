use Rattle.std.proofs.Common.{refl}
use Rattle.recipes.proofs.AnswerLemmas.{at_place, first_accepted, counts_kept, each_dot, nth_broken, first_met, first_own, count_met, count_own}
use Rattle.recipes.proofs.AlikeLemmas.{each_alike, alike_met}
use Rattle.recipes.proofs.answers.every_answer.Goals as goal

pub returns : goal.returns
returns g c = record {
  result = refl;
  nth = at_place;
  first = first_accepted;
  count = counts_kept;
  dot = each_dot;
  alike = each_alike;
  faults = record { nth = nth_broken; first = first_met; first_own = first_own; count = count_met; count_own = count_own; alike = alike_met };
  edges = (refl, refl);
}
