use Rattle.std.proofs.Common.{refl, ◌∙◌}
use Rattle.laws.proofs.Runs.{one_division}
use Rattle.laws.proofs.GroupBy.{every_history}
use Rattle.groups.proofs.history.every_history.Goals as goal

pub returns : goal.returns
returns g c =
    let laws = g.met.K.Key.Eq.laws in
    record {
      result = refl;
      law = λ shown. every_history g.K.Key.PartialEq.eq shown (λ p q e. laws.symm q p ∙ e) (λ p q r e f. laws.congr p q r e ∙ f);
      division = λ key xs h. one_division key g.K.Key.PartialEq.eq (λ p q e. laws.symm q p ∙ e) (λ p q r e f. laws.congr p q r e ∙ f) xs h;
    }
