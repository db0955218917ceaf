use Rattle.std.proofs.Common.{subst, rules, ◌≡◌, [], ◌∷◌, ◌++◌, Some, vec_items, sym, ap, ◌∙◌}
use Rattle.std.proofs.lemmas.Result.{err_from_is_err_and}
use Rattle.steps.specs.Steps.{first, rest, answered}
use Rattle.steps.proofs.Answered.{drawn_more}
use Rattle.steps.specs.Below.{Ran, mark_there}
use Rattle.steps.proofs.Below.{drew_as}
use Rattle.steps.proofs.RunLemmas.{ran_more, ran_end, fault_answered}
use Rattle.steps.proofs.run.collect.Goals as goal

pub returns-in_err-push : goal.returns-in_err-push
returns-in_err-push g c =
    let ss = g.S.Source.ahead c.loop-step.source in
    let f : answered (first ss) ≡ Some c.in-Some.step = ap answered (sym c.next.ensures.gives) ∙ sym c.in-Some.ensures in
    let d = drawn_more _ (vec_items c.loop-step.steps) ss c.in-Some.step c.loop-step.invariant.collected f in
    let p = err_from_is_err_and c.from_residual.result c.from_residual.ensures.1 in
    record {
      gives = rw p.1 tt;
      ran = rw p.1 tt;
      described_without_memory = (vec_items c.loop-step.steps ++ c.in-Some.step ∷ [], d ∙ ap (λ us. (vec_items c.loop-step.steps ++ c.in-Some.step ∷ []) ++ us) (sym c.next.ensures.leaves));
    }

pub loop-step-preserved : goal.loop-step-preserved
loop-step-preserved g c =
    let ss = g.S.Source.ahead c.loop-step.source in
    let f : answered (first ss) ≡ Some c.in-Some.step = ap answered (sym c.next.ensures.gives) ∙ sym c.in-Some.ensures in
    let d = drawn_more _ (vec_items c.loop-step.steps) ss c.in-Some.step c.loop-step.invariant.collected f in
    let e : vec_items c.push.new.self ≡ vec_items c.loop-step.steps ++ c.in-Some.step ∷ [] = search rules in
    let o = fault_answered c.next.result ∙ ap mark_there (sym c.in-Some.ensures) in
    let more = ran_more _ _ _ (vec_items c.loop-step.steps) c.in-Some.step _ c.loop-step.invariant.ran c.next.ensures.draws o in
    record {
      collected = d ∙ ap (λ us. us ++ rest ss) (sym e) ∙ ap (λ us. vec_items c.push.new.self ++ us) (sym c.next.ensures.leaves);
      ran = subst (λ xs. Ran (g.S.Source.bottom c.args.source.now) (g.S.Source.bottom c.next.new.self) xs) (sym e) more;
    }

pub returns-clause-ran : goal.returns-clause-ran
returns-clause-ran g c = ran_end _ _ _ _ c.loop-step.invariant.ran (drew_as _ _ _ _ c.next.ensures.draws (ap mark_there c.in_default.ensures ∙ sym (fault_answered c.next.result)))
