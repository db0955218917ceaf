use Rattle.std.proofs.Common.{◌≡◌, [], Ok, sym, ap, ◌∙◌, rules}
use Rattle.steps.specs.declared.answer.Answer.TheVariants.{End}
use Rattle.steps.specs.Steps.{first, rest}
use Rattle.steps.proofs.RunLemmas.{ran_on, ran_next, ran_all}
use Rattle.laws.specs.Items.{earlier, first_fault, kept_first}
use Rattle.laws.specs.Islice.{slices, slice_after, slice_end}
use Rattle.laws.proofs.Steps.{end_first, earlier_none, first_kept}
use Rattle.laws.proofs.Islice.{end_stays, end_left, end_rests}
use Rattle.adapters.proofs.islice.Islice.finish.Goals as goal

pub returns-in-Ok-End : goal.returns-in-Ok-End
returns-in-Ok-End g c =
    let s = c.loop-met.self in
    let e = c.next-answer.ensures in
    let i = c.loop-met.invariant in
    let ss = g.S.Source.ahead s.source in
    let end : c.next-answer.result ≡ Ok End = search rules in
    let t = c.next-answer.new.self in
    let after = slice_after s.stop s.step s.next s.cur ss in
    let nil : slices s.stop s.step s.next s.cur ss ≡ [] = end_first (slices s.stop s.step s.next s.cur ss) (sym e.gives ∙ end) in
    let stop = e.keeps.0 in
    let step = e.keeps.1 in
    let next = e.stands.0 in
    let cur = e.stands.1 in
    let left = e.below in
    let again = end_rests s.stop s.step ss s.next s.cur nil in
    let rests : (slice_after t.stop t.step t.next t.cur (g.S.Source.ahead t.source)).left ≡ g.S.Source.ahead t.source = cc in
    record {
      meets = sym (earlier_none c.loop-met.met) ∙ ap (λ us. earlier c.loop-met.met (first_fault us)) (sym nil) ∙ i.met;
      ended = e.leaves ∙ ap rest nil;
      below = e.below ∙ end_left s.stop s.step ss s.next s.cur nil ∙ i.end;
      stays = rests;
      keeps = (e.keeps.0 ∙ i.stop, e.keeps.1 ∙ i.step);
      ran = ran_all _ _ _ _ (ran_on _ _ _ _ (slices s.stop s.step s.next s.cur ss) _ i.ran e.gives e.draws) (ap rest nil);
    }

pub loop-met-preserved : goal.loop-met-preserved
loop-met-preserved g c =
    let s = c.loop-met.self in
    let t = c.next-answer.new.self in
    let e = c.next-answer.ensures in
    let i = c.loop-met.invariant in
    let ss = g.S.Source.ahead s.source in
    let after = slice_after s.stop s.step s.next s.cur ss in
    let ahead = slices s.stop s.step s.next s.cur ss in
    record {
      stop = e.keeps.0 ∙ i.stop;
      step = e.keeps.1 ∙ i.step;
      end = ap (λ o. slice_end o t.step t.next t.cur (g.S.Source.ahead t.source)) e.keeps.0
          ∙ ap (λ k. slice_end s.stop k t.next t.cur (g.S.Source.ahead t.source)) e.keeps.1
          ∙ ap (λ o. slice_end s.stop s.step o t.cur (g.S.Source.ahead t.source)) e.stands.0
          ∙ ap (λ k. slice_end s.stop s.step after.next k (g.S.Source.ahead t.source)) e.stands.1
          ∙ ap (λ us. slice_end s.stop s.step after.next after.cur us) e.below
          ∙ end_stays s.stop s.step ss s.next s.cur ∙ i.end;
      met = ap (λ o. earlier o (first_fault (slices t.stop t.step t.next t.cur (g.S.Source.ahead t.source)))) (c.keep_first-met.ensures ∙ ap (kept_first c.loop-met.met) e.gives)
          ∙ ap (λ us. earlier (kept_first c.loop-met.met (first ahead)) (first_fault us)) e.leaves
          ∙ first_kept c.loop-met.met ahead ∙ i.met;
      ran = ran_next _ _ _ _ ahead _ _ i.ran e.gives e.draws e.leaves;
    }
