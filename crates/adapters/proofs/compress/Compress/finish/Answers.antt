use Rattle.std.proofs.Common.{◌≡◌, true, false, [], Ok, sym, ap, ◌∙◌, subst, rules}
use Rattle.steps.specs.declared.answer.Answer.TheVariants.{End}
use Rattle.steps.specs.Steps.{first, rest}
use Rattle.steps.proofs.RunLemmas.{ran_on, ran_next, ran_all}
use Rattle.laws.specs.Items.{earlier, first_fault, kept_first}
use Rattle.laws.specs.Compress.{compresses, compress_after, compress_ends, CompressDraws}
use Rattle.laws.proofs.Steps.{end_first, earlier_none, first_kept}
use Rattle.laws.proofs.Compress.{compress_draws, compress_stays, compress_ended}
use Rattle.adapters.proofs.compress.Compress.finish.Goals as goal

pub returns-in-Ok-End : goal.returns-in-Ok-End
returns-in-Ok-End g c =
    let s = c.loop-met.self in
    let t = c.next-answer.new.self in
    let e = c.next-answer.ensures in
    let i = c.loop-met.invariant in
    let p = g.P.Predicate.says s.predicate in
    let ds = g.D.Source.ahead s.items in
    let ts = g.S.Source.ahead s.selectors in
    let after = compress_after p s.ended ds ts in
    let end : c.next-answer.result ≡ Ok End = search rules in
    let nil : compresses p s.ended ds ts ≡ [] = end_first (compresses p s.ended ds ts) (sym e.gives ∙ end) in
    let over : after.ended ≡ true = compress_ended p s.ended ds ts nil in
    let left = ap (λ b. compress_ends b after.data_left after.selectors_left) (sym over) ∙ compress_stays p s.ended ds ts ∙ i.end in
    let items = e.below_items ∙ ap (λ r. r.data_left) left in
    let selectors = e.below_selectors ∙ ap (λ r. r.selectors_left) left in
    let ds0 = g.D.Source.ahead c.args.self.now.items in
    let ts0 = g.S.Source.ahead c.args.self.now.selectors in
    record {
      meets = sym (earlier_none c.loop-met.met) ∙ ap (λ ss. earlier c.loop-met.met (first_fault ss)) (sym nil) ∙ i.met;
      stands = e.stands ∙ over;
      below_items = items;
      below_selectors = selectors;
      law = λ f.
          let x = items ∙ ap (λ b. (compress_ends b ds0 ts0).data_left) f in
          let y = selectors ∙ ap (λ b. (compress_ends b ds0 ts0).selectors_left) f in
          subst (λ us. CompressDraws ds0 ts0 us (g.S.Source.ahead t.selectors)) (sym x)
          (subst (λ us. CompressDraws ds0 ts0 (compress_ends false ds0 ts0).data_left us) (sym y) (compress_draws ds0 ts0));
      keeps = e.keeps ∙ i.predicate;
      ran = ran_all _ _ _ _ (ran_on _ _ _ _ (compresses p s.ended ds ts) _ i.ran e.gives e.draws) (ap rest nil);
    }

pub loop-met-preserved : goal.loop-met-preserved
loop-met-preserved g c =
    let s = c.loop-met.self in
    let t = c.next-answer.new.self in
    let e = c.next-answer.ensures in
    let i = c.loop-met.invariant in
    let p = g.P.Predicate.says s.predicate in
    let ds = g.D.Source.ahead s.items in
    let ts = g.S.Source.ahead s.selectors in
    let after = compress_after p s.ended ds ts in
    let ahead = compresses p s.ended ds ts in
    record {
      predicate = e.keeps ∙ i.predicate;
      end = ap (λ b. compress_ends b (g.D.Source.ahead t.items) (g.S.Source.ahead t.selectors)) e.stands
          ∙ ap (λ us. compress_ends after.ended us (g.S.Source.ahead t.selectors)) e.below_items
          ∙ ap (λ us. compress_ends after.ended after.data_left us) e.below_selectors
          ∙ compress_stays p s.ended ds ts ∙ i.end;
      met = ap (λ o. earlier o (first_fault (compresses (g.P.Predicate.says t.predicate) t.ended (g.D.Source.ahead t.items) (g.S.Source.ahead t.selectors))))
          (c.keep_first-met.ensures ∙ ap (kept_first c.loop-met.met) e.gives)
          ∙ ap (λ us. earlier (kept_first c.loop-met.met (first ahead)) (first_fault us)) e.leaves
          ∙ first_kept c.loop-met.met ahead ∙ i.met;
      ran = ran_next _ _ _ _ ahead _ _ i.ran e.gives e.draws e.leaves;
    }
