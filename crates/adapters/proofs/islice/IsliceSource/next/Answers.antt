use Rattle.std.proofs.Common.{◌≡◌, true, Some, sym, refl, ap, ◌∙◌}
use Rattle.steps.specs.Steps.{first, rest}
use Rattle.std.proofs.Common.{rules}
use Rattle.steps.proofs.Below.{drew_none, quiet_same, drew_as, drew_at, drew_on, drew_quiet, quiet_on}
use Rattle.laws.specs.Islice.{over, slices}
use Rattle.laws.proofs.Islice.{over_gives, over_after, slice_call}
use Rattle.adapters.proofs.islice.IsliceSource.next.Goals as goal

pub returns-in_default : goal.returns-in_default
returns-in_default g c =
    let s = c.args.self.now in
    let ss = g.S.Source.ahead s.source in
    let o : over s.stop s.next s.cur ≡ true = ap (λ n. over s.stop n s.cur) c.in_default.is in
    let e = over_gives s.stop s.step s.next s.cur ss o in
    let a = over_after s.stop s.step s.next s.cur ss o in
    record {
      gives = sym (ap first e);
      leaves = e ∙ sym (ap rest e);
      below = sym (ap (λ r. r.left) a);
      stands = (sym (ap (λ r. r.next) a), sym (ap (λ r. r.cur) a));
      keeps = (refl, refl);
      keeps_loans = refl;
      draws = drew_none _ _ (quiet_same _);
      follows = slice_call s.stop s.stop s.step s.step s.next s.next s.cur s.cur ss ss _ (sym (ap first e)) (sym (ap (λ r. r.left) a)) (sym (ap (λ r. r.next) a)) (sym (ap (λ r. r.cur) a)) refl refl;
    }

pub returns-in_err-_lost-clause-draws : goal.returns-in_err-_lost-clause-draws
returns-in_err-_lost-clause-draws g c = drew_as _ _ _ _ (drew_on _ _ _ _ c.loop-self.invariant.drawn c.in_err-_lost.ensures.draws) (search rules)

pub returns-in_default-2-clause-draws : goal.returns-in_default-2-clause-draws
returns-in_default-2-clause-draws g c = drew_on _ _ _ _ c.loop-self.invariant.drawn c.in_ok-_lost.ensures.draws

pub returns-in_err-item-clause-draws : goal.returns-in_err-item-clause-draws
returns-in_err-item-clause-draws g c = drew_as _ _ _ _ (drew_on _ _ _ _ c.loop-self.invariant.drawn c.in_err-item.ensures.draws) (search rules)

pub returns-in_default-3-clause-draws : goal.returns-in_default-3-clause-draws
returns-in_default-3-clause-draws g c = drew_on _ _ _ _ c.loop-self.invariant.drawn c.in_ok-item.ensures.draws

pub returns-then-is_reached : goal.returns-then-is_reached
returns-then-is_reached g c =
    let s = c.loop-self.self in
    let i = c.loop-self.invariant in
    let n = c.in-Some.next in
    let ss = g.S.Source.ahead s.source in
    let o : over s.stop (Some n) s.cur ≡ true = sym c.is_reached-2.ensures ∙ c.if-is_reached.true in
    let e = over_gives s.stop s.step (Some n) s.cur ss o in
    let a = over_after s.stop s.step (Some n) s.cur ss o in
    let e0 = sym i.ahead ∙ e in
    let a0 = sym i.after ∙ a in
    record {
      gives = sym (ap first e0);
      leaves = ap (λ m. slices s.stop s.step m s.cur ss) i.next ∙ e ∙ sym (ap rest e0);
      below = sym (ap (λ r. r.left) a0);
      stands = (i.next ∙ sym (ap (λ r. r.next) a0), sym (ap (λ r. r.cur) a0));
      keeps = (i.stop, i.step);
      keeps_loans = i.loans;
      draws = drew_none _ _ i.drawn;
      follows = slice_call c.args.self.now.stop s.stop c.args.self.now.step s.step c.args.self.now.next s.next c.args.self.now.cur s.cur (g.S.Source.ahead c.args.self.now.source) ss _
          (sym (ap first e0)) (sym (ap (λ r. r.left) a0)) (i.next ∙ sym (ap (λ r. r.next) a0)) (sym (ap (λ r. r.cur) a0)) i.stop i.step;
    }

pub returns-clause-draws : goal.returns-clause-draws
returns-clause-draws g c = drew_at _ _ _ _ (drew_on _ _ _ _ c.loop-self.invariant.drawn c.in_ok-item.ensures.draws) (search rules)

pub loop-self-preserved : goal.loop-self-preserved
loop-self-preserved g c = record {
  next = search rules;
  stop = search rules;
  step = search rules;
  ahead = search rules;
  after = search rules;
  loans = search rules;
  drawn = quiet_on _ _ _ c.loop-self.invariant.drawn (drew_quiet _ _ c.in_ok-_lost.ensures.draws);
}
