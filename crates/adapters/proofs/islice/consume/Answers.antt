use Rattle.std.proofs.Common.{◌≡◌, Some, sym, ap, ◌∙◌, subst}
use Rattle.steps.proofs.RunLemmas.{ran_as}
use Rattle.laws.specs.Items.{first_fault}
use Rattle.laws.specs.Islice.{slices, slice_end, until, DrawnByEnd}
use Rattle.laws.proofs.Islice.{draws_by_end}
use Rattle.adapters.proofs.islice.consume.Goals as goal

pub returns-clause-consumed : goal.returns-clause-consumed
returns-clause-consumed g c =
    let m = c.in_ok-slice.ensures.made in
    let s = c.in_ok-slice.slice in
    let b = m.1.read in
    let ss = g.S.Source.ahead c.args.source in
    let f = c.finish-met.ensures in
    let source = ap g.S.Source.ahead m.0 in
    let stop = m.1.stop_is in
    let step = m.1.step_is in
    let next = m.1.next_is in
    let cur = m.1.none_drawn in
    let left : slice_end s.stop s.step s.next s.cur (g.S.Source.ahead s.source) ≡ slice_end (until b.start b.stop) b.step (Some b.start) 0 ss = cc in
    let gives : slices s.stop s.step s.next s.cur (g.S.Source.ahead s.source) ≡ slices (until b.start b.stop) b.step (Some b.start) 0 ss = cc in
    record {
      read = b;
      from_arguments = m.1.from_arguments;
      exactly = f.below ∙ left;
      drawn = subst (DrawnByEnd b ss) (sym (f.below ∙ left)) (draws_by_end c.args.arguments.now b m.1.from_arguments ss);
      first_met = f.meets ∙ ap first_fault gives;
    }

pub returns-clause-ran : goal.returns-clause-ran
returns-clause-ran g c =
    let m = c.in_ok-slice.ensures.made in
    let s = c.in_ok-slice.slice in
    let b = m.1.read in
    let ss = g.S.Source.ahead c.args.source in
    let source = ap g.S.Source.ahead m.0 in
    let bottom = ap g.S.Source.bottom m.0 in
    let stop = m.1.stop_is in
    let step = m.1.step_is in
    let next = m.1.next_is in
    let cur = m.1.none_drawn in
    let gives : slices s.stop s.step s.next s.cur (g.S.Source.ahead s.source) ≡ slices (until b.start b.stop) b.step (Some b.start) 0 ss = cc in
    (b, m.1.from_arguments, ran_as _ _ _ _ _ c.finish-met.ensures.ran bottom gives)
