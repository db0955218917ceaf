use Rattle.std.proofs.Common.{◌≤◌, length, ap, option_map, arith}
use Rattle.row_laws.proofs.Permutations.{cycles_stepped, cycles_ended, cycles_stood}
use Rattle.permutations.proofs.permutations.PermutationsEnumerator.advance.Goals as goal

pub step-requires-clause-cycling : goal.step-requires-clause-cycling
step-requires-clause-cycling c = c.args.self.now.cycling c.in-Some.at c.in-Some.is

pub returns-then-not-step : goal.returns-then-not-step
returns-then-not-step c =
    let e = c.args.self.now in
    let s = e.standing in
    let t = c.in-Some.at in
    let at = option_map (λ z. z.indices) s.cycles in
    let is = ap (option_map (λ z. z.indices)) c.in-Some.is in
    let room : s.choice.n ≤ length t.indices = omega (arith, t.whole, s.choice.few) in
    record {
      shows = cycles_ended s.choice.n s.choice.r at t.indices t.cycles is (e.fitting t c.in-Some.is) room (e.cycling t c.in-Some.is)
          c.step.new.indices c.step.new.cycles c.if-not-step.ensures.stepped;
      rests = cycles_stood s.choice.n s.choice.r at t.indices t.cycles is (e.fitting t c.in-Some.is) room (e.cycling t c.in-Some.is);
    }

pub returns-else-not-step : goal.returns-else-not-step
returns-else-not-step c =
    let e = c.args.self.now in
    let s = e.standing in
    let t = c.in-Some.at in
    let at = option_map (λ z. z.indices) s.cycles in
    let is = ap (option_map (λ z. z.indices)) c.in-Some.is in
    let room : s.choice.n ≤ length t.indices = omega (arith, t.whole, s.choice.few) in
    record {
      shows = cycles_stepped s.choice.n s.choice.r at t.indices t.cycles is (e.fitting t c.in-Some.is) room (e.cycling t c.in-Some.is)
          c.step.new.indices c.step.new.cycles c.if-not-step.ensures.long c.if-not-step.ensures.stepped;
      rests = cycles_stood s.choice.n s.choice.r at t.indices t.cycles is (e.fitting t c.in-Some.is) room (e.cycling t c.in-Some.is);
    }
