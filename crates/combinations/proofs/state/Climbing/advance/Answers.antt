use Rattle.std.proofs.Common.{subst, arith, rules}
use Rattle.std.proofs.lemmas.Option.{same_Some}
use Rattle.row_laws.specs.Climbs.{ClimbingRow}
use Rattle.row_laws.proofs.Standing.{stepped, stopped, some_ahead}
use Rattle.combinations.proofs.state.Climbing.advance.Goals as goal

pub step_large-requires : goal.step_large-requires
step_large-requires g c = c.requires c.in-Some.indices c.in-Some.is

pub returns-then-not-step_large : goal.returns-then-not-step_large
returns-then-not-step_large g c =
    let s = c.args.self.now in
    let n = s.choice.n in
    let r = s.choice.r in
    let K = g.K.Climb in
    let met = g.met.K.Climb in
    let xs = c.in-Some.indices in
    let room = s.room xs c.in-Some.is in
    let law = met.taken n r xs room (c.requires xs c.in-Some.is) in
    record {
      shows = stopped (K.lawful n r) r (K.rows n r) (met.listed n r) n s.indices xs c.in-Some.is room law c.if-not-step_large.ensures.stepped;
      climbs = λ zs e. search rules;
      stood = λ _. some_ahead (K.lawful n r) r (K.rows n r) (met.listed n r) s.indices xs c.in-Some.is law;
    }

pub returns-else-not-step_large : goal.returns-else-not-step_large
returns-else-not-step_large g c =
    let s = c.args.self.now in
    let n = s.choice.n in
    let r = s.choice.r in
    let K = g.K.Climb in
    let met = g.met.K.Climb in
    let xs = c.in-Some.indices in
    let ys = c.step_large.new.indices in
    let room = s.room xs c.in-Some.is in
    let law = met.taken n r xs room (c.requires xs c.in-Some.is) in
    record {
      shows = stepped (K.lawful n r) r (K.rows n r) (met.listed n r) n s.indices xs ys c.in-Some.is room (omega (arith, c.if-not-step_large.ensures.long, s.choice.short)) law
          c.if-not-step_large.ensures.stepped.1;
      climbs = λ zs e. subst (ClimbingRow n r K.above) (same_Some ys zs e) c.if-not-step_large.ensures.stepped.0;
      stood = λ _. some_ahead (K.lawful n r) r (K.rows n r) (met.listed n r) s.indices xs c.in-Some.is law;
    }
