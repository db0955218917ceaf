use Rattle.std.proofs.Common.{arith}
use Rattle.row_laws.proofs.Climbing.{raised_at, raised_climbs, raised_next, top_last}
use Rattle.combinations.proofs.climbing.step.Goals as goal

pub raise-requires : goal.raise-requires
raise-requires g c =
    let found = c.in-Some.ensures in
    record { place = (found.0, c.requires.room); small = omega (arith, c.requires.climbs.below c.in-Some.i found.0, c.requires.small) }

pub returns-clause-stepped : goal.returns-clause-stepped
returns-clause-stepped g c =
    let n = c.args.n in
    let r = c.args.r in
    let K = g.K.Climb in
    let met = g.met.K.Climb in
    let xs = c.args.indices.now in
    let ys = c.raise.new.indices in
    let found = c.in-Some.ensures in
    let up = raised_at n r K.above c.in-Some.i xs ys c.requires.climbs found.0 found.1 found.2 c.raise.ensures.front c.raise.ensures.low in
    (raised_climbs n r K.above met.unfalling c.in-Some.i xs ys c.requires.climbs up, raised_next n r K.above (K.lawful n r) (met.climbs n r) c.in-Some.i xs ys up)

pub returns-in_default-clause-stepped : goal.returns-in_default-clause-stepped
returns-in_default-clause-stepped g c = top_last c.args.n c.args.r g.K.Climb.above (g.K.Climb.lawful c.args.n c.args.r) (g.met.K.Climb.climbs c.args.n c.args.r) c.args.indices.now c.in_default.ensures
