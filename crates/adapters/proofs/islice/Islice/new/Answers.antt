use Rattle.std.proofs.Common.{Some, sym, refl, subst}
use Rattle.laws.specs.Islice.{Bounds, EveryStep, DrawnWhenGiven, DrawnByEnd, slices, slice_run, slice_end}
use Rattle.laws.proofs.Islice.{gives_every_step, drawn_when_given, draws_by_end}
use Rattle.adapters.proofs.islice.Islice.new.Goals as goal

pub returns-clause-made : goal.returns-clause-made
returns-clause-made g c =
    let w = c.in-Some.bounds in
    let b : Bounds = record { start = w.start; stop = w.stop; step = w.step } in
    let from = sym c.in-Some.ensures in
    let ss = g.S.Source.ahead c.args.source in (
      refl,
      record {
        read = b;
        from_arguments = from;
        none_drawn = refl;
        next_is = refl;
        stop_is = c.drawn_until-stop.ensures;
        step_is = refl;
        law = subst (λ stop. EveryStep b ss (slices stop w.step (Some w.start) 0 ss)) (sym c.drawn_until-stop.ensures) (gives_every_step c.args.arguments.now b from ss);
        when_given = subst (λ stop. DrawnWhenGiven b ss (slice_run stop w.step (Some w.start) 0 ss)) (sym c.drawn_until-stop.ensures) (drawn_when_given c.args.arguments.now b from ss);
        by_end = subst (λ stop. DrawnByEnd b ss (slice_end stop w.step (Some w.start) 0 ss)) (sym c.drawn_until-stop.ensures) (draws_by_end c.args.arguments.now b from ss);
      },
    )
