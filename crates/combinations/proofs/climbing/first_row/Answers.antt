use Rattle.std.proofs.Common.{◌-◌, ltb, leb, sym, ⊎_elim, arith, rules}
use Rattle.std.proofs.lemmas.Bool.{and_cases, ltb-false, leb-false}
use Rattle.combinations.proofs.climbing.first_row.Goals as goal

pub returns : goal.returns
returns g c =
    let high = g.K.Climb.above (c.args.choice.r - 1) in (
      (λ pos. ⊎_elim
          (λ e. absurd (omega (arith, ltb-false 0 c.args.choice.r e)))
          (λ e. leb-false c.args.choice.n high e)
          (and_cases (ltb 0 c.args.choice.r) (leb c.args.choice.n high) (sym c.if-has_no_row.ensures))),
      c.from_fn.ensures.items.long,
      (λ k k<. let h = c.from_fn.ensures.items.at k 0 k< in search rules),
    )
