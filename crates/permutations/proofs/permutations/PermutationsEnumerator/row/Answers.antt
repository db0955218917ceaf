use Rattle.std.proofs.Common.{◌≡◌, ◌∷◌, Some, rules, sym, ap, ◌∙◌, option_map, arith}
use Rattle.row_laws.specs.Calls.{other_rows}
use Rattle.row_laws.specs.Lists.{permutation_rows}
use Rattle.row_laws.specs.Standing.{one_pool}
use Rattle.row_laws.proofs.Calling.{part_front}
use Rattle.row_laws.proofs.Permutations.{cycles_show}
use Rattle.permutations.proofs.permutations.PermutationsEnumerator.row.Goals as goal

pub returns : goal.returns
returns c =
    let e = c.args.self.now in
    let s = e.standing in
    let t = c.in_ok-cycles.cycles.now in
    let is : s.cycles ≡ Some t = search rules in
    let at = option_map (λ z. z.indices) s.cycles in
    cycles_show s.choice.n s.choice.r at t.indices t.cycles (ap (option_map (λ z. z.indices)) is) (e.fitting t is)
    (omega (arith, t.whole, s.choice.few)) (e.cycling t is)
    ∙ ap (λ row. row ∷ other_rows (one_pool (permutation_rows s.choice.n s.choice.r) s.choice.n s.choice.r at).ahead)
    (sym (part_front s.choice.r t.indices))
