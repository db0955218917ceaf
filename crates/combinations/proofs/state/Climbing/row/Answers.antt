use Rattle.std.proofs.Common.{◌≡◌, ◌∷◌, Some, rules, sym, ap, ◌∙◌}
use Rattle.row_laws.specs.Calls.{other_rows}
use Rattle.row_laws.proofs.Standing.{shown}
use Rattle.row_laws.proofs.Calling.{part_front}
use Rattle.combinations.specs.Standing.{shown_by}
use Rattle.combinations.proofs.state.Climbing.row.Goals as goal

pub returns : goal.returns
returns g c =
    let s = c.args.self.now in
    let xs = c.in_ok-indices.indices.now in
    let is : s.indices ≡ Some xs = search rules in
    let n = s.choice.n in
    let r = s.choice.r in
    let K = g.K.Climb in
    let law = g.met.K.Climb.taken n r xs (s.room xs is) (c.requires xs is) in
    shown (K.lawful n r) r (K.rows n r) (g.met.K.Climb.listed n r) s.indices xs is law
    ∙ ap (λ row. row ∷ other_rows (shown_by K.rows s).ahead) (sym (part_front r xs))
