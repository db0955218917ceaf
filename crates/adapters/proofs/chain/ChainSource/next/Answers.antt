use Rattle.std.proofs.Common.{rules, None}
use Rattle.steps.specs.Below.{Two, Drew}
use Rattle.steps.proofs.Below.{drew_as, drew_at, drew_then, drew_left, drew_right, drew_still}
use Rattle.adapters.proofs.chain.ChainSource.next.Goals as goal
use Rattle.adapters.proofs.chain.ChainSource.next.Goals.{in-First+in_ok-item+in_default-2, in_default}

pub returns-in_err-item-clause-draws : goal.returns-in_err-item-clause-draws
returns-in_err-item-clause-draws g c = drew_as _ _ _ _ (drew_left _ _ _ _ c.in_err-item.ensures.draws) (search rules)

pub returns-in-Item-clause-draws : goal.returns-in-Item-clause-draws
returns-in-Item-clause-draws g c = drew_left _ _ _ _ c.in_ok-item.ensures.draws

pub returns-in_err-item-2-clause-draws : goal.returns-in_err-item-2-clause-draws
returns-in_err-item-2-clause-draws g c =
    let d : Drew (Two (g.A.Source.bottom c.args.self.now.first) (g.B.Source.bottom c.args.self.now.second)) (Two (g.A.Source.bottom c.match-stage.self.first) (g.B.Source.bottom c.match-stage.self.second)) None =
    elim c.match-stage.branch [ in-First+in_ok-item+in_default-2 w ↦ drew_at _ _ _ _ (drew_left _ _ _ _ w.in_ok-item.ensures.draws) (search rules) | in_default w ↦ drew_at _ _ _ _ (drew_still _) (search rules) ] in
    drew_as _ _ _ _ (drew_then _ _ _ _ d (drew_right _ _ _ _ c.in_err-item-2.ensures.draws)) (search rules)

pub returns-in_default-3-clause-draws : goal.returns-in_default-3-clause-draws
returns-in_default-3-clause-draws g c =
    let d : Drew (Two (g.A.Source.bottom c.args.self.now.first) (g.B.Source.bottom c.args.self.now.second)) (Two (g.A.Source.bottom c.match-stage.self.first) (g.B.Source.bottom c.match-stage.self.second)) None =
    elim c.match-stage.branch [ in-First+in_ok-item+in_default-2 w ↦ drew_at _ _ _ _ (drew_left _ _ _ _ w.in_ok-item.ensures.draws) (search rules) | in_default w ↦ drew_at _ _ _ _ (drew_still _) (search rules) ] in
    drew_then _ _ _ _ d (drew_right _ _ _ _ c.in_ok-item-2.ensures.draws)

pub returns-clause-draws : goal.returns-clause-draws
returns-clause-draws g c =
    let d : Drew (Two (g.A.Source.bottom c.args.self.now.first) (g.B.Source.bottom c.args.self.now.second)) (Two (g.A.Source.bottom c.match-stage.self.first) (g.B.Source.bottom c.match-stage.self.second)) None =
    elim c.match-stage.branch [ in-First+in_ok-item+in_default-2 w ↦ drew_at _ _ _ _ (drew_left _ _ _ _ w.in_ok-item.ensures.draws) (search rules) | in_default w ↦ drew_at _ _ _ _ (drew_still _) (search rules) ] in
    drew_then _ _ _ _ d (drew_right _ _ _ _ c.in_ok-item-2.ensures.draws)
