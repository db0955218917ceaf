use Rattle.laws.proofs.Tee.{every_history, refused_unfelt, same_answers}
use Rattle.tee.proofs.history.every_history.Goals as goal

pub returns-clause-law : goal.returns-clause-law
returns-clause-law g c = every_history _ _

pub returns-clause-unfelt : goal.returns-clause-unfelt
returns-clause-unfelt g c = refused_unfelt _ _

pub returns-clause-same : goal.returns-clause-same
returns-clause-same g c = same_answers _
