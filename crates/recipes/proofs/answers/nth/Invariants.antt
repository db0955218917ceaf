use Rattle.std.proofs.Common.{◌≡◌, length}
use Rattle.recipes.specs.Answers.{nth_of, nth_left}
use Rattle.recipes.proofs.answers.nth.Given as goal

-- the item that is asked for is as many items ahead as are left, and so is what is left behind it
abbrev pub invariant-loop-item : goal.invariant-loop-item
invariant-loop-item g l = (nth_of l.left (g.S.Source.ahead l.source) ≡ nth_of l.n (g.S.Source.ahead l.initial.source))
    × (nth_left l.left (g.S.Source.ahead l.source) ≡ nth_left l.n (g.S.Source.ahead l.initial.source))
    × (g.S.Source.loans l.source ≡ g.S.Source.loans l.initial.source)

abbrev pub decreases-loop-item : goal.decreases-loop-item
decreases-loop-item g l = length (g.S.Source.ahead l.source)
