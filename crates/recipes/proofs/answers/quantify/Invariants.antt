use Rattle.std.proofs.Common.{◌≡◌, length}
use Rattle.recipes.specs.Answers.{count_of}
use Rattle.recipes.proofs.answers.quantify.Given as goal

-- the number of all is the number so far and those ahead
abbrev pub invariant-loop-predicate : goal.invariant-loop-predicate
invariant-loop-predicate g l = count_of (g.P.Predicate.says l.predicate) l.count (g.S.Source.ahead l.source)
    ≡ count_of (g.P.Predicate.says l.predicate) 0 (g.S.Source.ahead l.initial.source)

abbrev pub decreases-loop-predicate : goal.decreases-loop-predicate
decreases-loop-predicate g l = length (g.S.Source.ahead l.source)
