use Rattle.std.proofs.Common.{◌≡◌, ◌++◌, length, vec_items}
use Rattle.laws.specs.GroupBy.{keyed}
use Rattle.laws.specs.Items.{items, faults, Decided}
use Rattle.rules.specs.Combined.{turned}
use Rattle.recipes.specs.Answers.{kept_of}
use Rattle.recipes.proofs.lists.partition.Given as goal

-- the lists so far and those of what is still ahead make up both, and no fault was met, of the source or of the predicate
abbrev pub invariant-loop-accepted : goal.invariant-loop-accepted
invariant-loop-accepted g l =
    (faults (g.S.Source.ahead l.initial.source) ≡ faults (g.S.Source.ahead l.source))
    × (Decided (g.P.Predicate.says l.predicate) (items (g.S.Source.ahead l.source)) → Decided (g.P.Predicate.says l.predicate) (items (g.S.Source.ahead l.initial.source)))
    × (kept_of (λ a. turned (g.P.Predicate.says l.predicate a)) (items (g.S.Source.ahead l.initial.source))
    ≡ vec_items l.denied ++ kept_of (λ a. turned (g.P.Predicate.says l.predicate a)) (items (g.S.Source.ahead l.source)))
    × (kept_of (g.P.Predicate.says l.predicate) (items (g.S.Source.ahead l.initial.source))
    ≡ vec_items l.accepted ++ kept_of (g.P.Predicate.says l.predicate) (items (g.S.Source.ahead l.source)))
    × (faults (keyed (g.P.Predicate.says l.predicate) (g.S.Source.ahead l.initial.source)) ≡ faults (keyed (g.P.Predicate.says l.predicate) (g.S.Source.ahead l.source)))

abbrev pub decreases-loop-accepted : goal.decreases-loop-accepted
decreases-loop-accepted g l = length (g.S.Source.ahead l.source)
