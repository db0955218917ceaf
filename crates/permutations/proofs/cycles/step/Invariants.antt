use Rattle.row_laws.specs.Cycles.{Scanned}
use Rattle.permutations.proofs.cycles.step.Given as goal

abbrev pub invariant-loop-i : goal.invariant-loop-i
invariant-loop-i l = Scanned l.n l.r l.i l.initial.indices l.initial.cycles l.indices l.cycles

abbrev pub decreases-loop-i : goal.decreases-loop-i
decreases-loop-i l = l.i
