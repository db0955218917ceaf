use Rattle.std.proofs.Common.{◌≡◌, ◌+◌, ◌++◌, take, drop}
use Rattle.row_laws.specs.Calls.{picked, positions}
use Rattle.enumerators.proofs.copy.copy_part.Given as goal

abbrev pub invariant-loop-i : goal.invariant-loop-i
invariant-loop-i g l = l.elements ≡ picked l.pool (take l.i (positions (λ k. (g.E.Enumerator.shown l.enumerator).starts (l.first + k)) l.places)) ++ drop l.i l.initial.elements
