use Rattle.std.proofs.Common.{◌≡◌, ◌*◌, ◌++◌, take, drop}
use Rattle.row_laws.specs.Calls.{picked, positions}
use Rattle.enumerators.proofs.copy.copy.Given as goal

abbrev pub invariant-loop-block : goal.invariant-loop-block
invariant-loop-block g l =
    l.elements ≡ picked l.pool (take (l.block * 16) (positions (g.E.Enumerator.shown l.enumerator).starts l.row)) ++ drop (l.block * 16) l.initial.elements
