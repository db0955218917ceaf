use Rattle.std.proofs.Common.{take}
use Rattle.std.specs.Fmt.{HasWritten, IsPlainFormatter}
use Rattle.replay.specs.Lines.{each, spaced}
use Rattle.replay.proofs.show.SpacedDisplay.fmt.Given as goal

-- the numbers so far
abbrev pub invariant-loop-number : goal.invariant-loop-number
invariant-loop-number g l =
    IsPlainFormatter l.initial.f → HasWritten g.W.Write.write_str_gives l.initial.f (each (λ n. spaced (g.T.Number.value n)) (take l.number-index l.number-items)) l.f
