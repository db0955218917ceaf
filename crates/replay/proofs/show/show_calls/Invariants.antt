-- What is written and what is still to be written make the whole text.
use Rattle.std.proofs.Common.{◌≡◌, ◌++◌, drop, string_bytes}
use Rattle.replay.specs.Lines.{each}
use Rattle.replay.proofs.show.show_calls.Given as goal

abbrev pub invariant-loop-call : goal.invariant-loop-call
invariant-loop-call g l =
    string_bytes l.out ++ each g.C.Show.line (drop l.call-index l.calls) ≡
    string_bytes l.initial.out ++ each g.C.Show.line l.calls
