-- What is written and what is still to be written make the whole text.
use Rattle.std.proofs.Common.{◌≡◌, ◌++◌, true, drop, string_bytes}
use Rattle.replay.specs.Lines.{marked}
use Rattle.replay.proofs.show.TextShow.show.Given as goal

abbrev pub invariant-loop-byte : goal.invariant-loop-byte
invariant-loop-byte l =
    string_bytes l.out ++ marked l.begins (drop l.byte-index l.byte-items) ≡
    string_bytes l.initial.out ++ marked true l.byte-items
