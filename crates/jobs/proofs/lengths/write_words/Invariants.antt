use Rattle.std.proofs.Common.{◌≡◌, ◌+◌, ◌*◌, length, take, drop}
use Rattle.jobs.specs.Job.{words}
use Rattle.jobs.proofs.lengths.write_words.Given as goal

-- the numbers that were written stand at the front, before those of the bytes that are left
abbrev pub invariant-loop-rest : goal.invariant-loop-rest
invariant-loop-rest l = record {
  left : words l.rest ≡ drop l.count (words l.bytes);
  counted : l.count + length (words l.rest) ≡ length (words l.bytes);
  sized : 2 * l.count + length l.rest ≡ length l.bytes;
  front : take l.count l.numbers ≡ take l.count (words l.bytes);
  behind : drop l.count l.numbers ≡ drop l.count l.initial.numbers;
}

abbrev pub decreases-loop-rest : goal.decreases-loop-rest
decreases-loop-rest l = length l.rest
