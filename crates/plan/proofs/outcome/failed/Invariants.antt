use Rattle.std.proofs.Common.{◌≡◌, ◌≤◌, length, take, string_bytes, codes}
use denote.Text.{Utf8}
use denote.Shadow.{shadow}
use Rattle.plan.specs.Outcome.{mark}
use Rattle.std.specs.List.{fold}
use Rattle.plan.specs.Outcome.{and_reason}
use Rattle.plan.proofs.outcome.failed.Given as goal

-- the reasons so far, and how the next one is set off from them
abbrev pub invariant-loop-count : goal.invariant-loop-count
invariant-loop-count l = record {
  text : shadow (Utf8 l.mark);
  so_far : string_bytes l.line ≡ fold and_reason (codes "plan failed") (take l.count-index l.reasons);
  marked : l.mark ≡ mark (string_bytes l.line);
  long : 11 ≤ length (string_bytes l.line);
}
