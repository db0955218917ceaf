use Rattle.std.proofs.Common.{◌≡◌, ℕ, ◌+◌, ◌-◌, ◌<◌, length, get_or}
use Rattle.combinations.proofs.climbing.raise.Given as goal

abbrev pub invariant-loop-behind : goal.invariant-loop-behind
invariant-loop-behind g l = record {
  long : length l.index-items ≡ l.fn.r - l.i;
  low : (k : ℕ) → k < l.behind → get_or l.index-items k 0 + g.K.Climb.above l.i ≡ l.raised + g.K.Climb.above (l.i + k);
}
