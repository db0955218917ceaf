use Rattle.std.proofs.Common.{◌≡◌, ℕ, ◌%◌, ◌<◌, length, get_or}
use Rattle.products.proofs.pools.Pools.write_lengths.Given as goal

abbrev pub invariant-loop-i : goal.invariant-loop-i
invariant-loop-i l = record {
  long : length l.length-items ≡ l.self.width;
  before : (k : ℕ) → k < l.i → get_or l.length-items k 0 ≡ get_or l.self.lengths.now (k % length l.self.lengths.now) 0;
}
