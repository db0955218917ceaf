use Rattle.std.proofs.Common.{◌≡◌, ℕ, ◌<◌, length, get_or}
use Rattle.row_laws.specs.Carries.{pool_start}
use Rattle.products.proofs.pools.Pools.write_starts.Given as goal

abbrev pub invariant-loop-i : goal.invariant-loop-i
invariant-loop-i l = record {
  long : length l.start-items ≡ l.self.width;
  before : (k : ℕ) → k < l.i → get_or l.start-items k 0 ≡ pool_start l.self.lengths.now k;
}
