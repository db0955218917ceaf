use Rattle.std.proofs.Common.{◌≡◌, ℕ, ◌-◌, ◌<◌, length, get_or}
use Rattle.permutations.proofs.cycles.begin.Given as goal

abbrev pub invariant-loop-i : goal.invariant-loop-i
invariant-loop-i l = (length l.indices ≡ length l.initial.indices) × ((k : ℕ) → k < l.i → get_or l.indices k 0 ≡ k)

abbrev pub invariant-loop-i-2 : goal.invariant-loop-i-2
invariant-loop-i-2 l = (length l.indices ≡ length l.initial.indices) × ((k : ℕ) → k < length l.initial.indices → get_or l.indices k 0 ≡ k) × (length l.cycles ≡ length l.initial.cycles) × ((k : ℕ) → k < l.i → get_or l.cycles k 0 ≡ l.n - k)
