-- The state of permutations: all places of a pool, and a counter for each place of the row.
use Rattle.std.specs.Prelude.{◌≡◌, ℕ, suc, ◌+◌, ◌<◌, ◌≤◌, Bool, true, false, cond, List, [], ◌∷◌, ◌++◌, take, drop, Some, None, Option, nat_lt, slice_index}
use Rattle.row_laws.specs.Lawful.{PermutationRow}
use Rattle.row_laws.specs.Lists.{among, differing, rising}
use Rattle.row_laws.specs.Successor.{Agree, Next, Last}

-- how many places a row has: an absent r is n
abbrev pub row_length : ℕ → Option ℕ → ℕ
row_length n None = n
row_length n (Some r) = r

-- how many of some numbers are above v
abbrev pub above : ℕ → List ℕ → ℕ
above v [] = 0
above v (x ∷ xs) = cond (nat_lt v x) 1 0 + above v xs

-- each number below n stands among the first n, which are all below n and all differ; they rise from place r on; and
-- each counter is one more than the number of later places that are above its own
pub record Cycling (n r : ℕ) (xs cs : List ℕ) : Type 0 where
  pub every : (v : ℕ) → v < n → among v (take n xs) ≡ true
  pub below : (k : ℕ) → k < n → slice_index xs k < n
  pub apart : differing (take n xs) ≡ true
  pub climbing : rising (drop r (take n xs)) ≡ true
  pub counters : (i : ℕ) → i < r → slice_index cs i ≡ above (slice_index xs i) (drop (suc i) (take n xs)) + 1

-- the number at i moved behind the others of the first n
abbrev pub rotated : ℕ → ℕ → List ℕ → List ℕ
rotated i n xs = take i xs ++ (drop (suc i) (take n xs) ++ (slice_index xs i ∷ drop n xs))

-- what a turn of the cycles makes: the next row, or none where all counters ran out
abbrev pub CyclesStepped : ℕ → ℕ → List ℕ → List ℕ → List ℕ → Bool → Type 0
CyclesStepped n r before xs cs true = Cycling n r xs cs × Next (PermutationRow n r) r before xs
CyclesStepped n r before xs cs false = Last (PermutationRow n r) r before

-- the numbers rise from place i to place n
abbrev pub Climbs : ℕ → ℕ → List ℕ → Type 0
Climbs i n xs = (j k : ℕ) → i ≤ j → j < k → k < n → slice_index xs j < slice_index xs k

-- a turn that went left to i: before i all is as it was, from i on the numbers rise, and those counters had run out
pub record Scanned (n r i : ℕ) (xs0 cs0 xs cs : List ℕ) : Type 0 where
  pub within : i ≤ r
  pub whole : Cycling n r xs cs
  pub behind : Climbs i n xs
  pub front : Agree i xs0 xs
  pub counts : Agree i cs0 cs
  pub out : (k : ℕ) → i ≤ k → k < r → slice_index cs0 k ≡ 1
