-- The rows of the four kinds as lists: the tuples in lexicographic order, and what a filter keeps of them. The page
-- describes permutations and both kinds of combinations as products that are filtered.
use Rattle.std.specs.Prelude.{ℕ, zero, suc, Bool, true, false, not, ◌&&◌, ◌||◌, List, [], ◌∷◌, ◌++◌, map, replicate, filter, Some, None, Option, ◌==◌, nat_le, nat_lt}

-- `count` numbers from `first` on, each before each of the tails
unfoldable pub headed : ℕ → ℕ → List (List ℕ) → List (List ℕ)
headed first zero tails = []
headed first (suc count) tails = map (λ row. first ∷ row) tails ++ headed (suc first) count tails

-- every row whose place i is below the i-th length, in lexicographic order
unfoldable pub tuples : List ℕ → List (List ℕ)
tuples [] = [] ∷ []
tuples (n ∷ ns) = headed 0 n (tuples ns)

-- a list, q times over
abbrev pub repeated : ℕ → List ℕ → List ℕ
repeated zero lengths = []
repeated (suc q) lengths = lengths ++ repeated q lengths

abbrev pub rising : List ℕ → Bool
rising [] = true
rising (x ∷ []) = true
rising (x ∷ y ∷ ys) = nat_lt x y && rising (y ∷ ys)

abbrev pub unfalling : List ℕ → Bool
unfalling [] = true
unfalling (x ∷ []) = true
unfalling (x ∷ y ∷ ys) = nat_le x y && unfalling (y ∷ ys)

abbrev pub among : ℕ → List ℕ → Bool
among v [] = false
among v (x ∷ xs) = v == x || among v xs

abbrev pub differing : List ℕ → Bool
differing [] = true
differing (x ∷ xs) = not (among x xs) && differing xs

unfoldable pub product_rows : List ℕ → ℕ → List (List ℕ)
product_rows lengths q = tuples (repeated q lengths)

unfoldable pub combination_rows : ℕ → ℕ → List (List ℕ)
combination_rows n r = filter rising (tuples (replicate r n))

unfoldable pub replacement_rows : ℕ → ℕ → List (List ℕ)
replacement_rows n r = filter unfalling (tuples (replicate r n))

unfoldable pub permutation_rows : ℕ → ℕ → List (List ℕ)
permutation_rows n r = filter differing (tuples (replicate r n))

-- the lexicographic order, as a test
abbrev pub less : List ℕ → List ℕ → Bool
less [] [] = false
less [] (y ∷ ys) = true
less (x ∷ xs) [] = false
less (x ∷ xs) (y ∷ ys) = nat_lt x y || (x == y && less xs ys)

-- the rows that do not come before this one
unfoldable pub from : List ℕ → List (List ℕ) → List (List ℕ)
from row rows = filter (λ other. not (less other row)) rows

-- the rows ahead of an enumerator that stands at this row, and of one that stands at none
abbrev pub ahead_from : Option (List ℕ) → List (List ℕ) → List (List ℕ)
ahead_from None rows = []
ahead_from (Some row) rows = from row rows
