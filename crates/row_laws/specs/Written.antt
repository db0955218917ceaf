-- What a call writes to its buffers, place by place.
use Rattle.std.specs.Prelude.{◌≡◌, ℕ, ◌+◌, ◌<◌, ◌≤◌, List, ◌∷◌, length, Option, slice_index}
use Rattle.std.specs.List.{slice_get}
use Rattle.row_laws.specs.Calls.{Shown, at_front, positions, picked}

-- the first `width` of a buffer are those wanted there, and the others as they were
pub record Written {X : Type 0} (width : ℕ) (wanted : ℕ → Option X) (before after : List X) : Type 0 where
  pub front : (k : ℕ) → k < width → slice_get after k ≡ wanted k
  pub behind : (k : ℕ) → width ≤ k → slice_get after k ≡ slice_get before k

-- of a row that is given: each of its places stands in the one buffer; in the other the element that lies there in the lent
-- pool, counted from where the pool of the place starts, and it does lie in the lent pool
abbrev pub PlaceByPlace : {S : Type 0} → (S → Shown) → Type 0 → Type 0
PlaceByPlace {S} shown T =
    (s : S) (row : List ℕ) (rows : List (List ℕ)) (pool elements : List T) (places : List ℕ) → (shown s).ahead ≡ row ∷ rows → length pool ≡ (shown s).size
    → Written (shown s).width (slice_get row) places (at_front row places)
    × Written (shown s).width (λ k. slice_get pool ((shown s).starts k + slice_index row k)) elements (at_front (picked pool (positions (shown s).starts row)) elements)
    × ((k : ℕ) → k < (shown s).width → (shown s).starts k + slice_index row k < length pool)
