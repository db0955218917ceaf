-- What an enumerator shows, what a making refuses, and what one call of `next` answers, writes and leaves.
use Rattle.std.specs.Prelude.{◌≡◌, ℕ, ◌+◌, Bool, cond, ◌||◌, suc, ◌<◌, ◌≤◌, ◌*◌, List, [], ◌∷◌, ◌++◌, length, take, drop, Some, None, Ok, Err, Option, Result, ◌==◌, nat_lt, slice_index}
use Rattle.std.specs.List.{list_any, AllByRecursion}
use Rattle.steps.specs.declared.answer.Answer.{Answer}
use Rattle.steps.specs.declared.answer.Answer.TheVariants.{Item, End}
use Rattle.steps.specs.Refusals.{refusal_number}
use Rattle.steps.specs.declared.refusal.Refusal.{Refusal}
use Rattle.steps.specs.declared.refusal.Refusal.TheVariants.{PoolTooLong, RowTooLong, OtherPool, ShortBuffer}

-- ---- makings

-- the most elements of a pool, and the most pools and places of a row
pub record Limits : Type 0 where
  pub elements : ℕ
  pub places : ℕ

-- those of the controller
abbrev pub controller : Limits
controller = record { elements = 256; places = 64 }

-- the most elements of all pools together
abbrev pub most_together : Limits → ℕ
most_together limits = limits.elements * limits.places

-- whether one of some lengths is above a limit
abbrev pub some_above : ℕ → List ℕ → Bool
some_above limit lengths = list_any (λ n. nat_lt limit n) lengths

-- why a making is refused with pools of these lengths and rows of this many places, if it is: first the pools' lengths are
-- looked at, each of them, then their number and the row
abbrev pub refusal_of_making : Limits → List ℕ → ℕ → Option Refusal
refusal_of_making limits lengths width =
    cond (some_above limits.elements lengths) (Some PoolTooLong)
    (cond (nat_lt limits.places (length lengths) || nat_lt limits.places width) (Some RowTooLong) None)

-- the same by the refusals' numbers
abbrev pub refusal_number_of_making : Limits → List ℕ → ℕ → Option ℕ
refusal_number_of_making limits lengths width =
    cond (some_above limits.elements lengths) (Some 1)
    (cond (nat_lt limits.places (length lengths) || nat_lt limits.places width) (Some 2) None)

-- such a making was refused, by name and by number
pub record Unmade (limits : Limits) (lengths : List ℕ) (width : ℕ) (refusal : Refusal) : Type 0 where
  pub name : refusal_of_making limits lengths width ≡ Some refusal
  pub number : refusal_number_of_making limits lengths width ≡ Some (refusal_number refusal)

-- the answer of what looks for a reason to refuse
abbrev pub allowed : Option Refusal → Result (Unit {0}) Refusal
allowed None = Ok tt
allowed (Some refusal) = Err refusal

-- the number of the refusal that an answer is, if it is one
abbrev pub number_of_refusal : {X : Type 0} → Result X Refusal → Option ℕ
number_of_refusal (Ok x) = None
number_of_refusal (Err refusal) = Some (refusal_number refusal)

-- which makings are refused, in words: by 1 where one of the pools is too long, whatever else is wrong; else by 2 where there are
-- too many pools, or a row has too many places; no other making
pub record MakingLaw (limits : Limits) (lengths : List ℕ) (width : ℕ) (answer : Result (Unit {0}) Refusal) : Type 0 where
  pub long_pool : (k : ℕ) → k < length lengths → limits.elements < slice_index lengths k → number_of_refusal answer ≡ Some 1
  pub many_pools : ((k : ℕ) → k < length lengths → slice_index lengths k ≤ limits.elements)
      → limits.places < length lengths → number_of_refusal answer ≡ Some 2
  pub long_row : ((k : ℕ) → k < length lengths → slice_index lengths k ≤ limits.elements)
      → limits.places < width → number_of_refusal answer ≡ Some 2
  pub no_other : ((k : ℕ) → k < length lengths → slice_index lengths k ≤ limits.elements)
      → length lengths ≤ limits.places → width ≤ limits.places → answer ≡ Ok tt

-- ---- what an enumerator shows

-- the rows ahead in their order, how long the pool is that a call lends (for a product the list of all its pools), how many places
-- a row has, and where in that pool the elements of each place begin
pub record Shown : Type 0 where
  pub ahead : List (List ℕ)
  pub size : ℕ
  pub width : ℕ
  pub starts : ℕ → ℕ

-- the first of the rows ahead, and the others
abbrev pub first_row : List (List ℕ) → List ℕ
first_row [] = []
first_row (row ∷ rows) = row

abbrev pub other_rows : List (List ℕ) → List (List ℕ)
other_rows [] = []
other_rows (row ∷ rows) = rows

-- the same with so many of the rows left behind
abbrev pub leaving : ℕ → Shown → Shown
leaving count v = record { ahead = drop count v.ahead; size = v.size; width = v.width; starts = v.starts }

-- where the pool of each place starts, where there is one pool
abbrev pub at_front_of_pool : ℕ → ℕ
at_front_of_pool k = 0

-- where the elements of a row lie in the lent list: each place counts from the start of its pool
abbrev pub positions : (ℕ → ℕ) → List ℕ → List ℕ
positions starts [] = []
positions starts (place ∷ row) = (starts 0 + place) ∷ positions (λ k. starts (suc k)) row

-- it is within the limits, each row ahead has `width` places, each below the most elements of a pool, and its elements lie in the
-- lent pool
pub record Fitting (limits : Limits) (v : Shown) : Type 0 where
  pub short : v.width ≤ limits.places
  pub small : v.size ≤ most_together limits
  pub uniform : AllByRecursion (λ row. length row ≡ v.width) v.ahead
  pub low : AllByRecursion (λ row. AllByRecursion (λ p. p < limits.elements) row) v.ahead
  pub within : AllByRecursion (λ row. AllByRecursion (λ p. p < v.size) (positions v.starts row)) v.ahead

-- ---- one call of `next`

-- why a call is refused that is lent a pool and two buffers of these lengths, if it is: first the pool is looked at, then the buffers
abbrev pub refusal_of_call : ℕ → ℕ → ℕ → ℕ → ℕ → Option Refusal
refusal_of_call size width pool places elements =
    cond (pool == size) (cond (nat_lt places width || nat_lt elements width) (Some ShortBuffer) None) (Some OtherPool)

-- the same by the refusals' numbers
abbrev pub refusal_number_of_call : ℕ → ℕ → ℕ → ℕ → ℕ → Option ℕ
refusal_number_of_call size width pool places elements =
    cond (pool == size) (cond (nat_lt places width || nat_lt elements width) (Some 4) None) (Some 3)

-- a row is given, or it is the end
abbrev pub row_or_end : List (List ℕ) → Answer (Unit {0})
row_or_end [] = End
row_or_end (row ∷ rows) = Item tt

-- the answer of a call with this reason to refuse, if there is one, and these rows ahead
abbrev pub answer_of_call : Option Refusal → List (List ℕ) → Result (Answer (Unit {0})) Refusal
answer_of_call (Some refusal) rows = Err refusal
answer_of_call None rows = Ok (row_or_end rows)

-- what a call makes of a thing: `new` where it gives a row, `old` at the end and where it is refused
abbrev pub if_given : {X : Type 0} → Result (Answer (Unit {0})) Refusal → X → X → X
if_given (Ok (Item u)) new old = new
if_given (Ok End) new old = old
if_given (Err refusal) new old = old

-- a fact of the end and of a refusal
abbrev pub UnlessGiven : Result (Answer (Unit {0})) Refusal → Type 0 → Type 0
UnlessGiven (Ok (Item u)) P = Unit {0}
UnlessGiven (Ok End) P = P
UnlessGiven (Err refusal) P = P

-- a list at a buffer's front, and the rest of the buffer as it was
abbrev pub at_front : {X : Type 0} → List X → List X → List X
at_front xs buffer = xs ++ drop (length xs) buffer

-- the element at a position, as a list of one; none past the end
abbrev pub one_at : {T : Type 0} → List T → ℕ → List T
one_at pool p = take 1 (drop p pool)

-- the elements at some positions, in their order
abbrev pub picked : {T : Type 0} → List T → List ℕ → List T
picked pool [] = []
picked pool (p ∷ ps) = one_at pool p ++ picked pool ps

-- the elements of the row that is given next
abbrev pub next_elements : {T : Type 0} → Shown → List T → List T
next_elements v pool = picked pool (positions v.starts (first_row v.ahead))
