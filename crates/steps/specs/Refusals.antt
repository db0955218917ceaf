-- The numbers of the refusals, and how they are told.
use Rattle.std.specs.Prelude.{ℕ, List, ◌++◌, codes, decimal}
use Rattle.steps.specs.declared.refusal.Refusal.{Refusal}
use Rattle.steps.specs.declared.refusal.Refusal.TheVariants.{PoolTooLong, RowTooLong, OtherPool, ShortBuffer, SliceArguments, StoreFull, TooManyGroups, NoBranch, OtherStore}

abbrev pub refusal_number : Refusal → ℕ
refusal_number PoolTooLong = 1
refusal_number RowTooLong = 2
refusal_number OtherPool = 3
refusal_number ShortBuffer = 4
refusal_number SliceArguments = 5
refusal_number StoreFull = 6
refusal_number TooManyGroups = 7
refusal_number NoBranch = 8
refusal_number OtherStore = 9

abbrev pub refusal_words : Refusal → List ℕ
refusal_words PoolTooLong = codes "a pool above 256 elements"
refusal_words RowTooLong = codes "more than 64 pools, or a row above 64 places"
refusal_words OtherPool = codes "a lent pool not as long as at the making"
refusal_words ShortBuffer = codes "a lent buffer shorter than a row, a listing or a text needs"
refusal_words SliceArguments = codes "islice: not one to three arguments, a step of 0, or a number above 2^63 - 1"
refusal_words StoreFull = codes "a tee's step needs a draw and its store is full"
refusal_words TooManyGroups = codes "a group call where 4,294,967,295 groups were given"
refusal_words NoBranch = codes "no such branch of a tee, or more than 16 branches"
refusal_words OtherStore = codes "a tee's store not as long as at the making"

-- the number and the rule
abbrev pub refusal_text : Refusal → List ℕ
refusal_text r = codes "refused (" ++ (decimal (refusal_number r) ++ (codes "): " ++ refusal_words r))
