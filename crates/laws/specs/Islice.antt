-- islice: the items at start, start + step and so on below stop, counted from 0.
use Rattle.std.specs.Prelude.{◌≡◌, ℕ, ◌+◌, ◌*◌, ◌^◌, ◌≤◌, Bool, true, false, cond, ◌&&◌, List, [], ◌∷◌, ◌++◌, map, length, Some, None, Option, nat_le, nat_lt, Ok, Err}
use Rattle.steps.specs.Steps.{Step}
use Rattle.std.specs.List.{slice_get}
use Rattle.steps.specs.declared.fault.Fault.{Fault}
use Rattle.laws.specs.Items.{given, items, past, first_fault}
use Rattle.laws.specs.Run.{Call, given_by}

-- the largest number that an argument may be, 2^63 - 1
abbrev pub maxsize : ℕ
maxsize = 9223372036854775807

pub record Bounds : Type 0 where
  pub start : ℕ
  pub stop : Option ℕ
  pub step : ℕ

abbrev pub small : Option ℕ → Bool
small None = true
small (Some n) = nat_le n maxsize

abbrev pub or_else : ℕ → Option ℕ → ℕ
or_else d None = d
or_else d (Some n) = n

-- absent entries are start 0, no stop, step 1; a step of 0 and a number above 2^63 - 1 are refused
abbrev pub checked : Option ℕ → Option ℕ → Option ℕ → Option Bounds
checked start stop step =
    cond (small start && (small stop && (small step && nat_lt 0 (or_else 1 step))))
    (Some (record { start = or_else 0 start; stop = stop; step = or_else 1 step }))
    None

-- the arguments: stop; start and stop; or start, stop and step; any other count is refused
abbrev pub bounds : List (Option ℕ) → Option Bounds
bounds [] = None
bounds (stop ∷ []) = checked None stop None
bounds (start ∷ (stop ∷ [])) = checked start stop None
bounds (start ∷ (stop ∷ (step ∷ []))) = checked start stop step
bounds (a ∷ (b ∷ (c ∷ (d ∷ more)))) = None

-- how many items are drawn by the end: the larger of start and stop
abbrev pub larger : ℕ → ℕ → ℕ
larger a b = cond (nat_lt a b) b a

abbrev pub until : ℕ → Option ℕ → Option ℕ
until start None = None
until start (Some stop) = Some (larger start stop)

-- the next number to give, where 64 bits hold it
abbrev pub raised : ℕ → ℕ → Option ℕ
raised n step = cond (nat_lt 0 step && nat_lt (n + step) (2 ^ 64)) (Some (n + step)) None

-- it has ended: as many items were drawn as there are to draw, or, without a stop, no next number is left
abbrev pub reached : Option ℕ → ℕ → Bool
reached None cur = false
reached (Some stop) cur = nat_le stop cur

abbrev pub over : Option ℕ → Option ℕ → ℕ → Bool
over stop None cur = true
over stop (Some n) cur = reached stop cur

abbrev pub number : Option ℕ → ℕ
number None = 0
number (Some n) = n

-- how many items were drawn once number n was given; where no next number is left, the count is of no use, and 0
abbrev pub counted : Option ℕ → ℕ → ℕ
counted None n = 0
counted (Some m) n = n + 1

-- what an islice has ahead, with cur items drawn and the number of the next item to give
abbrev pub slices : {A : Type 0} → Option ℕ → ℕ → Option ℕ → ℕ → List (Step A) → List (Step A)
slices stop step next cur [] = []
slices stop step next cur (Err f ∷ ss) = cond (over stop next cur) [] (Err f ∷ slices stop step next cur ss)
slices stop step next cur (Ok a ∷ ss) =
    cond (over stop next cur) []
    (cond (nat_lt cur (number next))
    (slices stop step next (cur + 1) ss)
    (Ok a ∷ slices stop step (raised (number next) step) (counted (raised (number next) step) (number next)) ss))

-- where a call leaves the source and the two counts
pub record SliceAfter (A : Type 0) : Type 0 where
  pub left : List (Step A)
  pub next : Option ℕ
  pub cur : ℕ

abbrev pub slice_after : {A : Type 0} → Option ℕ → ℕ → Option ℕ → ℕ → List (Step A) → SliceAfter A
slice_after stop step next cur [] = record { left = []; next = next; cur = cur }
slice_after stop step next cur (Err f ∷ ss) =
    cond (over stop next cur) (record { left = Err f ∷ ss; next = next; cur = cur }) (record { left = ss; next = next; cur = cur })
slice_after stop step next cur (Ok a ∷ ss) =
    cond (over stop next cur) (record { left = Ok a ∷ ss; next = next; cur = cur })
    (cond (nat_lt cur (number next))
    (slice_after stop step next (cur + 1) ss)
    (record { left = ss; next = raised (number next) step; cur = counted (raised (number next) step) (number next) }))

-- what the source has left once the islice has said end
abbrev pub slice_end : {A : Type 0} → Option ℕ → ℕ → Option ℕ → ℕ → List (Step A) → List (Step A)
slice_end stop step next cur [] = []
slice_end stop step next cur (Err f ∷ ss) = cond (over stop next cur) (Err f ∷ ss) (slice_end stop step next cur ss)
slice_end stop step next cur (Ok a ∷ ss) =
    cond (over stop next cur) (Ok a ∷ ss)
    (cond (nat_lt cur (number next))
    (slice_end stop step next (cur + 1) ss)
    (slice_end stop step (raised (number next) step) (counted (raised (number next) step) (number next)) ss))

-- the calls of a run, with what each leaves of the source
abbrev pub slice_run : {A : Type 0} → Option ℕ → ℕ → Option ℕ → ℕ → List (Step A) → List (Call A (List (Step A)))
slice_run stop step next cur [] = []
slice_run stop step next cur (Err f ∷ ss) = cond (over stop next cur) [] (record { step = Err f; left = ss } ∷ slice_run stop step next cur ss)
slice_run stop step next cur (Ok a ∷ ss) =
    cond (over stop next cur) []
    (cond (nat_lt cur (number next))
    (slice_run stop step next (cur + 1) ss)
    (record { step = Ok a; left = ss } ∷ slice_run stop step (raised (number next) step) (counted (raised (number next) step) (number next)) ss))

-- Over a source without faults: the k-th item given is the one at start + k * step, where that is below stop.
abbrev pub below_stop : Option ℕ → ℕ → Bool
below_stop None n = nat_lt n (2 ^ 64)
below_stop (Some stop) n = nat_lt n stop

abbrev pub EveryStep : {A : Type 0} → Bounds → List (Step A) → List (Step A) → Type 0
EveryStep {A} b ss gives = (xs : List A) → ss ≡ map Ok xs → (k : ℕ) →
    slice_get gives k ≡ cond (below_stop b.stop (b.start + k * b.step)) (given (slice_get xs (b.start + k * b.step))) None

-- By its end it has drawn the first max(start, stop) items, with the faults in front of them, or all
-- where there are fewer. Without a stop it has drawn all; a source of more than 2^64 - step items is out of reach of its numbers.
abbrev pub DrawnByEnd : {A : Type 0} → Bounds → List (Step A) → List (Step A) → Type 0
DrawnByEnd b ss left =
    ((stop : ℕ) → b.stop ≡ Some stop → left ≡ past (larger b.start stop) ss)
    × (b.stop ≡ None → length (items ss) + b.step ≤ 2 ^ 64 → left ≡ [])

-- When it gives item number n of its source, n + 1 items are drawn, with the faults in front of them, and no step more. The
-- items given before tell which number it is.
abbrev pub DrawnWhenGiven : {A : Type 0} → Bounds → List (Step A) → List (Call A (List (Step A))) → Type 0
DrawnWhenGiven {A} b ss run = (before after : List (Call A (List (Step A)))) (c : Call A (List (Step A))) (a : A) → run ≡ before ++ c ∷ after → c.step ≡ Ok a →
    c.left ≡ past (b.start + length (items (given_by before)) * b.step + 1) ss

-- An islice just made of these arguments, with what it holds and its laws.
pub record SliceMade {A : Type 0} (arguments : List (Option ℕ)) (ss : List (Step A)) (cur : ℕ) (next stop : Option ℕ) (step : ℕ) : Type 0 where
  pub read : Bounds
  pub from_arguments : bounds arguments ≡ Some read
  pub none_drawn : cur ≡ 0
  pub next_is : next ≡ Some read.start
  pub stop_is : stop ≡ until read.start read.stop
  pub step_is : step ≡ read.step
  pub law : EveryStep read ss (slices stop step next cur ss)
  pub when_given : DrawnWhenGiven read ss (slice_run stop step next cur ss)
  pub by_end : DrawnByEnd read ss (slice_end stop step next cur ss)

-- what an islice of these arguments gives
abbrev pub sliced : {A : Type 0} → Bounds → List (Step A) → List (Step A)
sliced b ss = slices (until b.start b.stop) b.step (Some b.start) 0 ss

-- A source consumed by these arguments: what it has left, and the first fault that was met.
pub record Consumed {A : Type 0} (arguments : List (Option ℕ)) (ss left : List (Step A)) (met : Option Fault) : Type 0 where
  pub read : Bounds
  pub from_arguments : bounds arguments ≡ Some read
  pub exactly : left ≡ slice_end (until read.start read.stop) read.step (Some read.start) 0 ss
  pub drawn : DrawnByEnd read ss left
  pub first_met : met ≡ first_fault (slices (until read.start read.stop) read.step (Some read.start) 0 ss)
