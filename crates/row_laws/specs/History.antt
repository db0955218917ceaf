-- Histories of next calls on one enumerator: each call with its own pool and buffers, right or wrong.
use Rattle.std.specs.Prelude.{◌≡◌, ◌≢◌, ℕ, ◌<◌, ◌≤◌, List, [], map, length, take, Some, None, Ok, Err, Option, Result, slice_index_or}
use Rattle.std.specs.List.{slice_get}
use Rattle.steps.specs.declared.answer.Answer.{Answer}
use Rattle.steps.specs.declared.answer.Answer.TheVariants.{Item, End}
use Rattle.steps.specs.declared.refusal.Refusal.{Refusal}
use Rattle.steps.specs.Refusals.{refusal_number}
use Rattle.steps.specs.Trace.{Trace, total}
use Rattle.row_laws.specs.Lawful.{AllInOrder}
use Rattle.row_laws.specs.Makings.{Making, wanted}
use Rattle.row_laws.specs.Calls.{Shown, leaving, next_elements, Limits, refusal_of_making, refusal_of_call, refusal_number_of_call, answer_of_call, if_given, UnlessGiven, first_row, at_front, positions, picked}

-- the memory of a call, before it and after it: the pool and the two buffers that it is lent, and the answer if there is one
pub record Memory (T : Type 0) : Type 0 where
  pub pool : List T
  pub places : List ℕ
  pub elements : List T
  pub answer : Option (Result (Answer (Unit {0})) Refusal)

-- why a call is refused, if it is
abbrev pub refusal_due : {T : Type 0} → Shown → Memory T → Option Refusal
refusal_due v m = refusal_of_call v.size v.width (length m.pool) (length m.places) (length m.elements)

abbrev pub refusal_number_due : {T : Type 0} → Shown → Memory T → Option ℕ
refusal_number_due v m = refusal_number_of_call v.size v.width (length m.pool) (length m.places) (length m.elements)

abbrev pub one_unless_refused : Option Refusal → ℕ
one_unless_refused (Some refusal) = 0
one_unless_refused None = 1

-- one for a call that is not refused
abbrev pub counts : {T : Type 0} → Shown → Memory T → ℕ
counts v m = one_unless_refused (refusal_due v m)

-- how many of the calls are not refused
abbrev pub counted : {T : Type 0} → Shown → List (Memory T) → ℕ
counted v ms = total (counts v) ms

-- which calls are refused, in words: a pool of another length by 3; else a buffer shorter than a row by 4; no other call
pub record RefusalLaw {T : Type 0} (v : Shown) (m : Memory T) : Type 0 where
  pub other_pool : length m.pool ≢ v.size → refusal_number_due v m ≡ Some 3
  pub short_places : length m.pool ≡ v.size → length m.places < v.width → refusal_number_due v m ≡ Some 4
  pub short_elements : length m.pool ≡ v.size → length m.elements < v.width → refusal_number_due v m ≡ Some 4
  pub no_other : length m.pool ≡ v.size → v.width ≤ length m.places → v.width ≤ length m.elements → refusal_due v m ≡ None

-- a call before which k calls were not refused, counted from 0, by what it found in its memory and what it left there:
-- it is refused with the number that its arguments call for and writes nothing; or it gives the row numbered k; or, where there
-- are fewer, it says end and writes nothing
pub record CallLaw {T : Type 0} (v : Shown) (k : ℕ) (before after : Memory T) : Type 0 where
  pub lent : after.pool ≡ before.pool
  pub refused : (refusal : Refusal) → refusal_due v before ≡ Some refusal
      → (after.answer ≡ Some (Err refusal)) × (after.places ≡ before.places) × (after.elements ≡ before.elements)
  pub numbered : (number : ℕ) → refusal_number_due v before ≡ Some number
      → (refusal : Refusal) × (after.answer ≡ Some (Err refusal)) × (refusal_number refusal ≡ number)
  pub due : RefusalLaw v before
  pub given : refusal_due v before ≡ None → k < length v.ahead
      → (after.answer ≡ Some (Ok (Item tt))) × (after.places ≡ at_front (slice_index_or v.ahead k []) before.places)
      × (after.elements ≡ at_front (picked before.pool (positions v.starts (slice_index_or v.ahead k []))) before.elements)
  pub ended : refusal_due v before ≡ None → length v.ahead ≤ k
      → (after.answer ≡ Some (Ok End)) × (after.places ≡ before.places) × (after.elements ≡ before.elements)

-- every call of a history is lawful, by how many calls before it were not refused
pub record HistoryLaw {T : Type 0} (v : Shown) (befores afters : List (Memory T)) : Type 0 where
  pub each_made : length afters ≡ length befores
  pub lawful : (j : ℕ) (before after : Memory T) → slice_get befores j ≡ Some before → slice_get afters j ≡ Some after
      → CallLaw v (counted v (take j befores)) before after

-- ---- since a making

-- a making that was accepted, and the history of calls since: its rows are those of the list `all` of all lawful rows in order, from
-- the one numbered `first` on
pub record Life {T : Type 0} (limits : Limits) (Lawful : List ℕ → Type 0) (m : Making) (befores afters : List (Memory T)) (number : ℕ) : Type 0 where
  pub makable : refusal_of_making limits m.lengths m.width ≡ None
  pub made : number ≡ length befores
  pub in_order : AllInOrder Lawful m.all
  pub history : HistoryLaw (wanted m) befores afters

-- ---- the same over states that are linked by the contract of `next`

-- the states before and after one call
pub record Transition {S T : Type 0} (shown : S → Shown) (s : S) (before after : Memory T) (t : S) : Type 0 where
  pub lent : after.pool ≡ before.pool
  pub answer : after.answer ≡ Some (answer_of_call (refusal_due (shown s) before) (shown s).ahead)
  pub places : after.places
      ≡ if_given (answer_of_call (refusal_due (shown s) before) (shown s).ahead)
      (at_front (first_row (shown s).ahead) before.places) before.places
  pub elements : after.elements
      ≡ if_given (answer_of_call (refusal_due (shown s) before) (shown s).ahead)
      (at_front (next_elements (shown s) before.pool) before.elements) before.elements
  pub shows : shown t ≡ if_given (answer_of_call (refusal_due (shown s) before) (shown s).ahead) (leaving 1 (shown s)) (shown s)
  pub rests : UnlessGiven (answer_of_call (refusal_due (shown s) before) (shown s).ahead) (t ≡ s)

-- what a history that leads from s to t answers, writes and leaves
pub record TraceLaw {S T : Type 0} (shown : S → Shown) (s : S) (befores afters : List (Memory T)) (t : S) : Type 0 where
  pub history : HistoryLaw (shown s) befores afters
  pub shows : shown t ≡ leaving (counted (shown s) befores) (shown s)
  pub rests : counted (shown s) befores ≡ 0 → t ≡ s

abbrev pub EveryHistory : {S : Type 0} → (S → Shown) → Type 0 → Type 0
EveryHistory {S} shown T =
    (s t : S) (befores afters : List (Memory T)) → Trace (Transition shown) s befores afters t → TraceLaw shown s befores afters t

-- ---- calls of any mixture of kinds of element

-- a call whatever its kind of element is: how much it was lent, its places and its answer
abbrev pub erased : {T : Type 0} → Memory T → Memory (Unit {0})
erased m = record { pool = map (λ x. tt) m.pool; places = m.places; elements = map (λ x. tt) m.elements; answer = m.answer }

-- a call of any kind is a transition of a history of erased calls; and whatever calls of whatever kinds went before, a call of this
-- kind is lawful
pub record EveryMixedHistory {S : Type 0} (shown : S → Shown) (T : Type 0) : Type 0 where
  pub erases : (s t : S) (before after : Memory T) → Transition shown s before after t
      → Transition shown s (erased before) (erased after) t
  pub lawful : (s u t : S) (befores afters : List (Memory (Unit {0}))) (before after : Memory T)
      → Trace (Transition shown) s befores afters u → Transition shown u before after t
      → CallLaw (shown s) (counted (shown s) befores) before after
  pub leaves : (s u : S) (befores afters : List (Memory (Unit {0}))) → Trace (Transition shown) s befores afters u
      → TraceLaw shown s befores afters u
