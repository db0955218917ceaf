-- groupby: runs of items with equal keys, each given as a group, and then the items of the group.
use Rattle.std.specs.Prelude.{◌≡◌, ◌≢◌, ℕ, suc, ◌+◌, ◌<◌, ◌≤◌, Bool, true, false, cond, List, [], ◌∷◌, map, length, take, drop, filter, Some, None, Ok, Err, Option, Result, ◌==◌, nat_lt}
use Rattle.std.specs.List.{slice_get}
use Rattle.steps.specs.Steps.{Step, first, rest}
use Rattle.steps.specs.Refusals.{refusal_number}
use Rattle.steps.specs.Trace.{Trace, gathered, kept}
use Rattle.steps.specs.declared.answer.Answer.{Answer}
use Rattle.steps.specs.declared.answer.Answer.TheVariants.{Item, End}
use Rattle.steps.specs.declared.call_error.CallError.{CallError}
use Rattle.steps.specs.declared.call_error.CallError.TheVariants.{Refused, Broken}
use Rattle.steps.specs.declared.fault.Fault.{Fault}
use Rattle.steps.specs.declared.refusal.Refusal.{Refusal}
use Rattle.steps.specs.declared.refusal.Refusal.TheVariants.{TooManyGroups}
use Rattle.laws.specs.Runs.{Run, members, HasKeys, OneDivision, place}

-- ---- one call, over the plain state and the steps ahead in the source

-- where a groupby stands: the item that waits, the key of the run, whether the item that waits begins the next group, the number of
-- the current group, and how many groups were given
pub record Standing (A Q : Type 0) : Type 0 where
  pub current_value : Option A
  pub current_key : Option Q
  pub next_group : Bool
  pub grouper : Option ℕ
  pub given : ℕ

-- before the first call
abbrev pub unbegun : {A Q : Type 0} → Standing A Q
unbegun = record { current_value = None; current_key = None; next_group = false; grouper = None; given = 0 }

-- the most groups that are given
abbrev pub most_groups : ℕ
most_groups = 4294967295

-- an item with its key; a key's fault takes the place of its item
abbrev pub with_key : {A Q : Type 0} → A → Result Q Fault → Step (A × Q)
with_key a (Ok q) = Ok (a, q)
with_key a (Err f) = Err f

abbrev pub keyed : {A Q : Type 0} → (A → Result Q Fault) → List (Step A) → List (Step (A × Q))
keyed key [] = []
keyed key (Ok a ∷ ss) = with_key a (key a) ∷ keyed key ss
keyed key (Err f ∷ ss) = Err f ∷ keyed key ss

-- the first item of the next run with its key, or what there is in its place, and what it leaves of the source
pub record Found (A Q : Type 0) : Type 0 where
  pub answer : Result (Answer (A × Q)) Fault
  pub left : List (Step A)

abbrev pub sought : {A Q : Type 0} → (Q → Q → Bool) → Q → A → List (Step A) → Found A Q → Result Q Fault → Found A Q
sought same old a ss later (Err f) = record { answer = Err f; left = ss }
sought same old a ss later (Ok q) = cond (same q old) later (record { answer = Ok (Item (a, q)); left = ss })

-- the items whose keys equal that of the old run are skipped
abbrev pub skipped : {A Q : Type 0} → (A → Result Q Fault) → (Q → Q → Bool) → Q → List (Step A) → Found A Q
skipped key same old [] = record { answer = Ok End; left = [] }
skipped key same old (Err f ∷ ss) = record { answer = Err f; left = ss }
skipped key same old (Ok a ∷ ss) = sought same old a ss (skipped key same old ss) (key a)

abbrev pub started : {A Q : Type 0} → (A → Result Q Fault) → List (Step A) → Found A Q
started key ss = record { answer = first (keyed key ss); left = rest ss }

abbrev pub next_run : {A Q : Type 0} → (A → Result Q Fault) → (Q → Q → Bool) → Option Q → List (Step A) → Found A Q
next_run key same None ss = started key ss
next_run key same (Some old) ss = skipped key same old ss

-- what a group call answers, where the groupby stands after it, and what the source has left
pub record Opening (A Q : Type 0) : Type 0 where
  pub answer : Result (Answer (Q × ℕ)) CallError
  pub standing : Standing A Q
  pub left : List (Step A)

-- the group with this key and number is current, and its first item waits
abbrev pub begun : {A Q : Type 0} → Option A → Q → ℕ → Standing A Q
begun value q n = record { current_value = value; current_key = Some q; next_group = false; grouper = Some n; given = n }

-- no group is current
abbrev pub stale : {A Q : Type 0} → Standing A Q → Standing A Q
stale s = record { current_value = s.current_value; current_key = s.current_key; next_group = s.next_group; grouper = None; given = s.given }

abbrev pub opens_at : {A Q : Type 0} → Standing A Q → Result (Answer (A × Q)) Fault → List (Step A) → Opening A Q
opens_at s (Ok (Item x)) left = record { answer = Ok (Item (x.1, s.given + 1)); standing = begun (Some x.0) x.1 (s.given + 1); left = left }
opens_at s (Ok End) left = record { answer = Ok End; standing = stale s; left = left }
opens_at s (Err f) left = record { answer = Err (Broken f); standing = stale s; left = left }

abbrev pub opens_run : {A Q : Type 0} → Standing A Q → Found A Q → Opening A Q
opens_run s found = opens_at s found.answer found.left

-- the next run begins with the item that waits, or is looked for
abbrev pub opens : {A Q : Type 0} → (A → Result Q Fault) → (Q → Q → Bool) → Standing A Q → Option Q → Bool → List (Step A) → Opening A Q
opens key same s None b left = opens_run s (next_run key same None left)
opens key same s (Some q) false left = opens_run s (next_run key same (Some q) left)
opens key same s (Some q) true left = record { answer = Ok (Item (q, s.given + 1)); standing = begun s.current_value q (s.given + 1); left = left }

abbrev pub group_call : {A Q : Type 0} → (A → Result Q Fault) → (Q → Q → Bool) → Standing A Q → List (Step A) → Opening A Q
group_call key same s left =
    cond (nat_lt s.given most_groups) (opens key same s s.current_key s.next_group left) (record { answer = Err (Refused TooManyGroups); standing = s; left = left })

-- the number of the refusal that a group call answers, if it is refused
abbrev pub number_earned : ℕ → Option ℕ
number_earned given = cond (nat_lt given most_groups) None (Some 7)

abbrev pub number_told : {B : Type 0} → Result B CallError → Option ℕ
number_told (Ok x) = None
number_told (Err (Refused n)) = Some (refusal_number n)
number_told (Err (Broken f)) = None

-- the fault that it answers, if it meets one
abbrev pub fault_told : {B : Type 0} → Result B CallError → Option Fault
fault_told (Ok x) = None
fault_told (Err (Refused n)) = None
fault_told (Err (Broken f)) = Some f

-- what an item call answers, where the groupby stands after it, and what the source has left
pub record Taking (A Q : Type 0) : Type 0 where
  pub answer : Result (Answer A) Fault
  pub standing : Standing A Q
  pub left : List (Step A)

-- the next run is met: its first item waits, and no number is current
abbrev pub met : {A Q : Type 0} → A → Q → ℕ → Standing A Q
met a q n = record { current_value = Some a; current_key = Some q; next_group = true; grouper = None; given = n }

-- the item that waited is given
abbrev pub taken : {A Q : Type 0} → Standing A Q → Standing A Q
taken s = record { current_value = None; current_key = s.current_key; next_group = s.next_group; grouper = s.grouper; given = s.given }

abbrev pub takes_keyed : {A Q : Type 0} → (Q → Q → Bool) → Standing A Q → Q → A → List (Step A) → Result Q Fault → Taking A Q
takes_keyed same s old a ss (Err f) = record { answer = Err f; standing = s; left = ss }
takes_keyed same s old a ss (Ok q) = cond (same q old) (record { answer = Ok (Item a); standing = s; left = ss }) (record { answer = Ok End; standing = met a q s.given; left = ss })

abbrev pub takes_next : {A Q : Type 0} → (A → Result Q Fault) → (Q → Q → Bool) → Standing A Q → Q → List (Step A) → Taking A Q
takes_next key same s old [] = record { answer = Ok End; standing = s; left = [] }
takes_next key same s old (Err f ∷ ss) = record { answer = Err f; standing = s; left = ss }
takes_next key same s old (Ok a ∷ ss) = takes_keyed same s old a ss (key a)

-- the item that waits is given first
abbrev pub takes : {A Q : Type 0} → (A → Result Q Fault) → (Q → Q → Bool) → Standing A Q → Option A → Option Q → List (Step A) → Taking A Q
takes key same s (Some a) q left = record { answer = Ok (Item a); standing = taken s; left = left }
takes key same s None None left = record { answer = Ok End; standing = s; left = left }
takes key same s None (Some q) left = takes_next key same s q left

-- whether a number is the current one
abbrev pub is_number : Option ℕ → ℕ → Bool
is_number None n = false
is_number (Some k) n = k == n

abbrev pub item_call : {A Q : Type 0} → (A → Result Q Fault) → (Q → Q → Bool) → Standing A Q → ℕ → List (Step A) → Taking A Q
item_call key same s n left =
    cond (is_number s.grouper n) (takes key same s s.current_value s.current_key left) (record { answer = Ok End; standing = s; left = left })

-- ---- the items of a group, as a source

abbrev pub goes_by : {A Q : Type 0} → (Q → Q → Bool) → Q → A → List (Step A) → Result Q Fault → List (Step A)
goes_by same old a later (Err f) = Err f ∷ later
goes_by same old a later (Ok q) = cond (same q old) (Ok a ∷ later) []

-- the steps until the next run is met
abbrev pub goes : {A Q : Type 0} → (A → Result Q Fault) → (Q → Q → Bool) → Q → List (Step A) → List (Step A)
goes key same old [] = []
goes key same old (Err f ∷ ss) = Err f ∷ goes key same old ss
goes key same old (Ok a ∷ ss) = goes_by same old a (goes key same old ss) (key a)

abbrev pub of_run : {A Q : Type 0} → (A → Result Q Fault) → (Q → Q → Bool) → Option A → Option Q → List (Step A) → List (Step A)
of_run key same None None left = []
of_run key same None (Some q) left = goes key same q left
of_run key same (Some a) None left = Ok a ∷ []
of_run key same (Some a) (Some q) left = Ok a ∷ goes key same q left

abbrev pub group_ahead : {A Q : Type 0} → (A → Result Q Fault) → (Q → Q → Bool) → Standing A Q → ℕ → List (Step A) → List (Step A)
group_ahead key same s n left = cond (is_number s.grouper n) (of_run key same s.current_value s.current_key left) []

-- ---- histories of calls

-- a group call, or an item call with a number
pub data Ask : Type 0 where
  GroupCall : Ask
  ItemCall : ℕ → Ask

-- what a call of either kind answered
pub data Told (A Q : Type 0) : Type 0 where
  Opened : Result (Answer (Q × ℕ)) CallError → Told A Q
  Given : Result (Answer A) Fault → Told A Q

-- the memory of a call, before it and after it: what it asks, and what it answered if it was made
pub record Memory (A Q : Type 0) : Type 0 where
  pub ask : Ask
  pub told : Option (Told A Q)

-- what a history has come to: the group calls that were not refused, the groups that were given, the number that the latest of these
-- calls gave, and the items that were given since
pub record Progress : Type 0 where
  pub asked : ℕ
  pub given : ℕ
  pub latest : Option ℕ
  pub since : ℕ

abbrev pub nothing_yet : Progress
nothing_yet = record { asked = 0; given = 0; latest = None; since = 0 }

-- a group call that gave no number
abbrev pub no_number : Progress → Progress
no_number p = record { asked = p.asked + 1; given = p.given; latest = None; since = 0 }

abbrev pub after_group : {Q : Type 0} → Progress → Result (Answer (Q × ℕ)) CallError → Progress
after_group p (Ok (Item x)) = record { asked = p.asked + 1; given = p.given + 1; latest = Some x.1; since = 0 }
after_group p (Ok End) = no_number p
after_group p (Err (Refused n)) = p
after_group p (Err (Broken f)) = no_number p

abbrev pub after_item : {A : Type 0} → Progress → Result (Answer A) Fault → Progress
after_item p (Ok (Item a)) = record { asked = p.asked; given = p.given; latest = p.latest; since = p.since + 1 }
after_item p (Ok End) = p
after_item p (Err f) = p

abbrev pub after_told : {A Q : Type 0} → Progress → Option (Told A Q) → Progress
after_told p None = p
after_told p (Some (Opened r)) = after_group p r
after_told p (Some (Given r)) = after_item p r

abbrev pub progress : {A Q : Type 0} → List (Memory A Q) → List (Memory A Q) → Progress
progress {A} {Q} befores afters = gathered (λ (p : Progress) (before after : Memory A Q). after_told p after.told) nothing_yet befores afters

-- ---- the law of one call

-- A group call over the items xs and their runs, from what the history before it came to. `left` is what the source has left after
-- the call, and `Rests` says that the call changed nothing.
pub record GroupLaw {A Q : Type 0} (xs : List A) (rs : List (Run A Q)) (p : Progress) (answer : Result (Answer (Q × ℕ)) CallError) (left : List (Step A)) (Rests : Type 0) : Type 0 where
  pub many : 4294967295 ≤ p.given → (refusal : Refusal) × (answer ≡ Err (Refused refusal)) × (refusal_number refusal ≡ 7) × Rests
  pub run : p.given < 4294967295 → (r : Run A Q) → slice_get rs p.asked ≡ Some r
      → (answer ≡ Ok (Item (r.key, p.asked + 1))) × (left ≡ map Ok (drop (place p.asked rs + 1) xs))
  pub over : p.given < 4294967295 → length rs ≤ p.asked → (answer ≡ Ok End) × (left ≡ [])

-- the next item of the run of place i, if it has one; else its end was met, and the first item of the next run if there is one
abbrev pub GivesNext : {A Q : Type 0} → List A → List (Run A Q) → ℕ → ℕ → Option A → Result (Answer A) Fault → List (Step A) → Type 0
GivesNext xs rs i since (Some a) answer left = (answer ≡ Ok (Item a)) × (left ≡ map Ok (drop (place i rs + since + 1) xs))
GivesNext xs rs i since None answer left = (answer ≡ Ok End) × (left ≡ map Ok (drop (place (suc i) rs + 1) xs))

-- an item call with the latest number, which is that of the run of place i
pub record CurrentLaw {A Q : Type 0} (xs : List A) (rs : List (Run A Q)) (p : Progress) (n : ℕ) (answer : Result (Answer A) Fault) (left : List (Step A)) : Type 0 where
  pub i : ℕ
  pub numbered : n ≡ i + 1
  pub run : Run A Q
  pub is : slice_get rs i ≡ Some run
  pub gives : GivesNext xs rs i p.since (slice_get (members run) p.since) answer left

pub record ItemLaw {A Q : Type 0} (xs : List A) (rs : List (Run A Q)) (p : Progress) (n : ℕ) (answer : Result (Answer A) Fault) (left : List (Step A)) (Rests : Type 0) : Type 0 where
  pub current : p.latest ≡ Some n → CurrentLaw xs rs p n answer left
  pub other : p.latest ≢ Some n → (answer ≡ Ok End) × Rests

abbrev pub AskLaw : {A Q : Type 0} → List A → List (Run A Q) → Progress → Ask → Option (Told A Q) → List (Step A) → Type 0 → Type 0
AskLaw {A} {Q} xs rs p GroupCall told left Rests = (answer : Result (Answer (Q × ℕ)) CallError) × (told ≡ Some (Opened answer)) × GroupLaw xs rs p answer left Rests
AskLaw {A} xs rs p (ItemCall n) told left Rests = (answer : Result (Answer A) Fault) × (told ≡ Some (Given answer)) × ItemLaw xs rs p n answer left Rests

-- What the items of a group have ahead as a source, after a history: those items of the run with the latest number that were not
-- given yet, and nothing with any other number.
pub record RestOfRun {A Q : Type 0} (rs : List (Run A Q)) (p : Progress) (n : ℕ) (ahead : List (Step A)) : Type 0 where
  pub i : ℕ
  pub numbered : n ≡ i + 1
  pub run : Run A Q
  pub is : slice_get rs i ≡ Some run
  pub rest : ahead ≡ map Ok (drop p.since (members run))

pub record ItemsLaw {A Q : Type 0} (rs : List (Run A Q)) (p : Progress) (n : ℕ) (ahead : List (Step A)) : Type 0 where
  pub current : p.latest ≡ Some n → RestOfRun rs p n ahead
  pub other : p.latest ≢ Some n → ahead ≡ []

-- ---- states that are linked by the contracts of the calls

-- what a groupby means: its key kind, where it stands, and the steps ahead in its source
pub record Grouping (A Q : Type 0) : Type 0 where
  pub key : A → Result Q Fault
  pub standing : Standing A Q
  pub ahead : List (Step A)

-- what the items of a group have ahead
abbrev pub items_of : {A Q : Type 0} → (Q → Q → Bool) → Grouping A Q → ℕ → List (Step A)
items_of same g n = group_ahead g.key same g.standing n g.ahead

pub record Called (A Q : Type 0) : Type 0 where
  pub told : Told A Q
  pub left : Grouping A Q

abbrev pub opened : {A Q : Type 0} → (A → Result Q Fault) → Opening A Q → Called A Q
opened key o = record { told = Opened o.answer; left = record { key = key; standing = o.standing; ahead = o.left } }

abbrev pub gave : {A Q : Type 0} → (A → Result Q Fault) → Taking A Q → Called A Q
gave key t = record { told = Given t.answer; left = record { key = key; standing = t.standing; ahead = t.left } }

abbrev pub called : {A Q : Type 0} → (Q → Q → Bool) → Ask → Grouping A Q → Called A Q
called same GroupCall g = opened g.key (group_call g.key same g.standing g.ahead)
called same (ItemCall n) g = gave g.key (item_call g.key same g.standing n g.ahead)

-- a call that is refused, or has a number that is not current
abbrev pub Idle : {A Q : Type 0} → Ask → Standing A Q → Type 0
Idle GroupCall s = most_groups ≤ s.given
Idle (ItemCall n) s = is_number s.grouper n ≡ false

-- the states before and after one call
pub record Transition {X A Q : Type 0} (same : Q → Q → Bool) (shown : X → Grouping A Q) (s : X) (before after : Memory A Q) (t : X) : Type 0 where
  pub asked : after.ask ≡ before.ask
  pub told : after.told ≡ Some (called same before.ask (shown s)).told
  pub shows : shown t ≡ (called same before.ask (shown s)).left
  pub rests : Idle before.ask (shown s).standing → t ≡ s

-- a call in its place in a history that leads from s to t: the states that it found and left, and the law of it
pub record Moment {X A Q : Type 0} (same : Q → Q → Bool) (shown : X → Grouping A Q) (xs : List A) (rs : List (Run A Q)) (s : X) (befores afters : List (Memory A Q)) (j : ℕ) (before after : Memory A Q) (t : X) : Type 0 where
  pub found : X
  pub left : X
  pub earlier : Trace (Transition same shown) s (take j befores) (take j afters) found
  pub call : Transition same shown found before after left
  pub later : Trace (Transition same shown) left (drop (suc j) befores) (drop (suc j) afters) t
  pub law : AskLaw xs rs (progress (take j befores) (take j afters)) before.ask after.told (shown left).ahead (left ≡ found)

-- every call of a history is lawful by the runs of the items and by what the calls before it came to; and so is what the items of
-- every group have ahead when all of them were made
pub record HistoryLaw {X A Q : Type 0} (same : Q → Q → Bool) (shown : X → Grouping A Q) (xs : List A) (s : X) (befores afters : List (Memory A Q)) (t : X) : Type 0 where
  pub division : OneDivision (shown s).key same xs
  pub lawful : (j : ℕ) (before after : Memory A Q) → slice_get befores j ≡ Some before → slice_get afters j ≡ Some after
      → Moment same shown xs division.runs s befores afters j before after t
  pub items : (n : ℕ) → ItemsLaw division.runs (progress befores afters) n (items_of same (shown t) n)

abbrev pub not_refused : {A Q : Type 0} → Option (Told A Q) → Bool
not_refused None = true
not_refused (Some (Opened (Ok x))) = true
not_refused (Some (Opened (Err (Refused n)))) = false
not_refused (Some (Opened (Err (Broken f)))) = true
not_refused (Some (Given r)) = true

abbrev pub was_answered : {A Q : Type 0} → Memory A Q → Bool
was_answered m = not_refused m.told

-- what holds of a history that leads from s to t: every call was made; without the refused ones the others lead from the same state
-- to the same, with the same answers; and it is lawful where s is new, the source has items ahead alone, and there is a key for each
pub record Led {X A Q : Type 0} (same : Q → Q → Bool) (shown : X → Grouping A Q) (s : X) (befores afters : List (Memory A Q)) (t : X) : Type 0 where
  pub each_made : length afters ≡ length befores
  pub unfelt : Trace (Transition same shown) s (kept was_answered befores afters) (filter was_answered afters) t
  pub law : (shown s).standing ≡ unbegun → (xs : List A) → (shown s).ahead ≡ map Ok xs → HasKeys (shown s).key xs → HistoryLaw same shown xs s befores afters t

abbrev pub EveryHistory : {X A Q : Type 0} → (Q → Q → Bool) → (X → Grouping A Q) → Type 0
EveryHistory {X} {A} {Q} same shown =
    (s t : X) (befores afters : List (Memory A Q)) → Trace (Transition same shown) s befores afters t → Led same shown s befores afters t

-- a making over a source with these steps ahead, and the history of calls since
pub record Life {X A Q : Type 0} (same : Q → Q → Bool) (shown : X → Grouping A Q) (key : A → Result Q Fault) (ahead : List (Step A)) (befores afters : List (Memory A Q)) (t : X) : Type 0 where
  pub made : X
  pub new : shown made ≡ record { key = key; standing = unbegun; ahead = ahead }
  pub led : Trace (Transition same shown) made befores afters t
  pub each_made : length afters ≡ length befores
  pub unfelt : Trace (Transition same shown) made (kept was_answered befores afters) (filter was_answered afters) t
  pub law : (xs : List A) → ahead ≡ map Ok xs → HasKeys key xs → HistoryLaw same shown xs made befores afters t
