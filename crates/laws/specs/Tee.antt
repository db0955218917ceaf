-- tee: several branches over one source, each at its own pace. Every item that is drawn is stored,
-- and a branch behind the stored count gets the stored item.
use Rattle.std.specs.Prelude.{◌≡◌, ℕ, zero, suc, ◌+◌, ◌<◌, ◌≤◌, ◌≢◌, min, max, Bool, true, false, cond, ◌&&◌, ◌||◌, ◌==◌, nat_lt, List, [], ◌∷◌, ◌++◌, map, length, take, drop, replicate, filter, Some, None, Ok, Err, Option, Result, slice_index, slice_set}
use Rattle.std.specs.List.{slice_get}
use Rattle.steps.specs.declared.answer.Answer.{Answer}
use Rattle.steps.specs.declared.answer.Answer.TheVariants.{Item, End}
use Rattle.steps.specs.declared.fault.Fault.{Fault}
use Rattle.steps.specs.declared.refusal.Refusal.{Refusal}
use Rattle.steps.specs.declared.refusal.Refusal.TheVariants.{StoreFull, NoBranch, OtherStore}
use Rattle.steps.specs.declared.call_error.CallError.{CallError}
use Rattle.steps.specs.declared.call_error.CallError.TheVariants.{Refused, Broken}
use Rattle.steps.specs.Refusals.{refusal_number}
use Rattle.steps.specs.Steps.{Step as AStep, item}
use Rattle.steps.specs.Trace.{Trace, gathered, kept}

-- ---- the plain state of a tee

pub record Marks : Type 0 where
  -- how many items each branch has passed
  pub positions : List ℕ
  pub branches : ℕ
  -- how many items are stored, all of them that were drawn
  pub stored : ℕ
  -- how long each lent store has to be
  pub places : ℕ

-- at most 16 branches, none past the stored items, which fit the store
abbrev pub Sound : List ℕ → ℕ → ℕ → ℕ → Type 0
Sound positions branches stored places =
    (branches ≤ 16) × (stored ≤ places) × ((b : ℕ) → b < branches → slice_index positions b ≤ stored)

-- how many branches a making asks for
abbrev pub asked_for : Option ℕ → ℕ
asked_for None = 2
asked_for (Some k) = k

-- a tee of k branches, just made, for stores of c places
abbrev pub fresh : ℕ → ℕ → Marks
fresh k c = record { positions = replicate 16 0; branches = k; stored = 0; places = c }

-- ---- a step

-- what a step answers and leaves
pub record After (A : Type 0) : Type 0 where
  pub answer : Result (Answer A) CallError
  pub marks : Marks
  pub ahead : List (AStep A)
  pub store : List A

abbrev pub denied : {A : Type 0} → Refusal → Marks → List (AStep A) → List A → After A
denied n m ss st = record { answer = Err (Refused n); marks = m; ahead = ss; store = st }

-- the branch one item further, with so many stored
abbrev pub moved : Marks → ℕ → ℕ → Marks
moved m b s = record {
  positions = slice_set m.positions b (slice_index m.positions b + 1);
  branches = m.branches;
  stored = s;
  places = m.places;
}

-- the item that was read
abbrev pub held : {A : Type 0} → Option A → Result (Answer A) CallError
held None = Ok End
held (Some a) = Ok (Item a)

-- a stored item again
abbrev pub again : {A : Type 0} → Marks → ℕ → List (AStep A) → List A → After A
again m b ss st = record {
  answer = held (slice_get st (slice_index m.positions b));
  marks = moved m b m.stored;
  ahead = ss;
  store = st;
}

-- what is first ahead, stored at the next place if it is an item
abbrev pub drawn : {A : Type 0} → Marks → ℕ → List (AStep A) → List A → After A
drawn m b [] st = record { answer = Ok End; marks = m; ahead = []; store = st }
drawn m b (Err f ∷ ss) st = record { answer = Err (Broken f); marks = m; ahead = ss; store = st }
drawn m b (Ok a ∷ ss) st = record {
  answer = Ok (Item a);
  marks = moved m b (m.stored + 1);
  ahead = ss;
  store = slice_set st m.stored a;
}

-- the store is looked at before the branch, and the branch before what room is left
abbrev pub stepped : {A : Type 0} → Marks → ℕ → List (AStep A) → List A → After A
stepped m b ss st =
    cond (length st == m.places)
    (cond (nat_lt b m.branches)
    (cond (nat_lt (slice_index m.positions b) m.stored)
    (again m b ss st)
    (cond (nat_lt m.stored m.places) (drawn m b ss st) (denied StoreFull m ss st)))
    (denied NoBranch m ss st))
    (denied OtherStore m ss st)

-- the number of the refusal that a step earns which is lent so many places
abbrev pub step_number : Marks → ℕ → ℕ → Option ℕ
step_number m b lent =
    cond (lent == m.places)
    (cond (nat_lt b m.branches)
    (cond (nat_lt (slice_index m.positions b) m.stored || nat_lt m.stored m.places) None (Some 6))
    (Some 8))
    (Some 9)

-- the number that a step told
abbrev pub number_told : {X : Type 0} → Result X CallError → Option ℕ
number_told (Ok x) = None
number_told (Err (Refused n)) = Some (refusal_number n)
number_told (Err (Broken f)) = None

-- the fault that came up with a step
abbrev pub fault_told : {X : Type 0} → Result X CallError → Option Fault
fault_told (Ok x) = None
fault_told (Err (Refused n)) = None
fault_told (Err (Broken f)) = Some f

-- a fact of a step that was refused
abbrev pub IfDenied : {X : Type 0} → Result X CallError → Type 0 → Type 0
IfDenied (Ok x) P = Unit {0}
IfDenied (Err (Refused n)) P = P
IfDenied (Err (Broken f)) P = Unit {0}

-- ---- a copy

-- whether there is such a branch, and room for one more
abbrev pub may_copy : ℕ → ℕ → Bool
may_copy branches b = nat_lt b branches && nat_lt branches 16

abbrev pub copy_answer : Marks → ℕ → Result ℕ Refusal
copy_answer m b = cond (may_copy m.branches b) (Ok m.branches) (Err NoBranch)

abbrev pub copy_number : Marks → ℕ → Option ℕ
copy_number m b = cond (may_copy m.branches b) None (Some 8)

abbrev pub copied : Marks → ℕ → Marks
copied m b = record {
  positions = slice_set m.positions m.branches (slice_index m.positions b);
  branches = m.branches + 1;
  stored = m.stored;
  places = m.places;
}

abbrev pub copy_marks : Marks → ℕ → Marks
copy_marks m b = cond (may_copy m.branches b) (copied m b) m

-- the number that a copy told
abbrev pub copy_number_told : {X : Type 0} → Result X Refusal → Option ℕ
copy_number_told (Ok x) = None
copy_number_told (Err n) = Some (refusal_number n)

-- a fact of a copy that was refused
abbrev pub IfErr : {X : Type 0} → Result X Refusal → Type 0 → Type 0
IfErr (Ok x) P = Unit {0}
IfErr (Err n) P = P

-- ---- calls

-- a step of a branch, lent the tee's own store as the calls before left it; a step of a branch,
-- lent another store; a copy of a branch
pub data Ask : Type 0 where
  Step : ℕ → Ask
  StepElsewhere : ℕ → Ask
  Copy : ℕ → Ask

pub data Told (A : Type 0) : Type 0 where
  Stepped : Result (Answer A) CallError → Told A
  Copied : Result ℕ Refusal → Told A

-- the memory of a call, before it and after it: what it asks, the other store that it may lend, and
-- what it told, if it was made
pub record Memory (A : Type 0) : Type 0 where
  pub ask : Ask
  pub other : List A
  pub told : Option (Told A)

abbrev pub branch_of : Ask → ℕ
branch_of (Step b) = b
branch_of (StepElsewhere b) = b
branch_of (Copy b) = b

-- ---- what is counted of a history

pub record Counts : Type 0 where
  pub branches : ℕ
  -- the steps of each branch that count
  pub steps : ℕ → ℕ
  -- the items that each has passed
  pub passed : ℕ → ℕ

-- of a tee of k branches, just made
abbrev pub none_counted : ℕ → Counts
none_counted k = record { branches = k; steps = λ b. 0; passed = λ b. 0 }

-- a step counts, unless it was refused by 8 or 9
abbrev pub step_counts : {A : Type 0} → Result (Answer A) CallError → ℕ
step_counts (Ok x) = 1
step_counts (Err (Refused n)) = cond (refusal_number n == 8 || refusal_number n == 9) 0 1
step_counts (Err (Broken f)) = 1

-- an item is passed where it is answered
abbrev pub item_counts : {A : Type 0} → Result (Answer A) CallError → ℕ
item_counts (Ok (Item a)) = 1
item_counts (Ok End) = 0
item_counts (Err e) = 0

abbrev pub more_at : ℕ → ℕ → (ℕ → ℕ) → ℕ → ℕ
more_at b n f other = cond (other == b) (f other + n) (f other)

abbrev pub now_at : ℕ → ℕ → (ℕ → ℕ) → ℕ → ℕ
now_at b n f other = cond (other == b) n (f other)

abbrev pub copy_counted : Counts → ℕ → Result ℕ Refusal → Counts
copy_counted x b (Ok n) = record {
  branches = x.branches + 1;
  steps = now_at n (x.steps b) x.steps;
  passed = now_at n (x.passed b) x.passed;
}
copy_counted x b (Err e) = x

-- a step adds to its branch; a copy is a branch more, and begins with what its original has
abbrev pub told_counted : {A : Type 0} → Counts → ℕ → Option (Told A) → Counts
told_counted x b None = x
told_counted x b (Some (Stepped r)) = record {
  branches = x.branches;
  steps = more_at b (step_counts r) x.steps;
  passed = more_at b (item_counts r) x.passed;
}
told_counted x b (Some (Copied r)) = copy_counted x b r

abbrev pub call_counted : {A : Type 0} → Counts → Memory A → Memory A → Counts
call_counted x before after = told_counted x (branch_of before.ask) after.told

-- what a history counts since the making of a tee of k branches
abbrev pub counted : {A : Type 0} → ℕ → List (Memory A) → List (Memory A) → Counts
counted k befores afters = gathered call_counted (none_counted k) befores afters

-- the most that one of the first n branches has passed, 0 without a branch
abbrev pub most : ℕ → (ℕ → ℕ) → ℕ
most zero f = 0
most (suc n) f = max (most n f) (f n)

abbrev pub furthest : Counts → ℕ
furthest x = most x.branches x.passed

-- ---- the law of one call

abbrev pub StepRefused : {A : Type 0} → ℕ → Option (Told A) → Type 0
StepRefused number t =
    (n : Refusal) × (t ≡ Some (Stepped (Err (Refused n)))) × (refusal_number n ≡ number)

abbrev pub CopyRefused : {A : Type 0} → ℕ → Option (Told A) → Type 0
CopyRefused number t = (n : Refusal) × (t ≡ Some (Copied (Err n))) × (refusal_number n ≡ number)

-- a step of the branch b that is lent the tee's own store of c places, over these items: where the
-- branch was stepped j - 1 times, this is its j-th step, and nothing but j decides what it is told
pub record StepLaw {A : Type 0} (items : List A) (c : ℕ) (x : Counts) (b : ℕ) (t : Option (Told A)) :
    Type 0 where
  pub missing : x.branches ≤ b → StepRefused 8 t
  pub given : b < x.branches → x.steps b + 1 ≤ min (length items) c
      → (a : A) × (slice_get items (x.steps b) ≡ Some a) × (t ≡ Some (Stepped (Ok (Item a))))
  pub ended : b < x.branches → min (length items) c < x.steps b + 1 → length items < c
      → t ≡ Some (Stepped (Ok End))
  pub full : b < x.branches → min (length items) c < x.steps b + 1 → c ≤ length items
      → StepRefused 6 t

-- a copy of the branch b
pub record CopyLaw {A : Type 0} (x : Counts) (b : ℕ) (t : Option (Told A)) : Type 0 where
  pub made : b < x.branches → x.branches < 16 → t ≡ Some (Copied (Ok x.branches))
  pub missing : x.branches ≤ b → CopyRefused 8 t
  pub many : 16 ≤ x.branches → CopyRefused 8 t

-- a step that is lent a store of another length is refused by 9, whatever its branch
abbrev pub AskLaw : {A : Type 0} → List A → ℕ → Counts → Ask → Option (Told A) → Type 0
AskLaw items c x (Step b) t = StepLaw items c x b t
AskLaw items c x (StepElsewhere b) t = StepRefused 9 t
AskLaw items c x (Copy b) t = CopyLaw x b t

-- a call before which a history has counted x
pub record CallLaw {A : Type 0} (items : List A) (c : ℕ) (x : Counts) (before after : Memory A) :
    Type 0 where
  pub asked : after.ask ≡ before.ask
  pub other : after.other ≡ before.other
  pub told : AskLaw items c x before.ask after.told

-- ---- the law of a history

-- how many items the furthest branch has passed in a history since the making of a tee of k branches
abbrev pub all_given : {A : Type 0} → ℕ → List (Memory A) → List (Memory A) → ℕ
all_given k befores afters = furthest (counted k befores afters)

-- what a history has counted before the call numbered j
abbrev pub counted_before : {A : Type 0} → ℕ → ℕ → List (Memory A) → List (Memory A) → Counts
counted_before j k befores afters = counted k (take j befores) (take j afters)

-- a store of another length, where the step is lent another store
abbrev pub OtherLength : {A : Type 0} → ℕ → Ask → List A → Type 0
OtherLength c (Step b) other = Unit {0}
OtherLength c (StepElsewhere b) other = length other ≢ c
OtherLength c (Copy b) other = Unit {0}

abbrev pub OtherLengths : {A : Type 0} → ℕ → List (Memory A) → Type 0
OtherLengths {A} c befores =
    (j : ℕ) (before : Memory A) → slice_get befores j ≡ Some before → OtherLength c before.ask before.other

-- a history since the making of a tee with k branches over these items, whose own store held
-- `found` then and holds `store` now, and whose source has these steps ahead now
pub record HistoryLaw {A : Type 0} (k : ℕ) (items found : List A) (befores afters : List (Memory A))
    (store : List A) (ahead : List (AStep A)) : Type 0 where
  pub each_made : length afters ≡ length befores
  pub lawful : (j : ℕ) (before after : Memory A)
      → slice_get befores j ≡ Some before → slice_get afters j ≡ Some after
      → CallLaw items (length found) (counted_before j k befores afters) before after
  -- the source has given as many items as the furthest branch has passed, and the others are still
  -- ahead
  pub given : all_given k befores afters ≤ min (length items) (length found)
  pub left : ahead ≡ map item (drop (all_given k befores afters) items)
  -- they are stored in their order, and behind them is what the caller put there
  pub stored : store
      ≡ take (all_given k befores afters) items ++ drop (all_given k befores afters) found

-- in two histories of tees over the same items and with stores of the same length, two steps of
-- branches that were stepped equally often before have the same answer, whatever else was called
abbrev pub SameAnswers : Type 0 → Type 0
SameAnswers A =
    (k k' : ℕ) (items found found' : List A) (bs cs bs' cs' : List (Memory A)) (store store' : List A)
    (ss ss' : List (AStep A)) (j j' b b' : ℕ) (x a x' a' : Memory A) →
    length found' ≡ length found →
    HistoryLaw k items found bs cs store ss → HistoryLaw k' items found' bs' cs' store' ss' →
    slice_get bs j ≡ Some x → slice_get cs j ≡ Some a →
    slice_get bs' j' ≡ Some x' → slice_get cs' j' ≡ Some a' →
    x.ask ≡ Step b → x'.ask ≡ Step b' →
    b < (counted_before j k bs cs).branches → b' < (counted_before j' k' bs' cs').branches →
    (counted_before j k bs cs).steps b ≡ (counted_before j' k' bs' cs').steps b' → a.told ≡ a'.told

-- ---- the same over states that are linked by the contracts of step and copy

-- a tee and its own store
pub record Held (S A : Type 0) : Type 0 where
  pub tee : S
  pub store : List A

-- what a call leaves, by the tee's plain state, the steps ahead, the tee's own store and the other
pub record Left (A : Type 0) : Type 0 where
  pub told : Told A
  pub marks : Marks
  pub ahead : List (AStep A)
  pub store : List A
  pub other : List A

abbrev pub left_own : {A : Type 0} → After A → List A → Left A
left_own r other = record {
  told = Stepped r.answer;
  marks = r.marks;
  ahead = r.ahead;
  store = r.store;
  other = other;
}

abbrev pub left_elsewhere : {A : Type 0} → After A → List A → Left A
left_elsewhere r store = record {
  told = Stepped r.answer;
  marks = r.marks;
  ahead = r.ahead;
  store = store;
  other = r.store;
}

abbrev pub left_by : {A : Type 0} → Ask → Marks → List (AStep A) → List A → List A → Left A
left_by (Step b) m ss store other = left_own (stepped m b ss store) other
left_by (StepElsewhere b) m ss store other = left_elsewhere (stepped m b ss other) store
left_by (Copy b) m ss store other = record {
  told = Copied (copy_answer m b);
  marks = copy_marks m b;
  ahead = ss;
  store = store;
  other = other;
}

-- what a call leaves that finds this state and this memory
abbrev pub left_from : {S A : Type 0} → (S → Marks) → (S → List (AStep A)) → Held S A → Memory A → Left A
left_from marks ahead s before = left_by before.ask (marks s.tee) (ahead s.tee) s.store before.other

-- whether a call that was made was not refused
abbrev pub taken : {A : Type 0} → Option (Told A) → Bool
taken None = true
taken (Some (Stepped (Ok x))) = true
taken (Some (Stepped (Err (Refused n)))) = false
taken (Some (Stepped (Err (Broken f)))) = true
taken (Some (Copied (Ok n))) = true
taken (Some (Copied (Err n))) = false

abbrev pub unrefused : {A : Type 0} → Memory A → Bool
unrefused after = taken after.told

-- the states before and after one call; a refused call leaves the tee and either store as they were
pub record Transition {S A : Type 0} (marks : S → Marks) (ahead : S → List (AStep A))
    (s : Held S A) (before after : Memory A) (t : Held S A) : Type 0 where
  pub asked : after.ask ≡ before.ask
  pub told : after.told ≡ Some (left_from marks ahead s before).told
  pub marked : marks t.tee ≡ (left_from marks ahead s before).marks
  pub left : ahead t.tee ≡ (left_from marks ahead s before).ahead
  pub store : t.store ≡ (left_from marks ahead s before).store
  pub other : after.other ≡ (left_from marks ahead s before).other
  pub rests : unrefused after ≡ false → (t ≡ s) × (after.other ≡ before.other)

-- whatever calls lead on from a making over these items alone, the steps elsewhere lent stores of
-- other lengths: the law of histories holds of them
abbrev pub EveryHistory : {S : Type 0} → (S → Marks) → Type 0 → Type 0
EveryHistory {S} marks A =
    (ahead : S → List (AStep A)) (s t : Held S A) (befores afters : List (Memory A))
    (k : ℕ) (items : List A) →
    k ≤ 16 → marks s.tee ≡ fresh k (length s.store) → ahead s.tee ≡ map item items →
    OtherLengths (length s.store) befores →
    Trace (Transition marks ahead) s befores afters t →
    HistoryLaw k items s.store befores afters t.store (ahead t.tee)

-- without the calls that were refused, the others lead from the same state to the same, with the
-- same answers
abbrev pub RefusedUnfelt : {S A : Type 0} → (S → Marks) → (S → List (AStep A)) → Held S A
    → List (Memory A) → List (Memory A) → Held S A → Type 0
RefusedUnfelt marks ahead s befores afters t =
    Trace (Transition marks ahead) s (kept unrefused befores afters) (filter unrefused afters) t

abbrev pub EveryRefusedUnfelt : {S : Type 0} → (S → Marks) → Type 0 → Type 0
EveryRefusedUnfelt {S} marks A =
    (ahead : S → List (AStep A)) (s t : Held S A) (befores afters : List (Memory A)) →
    Trace (Transition marks ahead) s befores afters t → RefusedUnfelt marks ahead s befores afters t

-- what a run leaves that made a tee of k branches over these steps, its own store holding `found`,
-- and then the calls: the contracts of step and copy link the state after the making to the one at
-- the end, also without the refused calls; and the law of histories holds where no fault was ahead
-- and the steps elsewhere were lent stores of other lengths
pub record Ran {S A : Type 0} (marks : S → Marks) (ahead : S → List (AStep A)) (k : ℕ)
    (given : List (AStep A)) (found : List A) (befores afters : List (Memory A)) (t : Held S A) :
    Type 0 where
  pub made : Held S A
  pub fresh_marks : marks made.tee ≡ fresh k (length found)
  pub all_ahead : ahead made.tee ≡ given
  pub own_store : made.store ≡ found
  pub linked : Trace (Transition marks ahead) made befores afters t
  pub unfelt : RefusedUnfelt marks ahead made befores afters t
  pub law : (items : List A) → given ≡ map item items → OtherLengths (length found) befores
      → HistoryLaw k items found befores afters t.store (ahead t.tee)
