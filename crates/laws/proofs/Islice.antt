-- What islice gives, and what it has drawn by its end.
use Rattle.std.proofs.Common.{◌≡◌, ℕ, zero, suc, ◌+◌, ◌-◌, ◌*◌, ◌^◌, ◌<◌, ◌≤◌, Bool, true, false, cond, ◌&&◌, ltb, leb, ◌⊎◌, List, [], ◌∷◌, ◌++◌, map, length, Some, None, Option, Result, sym, refl, ap, ◌∙◌, subst, ⊎_elim, suc-mul, zero-mul, arith, Ok, Err}
use Rattle.std.specs.List.{slice_get}
use Rattle.std.proofs.lemmas.Bool.{ltb-true, ltb-false, leb-true, leb-false, lt-ltb, le-ltb, lt-leb, cond-true, cond-false, cond_both, cases_Bool, cases_lt, and_from, and_parts}
use Rattle.std.proofs.lemmas.Bool.Decides.{nat_tests}
use Rattle.steps.specs.Steps.{Step, first}
use Rattle.steps.specs.declared.fault.Fault.{Fault}
use Rattle.steps.specs.declared.answer.Answer.{Answer}
use Rattle.laws.specs.Items.{given, items, past, faults}
use Rattle.laws.specs.Run.{Follows, Call, given_by, CallOf}
use Rattle.laws.specs.Islice.{slice_run, DrawnWhenGiven, maxsize, Bounds, small, or_else, checked, bounds, larger, until, raised, reached, over, number, counted, slices, SliceAfter, slice_after, slice_end, below_stop, EveryStep, DrawnByEnd}
use Rattle.laws.proofs.Steps.{no_cons}
use Rattle.laws.proofs.Run.{not_over, cond_four, follows_at}

-- without a stop the numbers end where 64 bits do
abbrev pub limit : Option ℕ → ℕ
limit None = 2 ^ 64
limit (Some stop) = stop

reached_limit : (stop : Option ℕ) (cur : ℕ) → cur < 2 ^ 64 → reached stop cur ≡ leb (limit stop) cur
reached_limit None cur h = sym (lt-leb (2 ^ 64) cur h)
reached_limit (Some stop) cur h = refl

below_limit : (stop : Option ℕ) (n : ℕ) → below_stop stop n ≡ ltb n (limit stop)
below_limit None n = refl
below_limit (Some stop) n = refl

pub cond_same : {A : Type 0} (b : Bool) (x : A) → cond b x x ≡ x
cond_same true x = refl
cond_same false x = refl

raised_some : (n step : ℕ) → 0 < step → n + step < 2 ^ 64 → raised n step ≡ Some (n + step)
raised_some n step s h = cond-true _ _ _ (and_from (ltb 0 step) (ltb (n + step) (2 ^ 64)) (lt-ltb 0 step s) (lt-ltb (n + step) (2 ^ 64) h))

and_false : (b : Bool) → (b && false) ≡ false
and_false true = refl
and_false false = refl

raised_none : (n step : ℕ) → 2 ^ 64 ≤ n + step → raised n step ≡ None
raised_none n step h = cond-false _ _ _ (ap (λ b. ltb 0 step && b) (le-ltb (n + step) (2 ^ 64) h) ∙ and_false (ltb 0 step))

-- with no next number nothing is ahead
no_number : {A : Type 0} (stop : Option ℕ) (step cur : ℕ) (ss : List (Step A)) → slices stop step None cur ss ≡ []
no_number stop step cur [] = refl
no_number stop step cur (Ok a ∷ ss) = refl
no_number stop step cur (Err f ∷ ss) = refl

nth_shift : {A : Type 0} (x : A) (xs : List A) (m cur : ℕ) → cur < m → slice_get (x ∷ xs) (m - cur) ≡ slice_get xs (m - (cur + 1))
nth_shift x xs m cur h = let e : m - cur ≡ suc (m - (cur + 1)) = omega arith in ap (slice_get (x ∷ xs)) e

abbrev Every : {A : Type 0} → Option ℕ → ℕ → ℕ → ℕ → List A → ℕ → List (Step A) → Type 0
Every stop step n cur xs k gives = slice_get gives k ≡ cond (ltb (n + k * step) (limit stop)) (given (slice_get xs (n + k * step - cur))) None

-- past the limit nothing comes
none_past : {A : Type 0} (stop : Option ℕ) (step n cur : ℕ) (xs : List A) (k : ℕ) → limit stop ≤ n → Every stop step n cur xs k []
none_past stop step n cur xs k h = sym (cond-false _ _ _ (le-ltb (n + k * step) (limit stop) (omega arith)))

-- at the item with the next number: it is given, or the numbers behind it are asked for
module _ {A : Type 0} (stop : Option ℕ) (step n : ℕ) (x : A) (xs : List A) (s : 0 < step) (in64 : n < 2 ^ 64) (lim : limit stop ≤ 2 ^ 64) (lt : n < limit stop)
    (behind : (m cur k : ℕ) → cur ≤ m → m < 2 ^ 64 → Every stop step m cur xs k (slices stop step (Some m) cur (map Ok xs))) where
  given_here : (k : ℕ) → Every stop step n n (x ∷ xs) k (Ok x ∷ slices stop step (raised n step) (counted (raised n step) n) (map Ok xs))
  given_here zero =
      let z : n + 0 * step ≡ n = ap (λ u. n + u) (zero-mul step) ∙ omega arith in
      let w : n + 0 * step - n ≡ 0 = omega (arith, z) in
      let t : ltb (n + 0 * step) (limit stop) ≡ true = lt-ltb (n + 0 * step) (limit stop) (omega (arith, z)) in
      sym (cond-true _ _ _ t ∙ ap (λ u. given (slice_get (x ∷ xs) u)) w)
  given_here (suc k) =
      let m : n + suc k * step ≡ n + step + k * step = omega (arith, suc-mul k step) in
      let on : (n + step < 2 ^ 64) ⊎ (2 ^ 64 ≤ n + step) → Every stop step n n (x ∷ xs) (suc k) (Ok x ∷ slices stop step (raised n step) (counted (raised n step) n) (map Ok xs)) =
      ⊎_elim
      (λ h.
      let r = raised_some n step s h in
      ap (λ o. slice_get (slices stop step o (counted o n) (map Ok xs)) k) r
      ∙ behind (n + step) (n + 1) k (omega arith) h
      ∙ ap (λ o. cond (ltb (n + step + k * step) (limit stop)) (given o) None) (sym (nth_shift x xs (n + step + k * step) n (omega arith)))
      ∙ ap (λ u. cond (ltb u (limit stop)) (given (slice_get (x ∷ xs) (u - n))) None) (sym m))
      (λ h.
      let r = raised_none n step h in
      ap (λ o. slice_get (slices stop step o (counted o n) (map Ok xs)) k) r
      ∙ ap (λ us. slice_get us k) (no_number stop step 0 (map Ok xs))
      ∙ sym (cond-false _ _ _ (le-ltb (n + suc k * step) (limit stop) (omega (arith, m))))) in
      on (cases_lt (n + step) (2 ^ 64))

pub slices_at : {A : Type 0} (stop : Option ℕ) (step : ℕ) → 0 < step → limit stop ≤ 2 ^ 64 → (xs : List A) (n cur k : ℕ) → cur ≤ n → n < 2 ^ 64 →
    Every stop step n cur xs k (slices stop step (Some n) cur (map Ok xs))
slices_at stop step s lim [] n cur k h in64 = sym (cond_same (ltb (n + k * step) (limit stop)) None)
slices_at {A} stop step s lim (x ∷ xs) n cur k h in64 =
    let skipped = slices stop step (Some n) (cur + 1) (map Ok xs) in
    let kept = Ok x ∷ slices stop step (raised n step) (counted (raised n step) n) (map Ok xs) in
    let Goal : List (Step A) → Type 0 = Every stop step n cur (x ∷ xs) k in
    let rl = reached_limit stop cur (omega arith) in
    let ended : leb (limit stop) cur ≡ true → Goal (cond (reached stop cur) [] (cond (ltb cur n) skipped kept)) =
    λ t. subst Goal (sym (cond-true (reached stop cur) [] (cond (ltb cur n) skipped kept) (rl ∙ t)))
    (none_past stop step n cur (x ∷ xs) k (omega (arith, leb-true (limit stop) cur t))) in
    let going : leb (limit stop) cur ≡ false → Goal (cond (reached stop cur) [] (cond (ltb cur n) skipped kept)) =
    λ t. subst Goal (sym (cond-false (reached stop cur) [] (cond (ltb cur n) skipped kept) (rl ∙ t)))
    (⊎_elim
    (λ l.
    let less = ltb-true cur n l in
    subst Goal (sym (cond-true (ltb cur n) skipped kept l))
    (slices_at stop step s lim xs n (cur + 1) k (omega arith) in64
    ∙ ap (λ o. cond (ltb (n + k * step) (limit stop)) (given o) None) (sym (nth_shift x xs (n + k * step) cur (omega arith)))))
    (λ l.
    let same : cur ≡ n = omega (arith, ltb-false cur n l) in
    subst Goal (sym (cond-false (ltb cur n) skipped kept l))
    (subst (λ c. Every stop step n c (x ∷ xs) k (Ok x ∷ slices stop step (raised n step) (counted (raised n step) n) (map Ok xs))) (sym same)
    (given_here stop step n x xs s in64 lim (omega (arith, leb-false (limit stop) cur t)) (λ m c j. slices_at stop step s lim xs m c j) k)))
    (cases_Bool (ltb cur n))) in
    ⊎_elim ended going (cases_Bool (leb (limit stop) cur))

-- what the start and the stop say together
until_limit : (start : ℕ) (stop : Option ℕ) (m : ℕ) → start ≤ m → ltb m (limit (until start stop)) ≡ below_stop stop m
until_limit start None m h = refl
until_limit start (Some stop) m h = grind (arith, nat_tests)

until_fits : (start : ℕ) (stop : Option ℕ) → start < 2 ^ 64 → limit stop ≤ 2 ^ 64 → limit (until start stop) ≤ 2 ^ 64
until_fits start None h k = k
until_fits start (Some stop) h k = grind (arith, nat_tests)

pub every_step : {A : Type 0} (b : Bounds) → 0 < b.step → b.start < 2 ^ 64 → limit b.stop ≤ 2 ^ 64 → (ss : List (Step A)) →
    EveryStep b ss (slices (until b.start b.stop) b.step (Some b.start) 0 ss)
every_step b s h k ss xs e i =
    let m = b.start + i * b.step in
    ap (λ us. slice_get (slices (until b.start b.stop) b.step (Some b.start) 0 us) i) e
    ∙ slices_at (until b.start b.stop) b.step s (until_fits b.start b.stop h k) xs b.start 0 i (omega arith) h
    ∙ ap (λ t. cond t (given (slice_get xs (m - 0))) None) (until_limit b.start b.stop m (omega arith))
    ∙ ap (λ u. cond (below_stop b.stop m) (given (slice_get xs u)) None) (omega arith)

-- a fact of two values that are chosen by one test
pub cond_two : {A B : Type 0} (P : A → B → Type 0) (b : Bool) (x y : A) (u v : B) → (b ≡ true → P x u) → (b ≡ false → P y v) → P (cond b x y) (cond b u v)
cond_two P true x y u v s t = s refl
cond_two P false x y u v s t = t refl

-- one call of a run to the end: what is left at the end is the same before it and after it
abbrev EndsAs : {A : Type 0} → Option ℕ → ℕ → SliceAfter A → List (Step A) → Type 0
EndsAs stop step r left = slice_end stop step r.next r.cur r.left ≡ left

pub end_stays : {A : Type 0} (stop : Option ℕ) (step : ℕ) (ss : List (Step A)) (next : Option ℕ) (cur : ℕ) →
    EndsAs stop step (slice_after stop step next cur ss) (slice_end stop step next cur ss)
end_stays stop step [] next cur = refl
end_stays stop step (Err f ∷ ss) next cur =
    cond_two (EndsAs stop step) (over stop next cur) _ _ _ _ (λ e. cond-true _ _ _ e) (λ e. refl)
end_stays stop step (Ok a ∷ ss) next cur =
    cond_two (EndsAs stop step) (over stop next cur) _ _ _ _
    (λ e. cond-true _ _ _ e)
    (λ e. cond_two (EndsAs stop step) (ltb cur (number next)) _ _ _ _ (λ l. end_stays stop step ss next (cur + 1)) (λ l. refl))

-- the same for three values
cond_three : {A B C : Type 0} (P : A → B → C → Type 0) (b : Bool) (x y : A) (u v : B) (w z : C) → (b ≡ true → P x u w) → (b ≡ false → P y v z) → P (cond b x y) (cond b u v) (cond b w z)
cond_three P true x y u v w z s t = s refl
cond_three P false x y u v w z s t = t refl

-- a call that says end leaves what is left at the end
abbrev Ended : {A : Type 0} → List (Step A) → SliceAfter A → List (Step A) → Type 0
Ended gives r left = gives ≡ [] → r.left ≡ left

pub end_left : {A : Type 0} (stop : Option ℕ) (step : ℕ) (ss : List (Step A)) (next : Option ℕ) (cur : ℕ) →
    Ended (slices stop step next cur ss) (slice_after stop step next cur ss) (slice_end stop step next cur ss)
end_left stop step [] next cur = λ e. refl
end_left stop step (Err f ∷ ss) next cur =
    cond_three Ended (over stop next cur) _ _ _ _ _ _ (λ o e. refl) (λ o e. absurd (no_cons _ _ e))
end_left stop step (Ok a ∷ ss) next cur =
    cond_three Ended (over stop next cur) _ _ _ _ _ _
    (λ o e. refl)
    (λ o. cond_three Ended (ltb cur (number next)) _ _ _ _ _ _ (λ l. end_left stop step ss next (cur + 1)) (λ l e. absurd (no_cons _ _ e)))

-- and another call draws nothing
abbrev Rests : {A : Type 0} → Option ℕ → ℕ → List (Step A) → SliceAfter A → Type 0
Rests stop step gives r = gives ≡ [] → (slice_after stop step r.next r.cur r.left).left ≡ r.left

pub end_rests : {A : Type 0} (stop : Option ℕ) (step : ℕ) (ss : List (Step A)) (next : Option ℕ) (cur : ℕ) →
    Rests stop step (slices stop step next cur ss) (slice_after stop step next cur ss)
end_rests {A} stop step [] next cur = λ e. refl
end_rests {A} stop step (Err f ∷ ss) next cur =
    cond_two (Rests stop step) (over stop next cur) _ _ _ _ (λ o e. ap (λ (r : SliceAfter A). r.left) (cond-true _ _ _ o)) (λ o e. absurd (no_cons _ _ e))
end_rests {A} stop step (Ok a ∷ ss) next cur =
    cond_two (Rests stop step) (over stop next cur) _ _ _ _
    (λ o e. ap (λ (r : SliceAfter A). r.left) (cond-true _ _ _ o))
    (λ o. cond_two (Rests stop step) (ltb cur (number next)) _ _ _ _ (λ l. end_rests stop step ss next (cur + 1)) (λ l e. absurd (no_cons _ _ e)))

-- with a stop, as many items are drawn as lie before it
past_none : {A : Type 0} (n : ℕ) → past {A = A} n [] ≡ []
past_none zero = refl
past_none (suc n) = refl

past_more : {A : Type 0} (n cur : ℕ) (a : A) (ss : List (Step A)) → cur < n → past (n - cur) (Ok a ∷ ss) ≡ past (n - (cur + 1)) ss
past_more n cur a ss h = let e : n - cur ≡ suc (n - (cur + 1)) = omega arith in ap (λ m. past m (Ok a ∷ ss)) e

past_fault : {A : Type 0} (n cur : ℕ) (f : Fault) (ss : List (Step A)) → cur < n → past (n - cur) (Err f ∷ ss) ≡ past (n - cur) ss
past_fault n cur f ss h = let e : n - cur ≡ suc (n - (cur + 1)) = omega arith in ap (λ m. past m (Err f ∷ ss)) e ∙ ap (λ m. past m ss) (sym e)

past_over : {A : Type 0} (n cur : ℕ) (ss : List (Step A)) → n ≤ cur → past (n - cur) ss ≡ ss
past_over n cur ss h = let e : n - cur ≡ 0 = omega arith in ap (λ m. past m ss) e

pub end_past : {A : Type 0} (stop step : ℕ) → 0 < step → stop + step ≤ 2 ^ 64 → (ss : List (Step A)) (n cur : ℕ) → cur ≤ n → n < 2 ^ 64 →
    slice_end (Some stop) step (Some n) cur ss ≡ past (stop - cur) ss
end_past stop step s lim [] n cur h in64 = sym (past_none (stop - cur))
end_past stop step s lim (Err f ∷ ss) n cur h in64 =
    cond_both (leb stop cur) (Err f ∷ ss) (slice_end (Some stop) step (Some n) cur ss) (λ left. left ≡ past (stop - cur) (Err f ∷ ss))
    (λ t. sym (past_over stop cur (Err f ∷ ss) (leb-true stop cur t)))
    (λ t. end_past stop step s lim ss n cur h in64 ∙ sym (past_fault stop cur f ss (leb-false stop cur t)))
end_past stop step s lim (Ok a ∷ ss) n cur h in64 =
    cond_both (leb stop cur) (Ok a ∷ ss) _ (λ left. left ≡ past (stop - cur) (Ok a ∷ ss))
    (λ t. sym (past_over stop cur (Ok a ∷ ss) (leb-true stop cur t)))
    (λ t. cond_both (ltb cur n) (slice_end (Some stop) step (Some n) (cur + 1) ss) (slice_end (Some stop) step (raised n step) (counted (raised n step) n) ss)
    (λ left. left ≡ past (stop - cur) (Ok a ∷ ss))
    (λ l. end_past stop step s lim ss n (cur + 1) (omega (arith, ltb-true cur n l)) in64 ∙ sym (past_more stop cur a ss (leb-false stop cur t)))
    (λ l.
    let same : n ≡ cur = omega (arith, ltb-false cur n l) in
    let fit : n + step < 2 ^ 64 = omega (arith, leb-false stop cur t) in
    ap (λ o. slice_end (Some stop) step o (counted o n) ss) (raised_some n step s fit)
    ∙ end_past stop step s lim ss (n + step) (n + 1) (omega arith) fit
    ∙ ap (λ c. past (stop - (c + 1)) ss) same
    ∙ sym (past_more stop cur a ss (leb-false stop cur t))))

-- without a stop all are drawn, where the numbers reach
pub end_all : {A : Type 0} (step : ℕ) → 0 < step → (ss : List (Step A)) (n cur : ℕ) → cur ≤ n → n < 2 ^ 64 → cur + length (items ss) + step ≤ 2 ^ 64 →
    slice_end None step (Some n) cur ss ≡ []
end_all step s [] n cur h in64 few = refl
end_all step s (Err f ∷ ss) n cur h in64 few = end_all step s ss n cur h in64 few
end_all step s (Ok a ∷ ss) n cur h in64 few =
    cond_both (ltb cur n) (slice_end None step (Some n) (cur + 1) ss) (slice_end None step (raised n step) (counted (raised n step) n) ss) (λ left. left ≡ [])
    (λ l. end_all step s ss n (cur + 1) (omega (arith, ltb-true cur n l)) in64 (omega arith))
    (λ l.
    let same : n ≡ cur = omega (arith, ltb-false cur n l) in
    let fit : n + step < 2 ^ 64 = omega arith in
    ap (λ o. slice_end None step o (counted o n) ss) (raised_some n step s fit)
    ∙ end_all step s ss (n + step) (n + 1) (omega arith) fit (omega arith))

pub drawn_by_end : {A : Type 0} (b : Bounds) → 0 < b.step → b.step < 2 ^ 63 → b.start < 2 ^ 63 → limit b.stop ≤ 2 ^ 64 → (below : (stop : ℕ) → b.stop ≡ Some stop → stop < 2 ^ 63) → (ss : List (Step A)) →
    DrawnByEnd b ss (slice_end (until b.start b.stop) b.step (Some b.start) 0 ss)
drawn_by_end b s stride63 start63 lim below ss = (
  (λ stop e.
      let st : larger b.start stop < 2 ^ 63 = cond_both (ltb b.start stop) stop b.start (λ m. m < 2 ^ 63) (λ _. below stop e) (λ _. start63) in
      ap (λ o. slice_end (until b.start o) b.step (Some b.start) 0 ss) e
      ∙ end_past (larger b.start stop) b.step s (omega arith) ss b.start 0 (omega arith) (omega arith)
      ∙ ap (λ m. past m ss) (omega arith)),
  (λ e few. ap (λ o. slice_end (until b.start o) b.step (Some b.start) 0 ss) e ∙ end_all b.step s ss b.start 0 (omega arith) (omega arith) (omega arith)),
)

-- arguments that are taken are in range
abbrev InRange : Bounds → Type 0
InRange b = (0 < b.step) × (b.step < 2 ^ 63) × (b.start < 2 ^ 63) × ((stop : ℕ) → b.stop ≡ Some stop → stop < 2 ^ 63)

cond_some : {A : Type 0} (t : Bool) (x b : A) → cond t (Some x) None ≡ Some b → (t ≡ true) × (x ≡ b)
cond_some true x b e = (refl, cc)
cond_some false x b e = let z : ◌≡◌ {A = ℕ} 0 1 = cc in absurd (omega arith)

small_or : (d : ℕ) (o : Option ℕ) → d < 2 ^ 63 → small o ≡ true → or_else d o < 2 ^ 63
small_or d None h s = h
small_or d (Some n) h s = omega (arith, leb-true n maxsize s)

small_some : (o : Option ℕ) → small o ≡ true → (n : ℕ) → o ≡ Some n → n < 2 ^ 63
small_some None s n e = let z : ◌≡◌ {A = ℕ} 0 1 = cc in absurd (omega arith)
small_some (Some m) s n e = let same : m ≡ n = cc in omega (arith, leb-true m maxsize s)

checked_in_range : (start stop step : Option ℕ) (b : Bounds) → checked start stop step ≡ Some b → InRange b
checked_in_range start stop step b e =
    let c = cond_some _ (record { start = or_else 0 start; stop = stop; step = or_else 1 step }) b e in
    let p = and_parts (small start) _ c.0 in
    let q = and_parts (small stop) _ p.1 in
    let r = and_parts (small step) _ q.1 in
    subst InRange c.1
    (ltb-true 0 (or_else 1 step) r.1, small_or 1 step (omega arith) r.0, small_or 0 start (omega arith) p.0, small_some stop q.0)

never_some : (b : Bounds) → None ≡ Some b → ⊥
never_some b e = let z : ◌≡◌ {A = ℕ} 0 1 = cc in omega arith

bounds_in_range : (arguments : List (Option ℕ)) (b : Bounds) → bounds arguments ≡ Some b → InRange b
bounds_in_range [] b e = absurd (never_some b e)
bounds_in_range (stop ∷ []) b e = checked_in_range None stop None b e
bounds_in_range (start ∷ (stop ∷ [])) b e = checked_in_range start stop None b e
bounds_in_range (start ∷ (stop ∷ (step ∷ []))) b e = checked_in_range start stop step b e
bounds_in_range (s ∷ (t ∷ (u ∷ (v ∷ more)))) b e = absurd (never_some b e)

in_64 : (o : Option ℕ) → ((stop : ℕ) → o ≡ Some stop → stop < 2 ^ 63) → limit o ≤ 2 ^ 64
in_64 None h = omega arith
in_64 (Some stop) h = omega (arith, h stop refl)

pub gives_every_step : {A : Type 0} (arguments : List (Option ℕ)) (b : Bounds) → bounds arguments ≡ Some b → (ss : List (Step A)) →
    EveryStep b ss (slices (until b.start b.stop) b.step (Some b.start) 0 ss)
gives_every_step arguments b e ss =
    let r = bounds_in_range arguments b e in
    every_step b r.0 (omega (arith, r.2)) (in_64 b.stop r.3) ss

pub draws_by_end : {A : Type 0} (arguments : List (Option ℕ)) (b : Bounds) → bounds arguments ≡ Some b → (ss : List (Step A)) →
    DrawnByEnd b ss (slice_end (until b.start b.stop) b.step (Some b.start) 0 ss)
draws_by_end arguments b e ss =
    let r = bounds_in_range arguments b e in
    drawn_by_end b r.0 r.1 r.2 (in_64 b.stop r.3) r.3 ss

-- an islice that has ended gives nothing and stays as it is
pub over_gives : {A : Type 0} (stop : Option ℕ) (step : ℕ) (next : Option ℕ) (cur : ℕ) (ss : List (Step A)) → over stop next cur ≡ true → slices stop step next cur ss ≡ []
over_gives stop step next cur [] o = refl
over_gives stop step next cur (Ok a ∷ ss) o = cond-true _ _ _ o
over_gives stop step next cur (Err f ∷ ss) o = cond-true _ _ _ o

pub over_after : {A : Type 0} (stop : Option ℕ) (step : ℕ) (next : Option ℕ) (cur : ℕ) (ss : List (Step A)) → over stop next cur ≡ true →
    slice_after stop step next cur ss ≡ record { left = ss; next = next; cur = cur }
over_after stop step next cur [] o = refl
over_after stop step next cur (Ok a ∷ ss) o = cond-true _ _ _ o
over_after stop step next cur (Err f ∷ ss) o = cond-true _ _ _ o

-- one call of a run
abbrev CallFollows : {A : Type 0} → Option ℕ → ℕ → List (Call A (List (Step A))) → List (Step A) → List (Step A) → SliceAfter A → Type 0
CallFollows stop step run end gives after =
    CallOf run end (first gives) after.left (slice_run stop step after.next after.cur after.left) (slice_end stop step after.next after.cur after.left)

pub slice_follows : {A : Type 0} (stop : Option ℕ) (step : ℕ) (ss : List (Step A)) (next : Option ℕ) (cur : ℕ) →
    CallFollows stop step (slice_run stop step next cur ss) (slice_end stop step next cur ss) (slices stop step next cur ss) (slice_after stop step next cur ss)
slice_follows stop step [] next cur = (refl, refl, refl, refl)
slice_follows stop step (Err f ∷ ss) next cur =
    cond_four (CallFollows stop step) (over stop next cur) _ _ _ _ _ _ _ _
    (λ o. (refl, refl, cond-true _ _ _ o, cond-true _ _ _ o))
    (λ o. (refl, refl, refl, refl))
slice_follows stop step (Ok a ∷ ss) next cur =
    cond_four (CallFollows stop step) (over stop next cur) _ _ _ _ _ _ _ _
    (λ o. (refl, refl, cond-true _ _ _ o, cond-true _ _ _ o))
    (λ o. cond_four (CallFollows stop step) (ltb cur (number next)) _ _ _ _ _ _ _ _
    (λ l. slice_follows stop step ss next (cur + 1))
    (λ l. (refl, refl, refl, refl)))

-- what is left when an item is given, whose number its number of items before tells
abbrev LeftAt : {A : Type 0} → ℕ → ℕ → ℕ → List (Step A) → List (Call A (List (Step A))) → Type 0
LeftAt {A} step n cur ss run = (before after : List (Call A (List (Step A)))) (c : Call A (List (Step A))) (a : A) → run ≡ before ++ c ∷ after → c.step ≡ Ok a →
    c.left ≡ past (n + length (items (given_by before)) * step + 1 - cur) ss

no_item_fault : {A : Type 0} (f : Fault) (a : A) → ◌≡◌ {A = Step A} (Err f) (Ok a) → ⊥
no_item_fault f a e = let z : ◌≡◌ {A = ℕ} 0 1 = cc in omega arith

left_none : {A : Type 0} (step n cur : ℕ) (ss : List (Step A)) → LeftAt step n cur ss []
left_none step n cur ss before after c a e g = absurd (not_over before c after e)

left_fault : {A : Type 0} (step n cur : ℕ) (f : Fault) (ss : List (Step A)) (run : List (Call A (List (Step A)))) → cur ≤ n →
    LeftAt step n cur ss run → LeftAt step n cur (Err f ∷ ss) (record { step = Err f; left = ss } ∷ run)
left_fault {A} step n cur f ss run h l [] after c a e g =
    let same : c ≡ record { step = Err f; left = ss } = cc in
    absurd (no_item_fault f a (sym (ap (λ (d : Call A (List (Step A))). d.step) same) ∙ g))
left_fault {A} step n cur f ss run h l (d ∷ before) after c a e g =
    let same : record { step = Err f; left = ss } ≡ d = cc in
    let more : run ≡ before ++ c ∷ after = cc in
    let m = length (items (given_by before)) in
    let gone : items (given_by (d ∷ before)) ≡ items (given_by before) = ap (λ (b : Call A (List (Step A))). items (b.step ∷ given_by before)) (sym same) in
    l before after c a more g ∙ sym (past_fault (n + m * step + 1) cur f ss (omega arith))
    ∙ ap (λ us. past (n + length us * step + 1 - cur) (Err f ∷ ss)) (sym gone)

left_skipped : {A : Type 0} (step n cur : ℕ) (x : A) (ss : List (Step A)) (run : List (Call A (List (Step A)))) → cur < n →
    LeftAt step n (cur + 1) ss run → LeftAt step n cur (Ok x ∷ ss) run
left_skipped step n cur x ss run h l before after c a e g =
    l before after c a e g ∙ sym (past_more (n + length (items (given_by before)) * step + 1) cur x ss (omega arith))

left_given : {A : Type 0} (step n : ℕ) (x : A) (ss : List (Step A)) (run : List (Call A (List (Step A)))) →
    LeftAt step (n + step) (n + 1) ss run → LeftAt step n n (Ok x ∷ ss) (record { step = Ok x; left = ss } ∷ run)
left_given {A} step n x ss run l [] after c a e g =
    let same : c ≡ record { step = Ok x; left = ss } = cc in
    let one : n + 0 * step + 1 - n ≡ 1 = omega (arith, zero-mul step) in
    ap (λ (d : Call A (List (Step A))). d.left) same ∙ ap (λ m. past m (Ok x ∷ ss)) (sym one)
left_given {A} step n x ss run l (d ∷ before) after c a e g =
    let same : record { step = Ok x; left = ss } ≡ d = cc in
    let more : run ≡ before ++ c ∷ after = cc in
    let k = length (items (given_by before)) in
    let m : n + suc k * step ≡ n + step + k * step = omega (arith, suc-mul k step) in
    let gone : items (given_by (d ∷ before)) ≡ x ∷ items (given_by before) = ap (λ (b : Call A (List (Step A))). items (b.step ∷ given_by before)) (sym same) in
    l before after c a more g ∙ ap (λ u. past (u + 1 - (n + 1)) ss) (sym m) ∙ sym (past_more (n + suc k * step + 1) n x ss (omega arith))
    ∙ ap (λ us. past (n + length us * step + 1 - n) (Ok x ∷ ss)) (sym gone)

no_run : {A : Type 0} (stop : Option ℕ) (step cur : ℕ) (ss : List (Step A)) → slice_run stop step None cur ss ≡ []
no_run stop step cur [] = refl
no_run stop step cur (Ok a ∷ ss) = refl
no_run stop step cur (Err f ∷ ss) = refl

run_given : {A : Type 0} (stop : Option ℕ) (step n : ℕ) (x : A) (ss : List (Step A)) → 0 < step →
    ((m cur : ℕ) → cur ≤ m → LeftAt step m cur ss (slice_run stop step (Some m) cur ss)) →
    LeftAt step n n (Ok x ∷ ss) (record { step = Ok x; left = ss } ∷ slice_run stop step (raised n step) (counted (raised n step) n) ss)
run_given stop step n x ss s behind =
    left_given step n x ss (slice_run stop step (raised n step) (counted (raised n step) n) ss)
    (⊎_elim
    (λ (h : n + step < 2 ^ 64).
    subst (λ o. LeftAt step (n + step) (n + 1) ss (slice_run stop step o (counted o n) ss)) (sym (raised_some n step s h))
    (behind (n + step) (n + 1) (omega arith)))
    (λ (h : 2 ^ 64 ≤ n + step).
    subst (λ o. LeftAt step (n + step) (n + 1) ss (slice_run stop step o (counted o n) ss)) (sym (raised_none n step h))
    (subst (LeftAt step (n + step) (n + 1) ss) (sym (no_run stop step 0 ss)) (left_none step (n + step) (n + 1) ss)))
    (cases_lt (n + step) (2 ^ 64)))

run_at : {A : Type 0} (stop : Option ℕ) (step : ℕ) → 0 < step → (ss : List (Step A)) (n cur : ℕ) → cur ≤ n → LeftAt step n cur ss (slice_run stop step (Some n) cur ss)
run_at stop step s [] n cur h = left_none step n cur []
run_at stop step s (Err f ∷ ss) n cur h =
    cond_both (over stop (Some n) cur) _ _ (LeftAt step n cur (Err f ∷ ss))
    (λ o. left_none step n cur (Err f ∷ ss))
    (λ o. left_fault step n cur f ss (slice_run stop step (Some n) cur ss) h (run_at stop step s ss n cur h))
run_at {A} stop step s (Ok x ∷ ss) n cur h =
    cond_both (over stop (Some n) cur) _ _ (LeftAt step n cur (Ok x ∷ ss))
    (λ o. left_none step n cur (Ok x ∷ ss))
    (λ o. cond_both (ltb cur n) (slice_run stop step (Some n) (cur + 1) ss)
    (record { step = Ok x; left = ss } ∷ slice_run stop step (raised n step) (counted (raised n step) n) ss) (LeftAt step n cur (Ok x ∷ ss))
    (λ l. let lt = ltb-true cur n l in left_skipped step n cur x ss (slice_run stop step (Some n) (cur + 1) ss) lt (run_at stop step s ss n (cur + 1) (omega arith)))
    (λ l.
    let same : cur ≡ n = omega (arith, ltb-false cur n l) in
    subst (λ u. LeftAt step n u (Ok x ∷ ss) (record { step = Ok x; left = ss } ∷ slice_run stop step (raised n step) (counted (raised n step) n) ss)) (sym same)
    (run_given stop step n x ss s (λ m u. run_at stop step s ss m u))))

-- the law of an islice just made
pub drawn_when_given : {A : Type 0} (arguments : List (Option ℕ)) (b : Bounds) → bounds arguments ≡ Some b → (ss : List (Step A)) →
    DrawnWhenGiven b ss (slice_run (until b.start b.stop) b.step (Some b.start) 0 ss)
drawn_when_given arguments b e ss before after c a f g =
    let r = bounds_in_range arguments b e in
    run_at (until b.start b.stop) b.step r.0 ss b.start 0 (omega arith) before after c a f g ∙ ap (λ m. past m ss) (omega arith)

pub slice_call : {A : Type 0} (stop stop' : Option ℕ) (step step' : ℕ) (next next' : Option ℕ) (cur cur' : ℕ) (ss left : List (Step A)) (r : Result (Answer A) Fault) →
    r ≡ first (slices stop step next cur ss) → left ≡ (slice_after stop step next cur ss).left → next' ≡ (slice_after stop step next cur ss).next →
    cur' ≡ (slice_after stop step next cur ss).cur → stop' ≡ stop → step' ≡ step →
    Follows (slice_run stop step next cur ss) (slice_end stop step next cur ss) r left (slice_run stop' step' next' cur' left) (slice_end stop' step' next' cur' left)
slice_call stop stop' step step' next next' cur cur' ss left r e f g h i j =
    let after = slice_after stop step next cur ss in
    let later : slice_run stop' step' next' cur' left ≡ slice_run stop step after.next after.cur after.left = cc in
    let at : slice_end stop' step' next' cur' left ≡ slice_end stop step after.next after.cur after.left = cc in
    follows_at _ _ _ r _ left _ _ _ _ (slice_follows stop step ss next cur) e f later at

pub faults_kept : {A : Type 0} (stop : Option ℕ) (stride : ℕ) (ss : List (Step A)) (next : Option ℕ) (cur : ℕ) →
    faults (slices stop stride next cur ss) ++ faults (slice_end stop stride next cur ss) ≡ faults ss
faults_kept stop stride [] next cur = refl
faults_kept {A} stop stride (Err f ∷ ss) next cur =
    cond_two (λ (g l : List (Step A)). faults g ++ faults l ≡ f ∷ faults ss) (over stop next cur) _ _ _ _ (λ o. refl)
    (λ o. ap (λ fs. f ∷ fs) (faults_kept stop stride ss next cur))
faults_kept {A} stop stride (Ok a ∷ ss) next cur =
    cond_two (λ (g l : List (Step A)). faults g ++ faults l ≡ faults ss) (over stop next cur) _ _ _ _ (λ o. refl)
    (λ o. cond_two (λ (g l : List (Step A)). faults g ++ faults l ≡ faults ss) (ltb cur (number next)) _ _ _ _
    (λ l. faults_kept stop stride ss next (cur + 1))
    (λ l. faults_kept stop stride ss (raised (number next) stride) (counted (raised (number next) stride) (number next))))

-- the items given are those given over the same list without its faults
pub items_kept : {A : Type 0} (stop : Option ℕ) (stride : ℕ) (ss : List (Step A)) (next : Option ℕ) (cur : ℕ) →
    items (slices stop stride next cur ss) ≡ items (slices stop stride next cur (map Ok (items ss)))
items_kept stop stride [] next cur = refl
items_kept {A} stop stride (Err f ∷ ss) next cur =
    cond_both (over stop next cur) [] (Err f ∷ slices stop stride next cur ss) (λ g. items g ≡ items (slices stop stride next cur (map Ok (items ss))))
    (λ o. sym (ap items (over_gives stop stride next cur (map Ok (items ss)) o)))
    (λ o. items_kept stop stride ss next cur)
items_kept {A} stop stride (Ok a ∷ ss) next cur =
    cond_two (λ (g h : List (Step A)). items g ≡ items h) (over stop next cur) _ _ _ _ (λ o. refl)
    (λ o. cond_two (λ (g h : List (Step A)). items g ≡ items h) (ltb cur (number next)) _ _ _ _
    (λ l. items_kept stop stride ss next (cur + 1))
    (λ l. ap (λ xs. a ∷ xs) (items_kept stop stride ss (raised (number next) stride) (counted (raised (number next) stride) (number next)))))
