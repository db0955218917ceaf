-- What every history of a tee answers and leaves.
use Rattle.std.proofs.Common.{◌≡◌, ℕ, zero, suc, ◌+◌, ◌<◌, ◌≤◌, min, Bool, true, false, cond, eqb, ltb, ◌≢◌, ◌⊎◌, ⊎_elim, inl, inr, List, [], ◌∷◌, ◌++◌, map, length, get_or, take, drop, set, replicate, Some, Ok, Err, Option, sym, refl, ap, ◌∙◌, subst, add-one, arith, get_or-set_other, get_or-set_same}
use Rattle.std.specs.List.{slice_get}
use Rattle.std.proofs.lemmas.Bool.{and_parts, and_cases, cond_both, cases_eq, cases_lt, ltb-true, ltb-false, eqb-true, eqb-false}
use Rattle.std.proofs.lemmas.Bool.Decides.{nat_tests}
use Rattle.std.proofs.lemmas.List.{drop_all, length-set, get_or-replicate, take-append-drop, drop-set-lt, drop-drop}
use Rattle.steps.specs.declared.answer.Answer.TheVariants.{Item}
use Rattle.steps.specs.declared.refusal.Refusal.{Refusal}
use Rattle.steps.specs.declared.refusal.Refusal.TheVariants.{PoolTooLong, RowTooLong, OtherPool, ShortBuffer, SliceArguments, StoreFull, TooManyGroups, NoBranch, OtherStore}
use Rattle.steps.specs.declared.call_error.CallError.TheVariants.{Refused}
use Rattle.steps.specs.Refusals.{refusal_number}
use Rattle.steps.specs.Steps.{Step as AStep, item}
use Rattle.steps.specs.Trace.{Trace, gathered}
use Rattle.steps.proofs.Trace.{trace_lengths, trace_at, trace_gathers, trace_without}
use Rattle.laws.specs.Tee.{Marks, fresh, After, denied, moved, held, again, drawn, stepped, may_copy, copy_answer, copied, copy_marks, Ask, Step, StepElsewhere, Copy, Told, Stepped, Copied, Memory, branch_of, Counts, none_counted, told_counted, call_counted, counted, most, furthest, StepRefused, StepLaw, CopyLaw, AskLaw, CallLaw, OtherLength, OtherLengths, HistoryLaw, SameAnswers, Held, left_by, unrefused, Transition, EveryHistory, EveryRefusedUnfelt, Ran}

-- ---- lists

nth-take : {A : Type 0} (xs : List A) (s i : ℕ) → i < s → slice_get (take s xs) i ≡ slice_get xs i
nth-take [] zero i h = refl
nth-take [] (suc s) i h = refl
nth-take (x ∷ xs) zero i h = absurd (omega arith)
nth-take (x ∷ xs) (suc s) zero h = refl
nth-take (x ∷ xs) (suc s) (suc i) h = nth-take xs s i (omega arith)

nth-some : {A : Type 0} (xs : List A) (i : ℕ) → i < length xs → (a : A) × (slice_get xs i ≡ Some a)
nth-some [] i h = absurd (omega arith)
nth-some (x ∷ xs) zero h = (x, refl)
nth-some (x ∷ xs) (suc i) h = nth-some xs i (omega arith)

drop_nth : {A : Type 0} (xs : List A) (i : ℕ) (a : A) → slice_get xs i ≡ Some a → drop i xs ≡ a ∷ drop (suc i) xs
drop_nth [] i a e = let z : ◌≡◌ {A = ℕ} 0 1 = cc in absurd (omega arith)
drop_nth (x ∷ xs) zero a e = let z : x ≡ a = cc in ap (λ y. y ∷ xs) z
drop_nth (x ∷ xs) (suc i) a e = drop_nth xs i a e

-- a stored item, read at its place
read-again : {A : Type 0} (st items : List A) (s at k : ℕ) → take s st ≡ take s items → at ≡ k → k < s → k < length items → (a : A) × (slice_get items k ≡ Some a) × (slice_get st at ≡ Some a)
read-again st items s at k h p l lt =
    let f = nth-some items k lt in
    (f.0, f.1, ap (slice_get st) p ∙ sym (nth-take st s k l) ∙ ap (λ xs. slice_get xs k) h ∙ nth-take items s k l ∙ f.1)

take_nth : {A : Type 0} (st items : List A) (i : ℕ) (a : A) → take i st ≡ take i items → i < length st → slice_get items i ≡ Some a → take (suc i) (set st i a) ≡ take (suc i) items
take_nth [] items i a e h q = absurd (omega arith)
take_nth (y ∷ st) [] i a e h q = let z : ◌≡◌ {A = ℕ} 0 1 = cc in absurd (omega arith)
take_nth (y ∷ st) (x ∷ items) zero a e h q = let z : a ≡ x = cc in ap (λ v. v ∷ []) z
take_nth (y ∷ st) (x ∷ items) (suc i) a e h q =
    let z : y ≡ x = cc in
    let t : take i st ≡ take i items = cc in
    let r : take (suc i) (set st i a) ≡ take (suc i) items = take_nth st items i a t (omega arith) q in
    cc

most-below : (n : ℕ) (f : ℕ → ℕ) (s : ℕ) → ((b : ℕ) → b < n → f b ≤ s) → most n f ≤ s
most-below zero f s le = omega arith
most-below (suc n) f s le = omega (arith, most-below n f s (λ b h. le b (omega arith)), le n (omega arith))

most-above : (n : ℕ) (f : ℕ → ℕ) (b : ℕ) → b < n → f b ≤ most n f
most-above zero f b h = absurd (omega arith)
most-above (suc n) f b h =
    ⊎_elim (λ (q : b ≡ n). rw q (omega arith)) (λ (q : b ≡ n → ⊥). omega (arith, most-above n f b (omega arith))) (cases_eq b n)

most-is : (n : ℕ) (f : ℕ → ℕ) (s : ℕ) → ((b : ℕ) → b < n → f b ≤ s) → ((s ≡ 0) ⊎ ((b : ℕ) × (b < n) × (f b ≡ s))) → most n f ≡ s
most-is n f s le (inl z) = omega (arith, most-below n f s le)
most-is n f s le (inr (b, h, e)) = omega (arith, most-below n f s le, most-above n f b h)

-- two lists that are the same from n on
next-drop : {A : Type 0} (xs ys : List A) (n : ℕ) → drop n xs ≡ drop n ys → drop (n + 1) xs ≡ drop (n + 1) ys
next-drop xs ys n h = sym (drop-drop 1 n xs) ∙ ap (drop 1) h ∙ drop-drop 1 n ys

zeros : (b : ℕ) → b < 16 → ◌≡◌ {A = ℕ} (get_or (replicate 16 0) b 0) 0
zeros b h = get_or-replicate 16 b 0 0 h

-- ---- the invariant of a history, by what it has counted

pub record Inv {A : Type 0} (items : List A) (c : ℕ) (found : List A) (x : Counts) (m : Marks) (ss : List (AStep A)) (st : List A) : Type 0 where
  pub places : m.places ≡ c
  pub lent : length st ≡ c
  pub shape : length m.positions ≡ 16
  pub count : m.branches ≡ x.branches
  pub few : m.branches ≤ 16
  pub fits : m.stored ≤ c
  pub known : m.stored ≤ length items
  pub kept : take m.stored st ≡ take m.stored items
  pub unwritten : drop m.stored st ≡ drop m.stored found
  pub ahead : ss ≡ map item (drop m.stored items)
  pub stands : (b : ℕ) → b < m.branches → get_or m.positions b 0 ≡ min (x.steps b) (min (length items) c)
  pub walked : (b : ℕ) → b < m.branches → x.passed b ≡ get_or m.positions b 0
  pub behind : (b : ℕ) → b < m.branches → get_or m.positions b 0 ≤ m.stored
  pub reached : (m.stored ≡ 0) ⊎ ((b : ℕ) × (b < m.branches) × (get_or m.positions b 0 ≡ m.stored))

-- what a step of the branch b leads to
abbrev pub Next : {A : Type 0} → List A → ℕ → List A → Counts → ℕ → After A → Type 0
Next items c found x b a = Inv items c found (told_counted x b (Some (Stepped a.answer))) a.marks a.ahead a.store × StepLaw items c x b (Some (Stepped a.answer))

module _ {A : Type 0} (items : List A) (c : ℕ) (found : List A) where
  -- a call that moves nothing
  still : (x y : Counts) (m : Marks) (ss : List (AStep A)) (st : List A) → Inv items c found x m ss st
      → y.branches ≡ x.branches
      → ((b : ℕ) → b < m.branches → min (y.steps b) (min (length items) c) ≡ min (x.steps b) (min (length items) c))
      → ((b : ℕ) → b < m.branches → y.passed b ≡ x.passed b)
      → Inv items c found y m ss st
  still x y m ss st i nb sb pb = record {
    places = i.places;
    lent = i.lent;
    shape = i.shape;
    count = i.count ∙ sym nb;
    few = i.few;
    fits = i.fits;
    known = i.known;
    kept = i.kept;
    unwritten = i.unwritten;
    ahead = i.ahead;
    stands = λ b h. i.stands b h ∙ sym (sb b h);
    walked = λ b h. pb b h ∙ i.walked b h;
    behind = i.behind;
    reached = i.reached;
  }

  -- a step that gives an item
  gave : (x : Counts) (m : Marks) (ss : List (AStep A)) (st : List A) → Inv items c found x m ss st
      → (b : ℕ) (a : A) → b < m.branches → get_or m.positions b 0 ≡ x.steps b → x.steps b < min (length items) c
      → (s : ℕ) (ss' : List (AStep A)) (st' : List A) → m.stored ≤ s → x.steps b < s → s ≤ c → s ≤ length items
      → ((s ≡ m.stored) ⊎ (s ≡ x.steps b + 1))
      → length st' ≡ c → take s st' ≡ take s items → drop s st' ≡ drop s found → ss' ≡ map item (drop s items)
      → Inv items c found (told_counted x b (Some (Stepped (Ok (Item a))))) (moved m b s) ss' st'
  gave x m ss st i b a hb hp hn s ss' st' l1 l2 l3 l4 way le tk un ah =
      let lt : b < length m.positions = omega (arith, i.shape, i.few) in
      let same : get_or (set m.positions b (get_or m.positions b 0 + 1)) b 0 ≡ get_or m.positions b 0 + 1 = get_or-set_same _ _ _ _ lt in
      record {
        places = i.places;
        lent = le;
        shape = length-set m.positions b _ ∙ i.shape;
        count = i.count;
        few = i.few;
        fits = l3;
        known = l4;
        kept = tk;
        unwritten = un;
        ahead = ah;
        stands = λ b' h. ⊎_elim
            (λ (q : b' ≡ b). rw q (grind (arith, nat_tests)))
            (λ (q : b' ≢ b). let o = get_or-set_other m.positions b b' (get_or m.positions b 0 + 1) 0 q in let w = i.stands b' h in grind (arith, nat_tests))
            (cases_eq b' b);
        walked = λ b' h. ⊎_elim
            (λ (q : b' ≡ b). let w = i.walked b hb in rw q (grind (arith, nat_tests)))
            (λ (q : b' ≢ b). let o = get_or-set_other m.positions b b' (get_or m.positions b 0 + 1) 0 q in let w = i.walked b' h in grind (arith, nat_tests))
            (cases_eq b' b);
        behind = λ b' h. ⊎_elim
            (λ (q : b' ≡ b). rw q (omega arith))
            (λ (q : b' ≢ b). let o = get_or-set_other m.positions b b' (get_or m.positions b 0 + 1) 0 q in omega (arith, i.behind b' h))
            (cases_eq b' b);
        reached = ⊎_elim
            (λ (q : s ≡ m.stored). ⊎_elim
            (λ (z : m.stored ≡ 0). inl (omega arith))
            (λ (z : (y : ℕ) × (y < m.branches) × (get_or m.positions y 0 ≡ m.stored)).
            let ne : z.0 ≢ b = λ y. let g : get_or m.positions z.0 0 ≡ get_or m.positions b 0 = ap (λ v. get_or m.positions v 0) y in omega (arith, z.2) in
            inr (z.0, z.1, get_or-set_other m.positions b z.0 _ 0 ne ∙ z.2 ∙ sym q))
            i.reached)
            (λ (q : s ≡ x.steps b + 1). inr (b, hb, omega arith))
            way;
      }

  again-at : (x : Counts) (m : Marks) (ss : List (AStep A)) (st : List A) → Inv items c found x m ss st → (b : ℕ) (a : A) → b < m.branches → get_or m.positions b 0 < m.stored → get_or m.positions b 0 ≡ x.steps b → x.steps b < min (length items) c
      → slice_get items (x.steps b) ≡ Some a → slice_get st (get_or m.positions b 0) ≡ Some a → Next items c found x b (again m b ss st)
  again-at x m ss st i b a hb h p ln q e =
      subst (λ o. Next items c found x b (record { answer = held o; marks = moved m b m.stored; ahead = ss; store = st })) (sym e) (
        gave x m ss st i b a hb p ln m.stored ss st (omega arith) (omega arith) i.fits i.known (inl refl) i.lent i.kept i.unwritten i.ahead,
        record { missing = λ z. absurd (omega (arith, i.count)); given = λ _ _. (a, q, refl); ended = λ _ z _. absurd (omega arith); full = λ _ z _. absurd (omega arith) },
      )

  on-again : (x : Counts) (m : Marks) (ss : List (AStep A)) (st : List A) → Inv items c found x m ss st → (b : ℕ) → b < m.branches → get_or m.positions b 0 < m.stored → Next items c found x b (again m b ss st)
  on-again x m ss st i b hb h =
      let p : get_or m.positions b 0 ≡ x.steps b = omega (arith, i.stands b hb, i.fits, i.known) in
      let ln : x.steps b < min (length items) c = omega (arith, i.fits, i.known) in
      let f = read-again st items m.stored (get_or m.positions b 0) (x.steps b) i.kept p (omega arith) (omega (arith, i.known)) in
      again-at x m ss st i b f.0 hb h p ln f.1 f.2

  on-drawn : (x : Counts) (m : Marks) (ss : List (AStep A)) (st : List A) → Inv items c found x m ss st → (b : ℕ) → b < m.branches → get_or m.positions b 0 ≡ m.stored → m.stored < c → Next items c found x b (drawn m b ss st)
  on-drawn x m ss st i b hb h l =
      ⊎_elim
      (λ (more : m.stored < length items).
      let p : m.stored ≡ x.steps b = omega (arith, i.stands b hb) in
      let f = nth-some items m.stored more in
      let q : ss ≡ item f.0 ∷ map item (drop (m.stored + 1) items) = i.ahead ∙ ap (map item) (drop_nth items m.stored f.0 f.1) ∙ ap (λ n. item f.0 ∷ map item (drop n items)) (sym (add-one m.stored)) in
      let tk : take (m.stored + 1) (set st m.stored f.0) ≡ take (m.stored + 1) items = rw add-one (take_nth st items m.stored f.0 i.kept (omega (arith, i.lent)) f.1) in
      let un : drop (m.stored + 1) (set st m.stored f.0) ≡ drop (m.stored + 1) found = drop-set-lt (m.stored + 1) st m.stored f.0 (omega arith) ∙ next-drop st found m.stored i.unwritten in
      subst (λ xs. Next items c found x b (drawn m b xs st)) (sym q) (
        gave x m ss st i b f.0 hb (omega arith) (omega arith) (m.stored + 1) _ _ (omega arith) (omega arith) (omega arith) (omega arith) (inr (omega arith)) (length-set st m.stored f.0 ∙ i.lent) tk un refl,
        record { missing = λ z. absurd (omega (arith, i.count)); given = λ _ _. (f.0, ap (slice_get items) (sym p) ∙ f.1, refl); ended = λ _ z _. absurd (omega arith); full = λ _ z _. absurd (omega arith) },
      ))
      (λ (none : length items ≤ m.stored).
      let q : ss ≡ [] = i.ahead ∙ ap (map item) (drop_all m.stored items none) in
      subst (λ xs. Next items c found x b (drawn m b xs st)) (sym q) (
        still x _ m [] st (subst (λ xs. Inv items c found x m xs st) q i) refl
            (λ b' h'. let w = i.stands b hb in let w2 = i.known in ⊎_elim (λ (r : b' ≡ b). rw r (grind (arith, nat_tests))) (λ (r : b' ≢ b). grind (arith, nat_tests)) (cases_eq b' b))
            (λ b' h'. grind (arith, nat_tests)),
        record { missing = λ z. absurd (omega (arith, i.count)); given = λ _ z. absurd (omega (arith, i.stands b hb, i.known)); ended = λ _ _ _. refl; full = λ _ z y. absurd (omega (arith, i.known)) },
      ))
      (cases_lt m.stored (length items))

  on-full : (x : Counts) (m : Marks) (ss : List (AStep A)) (st : List A) → Inv items c found x m ss st → (b : ℕ) → b < m.branches → get_or m.positions b 0 ≡ m.stored → c ≤ m.stored → Next items c found x b (denied StoreFull m ss st)
  on-full x m ss st i b hb h l = (
    still x _ m ss st i refl
        (λ b' h'. let w = i.stands b hb in let w2 = i.fits in let w3 = i.known in ⊎_elim (λ (q : b' ≡ b). rw q (grind (arith, nat_tests))) (λ (q : b' ≢ b). grind (arith, nat_tests)) (cases_eq b' b))
        (λ b' h'. grind (arith, nat_tests)),
    record { missing = λ z. absurd (omega (arith, i.count)); given = λ _ z. absurd (omega (arith, i.stands b hb, i.fits, i.known)); ended = λ _ z y. absurd (omega (arith, i.fits, i.known)); full = λ _ z _. (StoreFull, refl, refl) },
  )

  on-missing : (x : Counts) (m : Marks) (ss : List (AStep A)) (st : List A) → Inv items c found x m ss st → (b : ℕ) → m.branches ≤ b → Next items c found x b (denied NoBranch m ss st)
  on-missing x m ss st i b hb = (
    still x _ m ss st i refl (λ b' h'. grind (arith, nat_tests)) (λ b' h'. grind (arith, nat_tests)),
    record { missing = λ z. (NoBranch, refl, refl); given = λ z _. absurd (omega (arith, i.count)); ended = λ z _ _. absurd (omega (arith, i.count)); full = λ z _ _. absurd (omega (arith, i.count)) },
  )

  on_step : (x : Counts) (m : Marks) (ss : List (AStep A)) (st : List A) → Inv items c found x m ss st → (b : ℕ) → Next items c found x b (stepped m b ss st)
  on_step x m ss st i b =
      cond_both (eqb (length st) m.places) _ _ (Next items c found x b)
      (λ e. cond_both (ltb b m.branches) _ _ (Next items c found x b)
      (λ lb. let hb : b < m.branches = ltb-true _ _ lb in
      cond_both (ltb (get_or m.positions b 0) m.stored) _ _ (Next items c found x b)
      (λ l. on-again x m ss st i b hb (ltb-true _ _ l))
      (λ l. let eq : get_or m.positions b 0 ≡ m.stored = omega (arith, i.behind b hb, ltb-false _ _ l) in
      cond_both (ltb m.stored m.places) _ _ (Next items c found x b)
      (λ q. on-drawn x m ss st i b hb eq (omega (arith, ltb-true _ _ q, i.places)))
      (λ q. on-full x m ss st i b hb eq (omega (arith, ltb-false _ _ q, i.places)))))
      (λ lb. on-missing x m ss st i b (ltb-false _ _ lb)))
      (λ e. absurd (eqb-false _ _ e (i.lent ∙ sym i.places)))

  -- a step that is lent a store of another length
  abbrev pub Elsewhere : Counts → Marks → List (AStep A) → List A → List A → ℕ → After A → Type 0
  Elsewhere x m ss st other b a = Inv items c found (told_counted x b (Some (Stepped a.answer))) a.marks a.ahead st × StepRefused 9 (Some (Stepped a.answer)) × (a.store ≡ other)

  on-other : (x : Counts) (m : Marks) (ss : List (AStep A)) (st other : List A) → Inv items c found x m ss st → (b : ℕ) → length other ≢ c → Elsewhere x m ss st other b (stepped m b ss other)
  on-other x m ss st other i b ne =
      cond_both (eqb (length other) m.places) _ _ (Elsewhere x m ss st other b)
      (λ e. absurd (ne (eqb-true _ _ e ∙ i.places)))
      (λ e. (still x _ m ss st i refl (λ b' h'. grind (arith, nat_tests)) (λ b' h'. grind (arith, nat_tests)), (OtherStore, refl, refl), refl))

  -- a copy
  on-made : (x : Counts) (m : Marks) (ss : List (AStep A)) (st : List A) → Inv items c found x m ss st → (b : ℕ) → b < m.branches → m.branches < 16 → Inv items c found (told_counted {A = A} x b (Some (Copied (Ok m.branches)))) (copied m b) ss st
  on-made x m ss st i b hb h =
      let lt : m.branches < length m.positions = omega (arith, i.shape) in
      let same : get_or (set m.positions m.branches (get_or m.positions b 0)) m.branches 0 ≡ get_or m.positions b 0 = get_or-set_same _ _ _ _ lt in
      record {
        places = i.places;
        lent = i.lent;
        shape = length-set m.positions m.branches _ ∙ i.shape;
        count = ap (λ n. n + 1) i.count;
        few = omega arith;
        fits = i.fits;
        known = i.known;
        kept = i.kept;
        unwritten = i.unwritten;
        ahead = i.ahead;
        stands = λ b' h'. ⊎_elim
            (λ (q : b' ≡ m.branches). let w = i.stands b hb in rw q (grind (arith, nat_tests)))
            (λ (q : b' ≢ m.branches). let o = get_or-set_other m.positions m.branches b' (get_or m.positions b 0) 0 q in let w = i.stands b' (omega arith) in grind (arith, nat_tests))
            (cases_eq b' m.branches);
        walked = λ b' h'. ⊎_elim
            (λ (q : b' ≡ m.branches). let w = i.walked b hb in rw q (grind (arith, nat_tests)))
            (λ (q : b' ≢ m.branches). let o = get_or-set_other m.positions m.branches b' (get_or m.positions b 0) 0 q in let w = i.walked b' (omega arith) in grind (arith, nat_tests))
            (cases_eq b' m.branches);
        behind = λ b' h'. ⊎_elim
            (λ (q : b' ≡ m.branches). rw q (omega (arith, i.behind b hb)))
            (λ (q : b' ≢ m.branches). let o = get_or-set_other m.positions m.branches b' (get_or m.positions b 0) 0 q in omega (arith, i.behind b' (omega arith)))
            (cases_eq b' m.branches);
        reached = ⊎_elim
            (λ (z : m.stored ≡ 0). inl z)
            (λ (z : (y : ℕ) × (y < m.branches) × (get_or m.positions y 0 ≡ m.stored)).
            let ne : z.0 ≢ m.branches = omega (arith, z.1) in
            inr (z.0, omega (arith, z.1), get_or-set_other m.positions m.branches z.0 _ 0 ne ∙ z.2))
            i.reached;
      }

  on-copy-at : (x : Counts) (m : Marks) (ss : List (AStep A)) (st : List A) → Inv items c found x m ss st → (b : ℕ) (t : Bool) → (t ≡ true → (b < m.branches) × (m.branches < 16)) → (t ≡ false → (m.branches ≤ b) ⊎ (16 ≤ m.branches))
      → Inv items c found (told_counted {A = A} x b (Some (Copied (cond t (Ok m.branches) (Err NoBranch))))) (cond t (copied m b) m) ss st × CopyLaw {A = A} x b (Some (Copied (cond t (Ok m.branches) (Err NoBranch))))
  on-copy-at x m ss st i b true y n = (
    on-made x m ss st i b (y refl).0 (y refl).1,
    record { made = λ _ _. ap (λ k. Some (Copied (Ok k))) i.count; missing = λ z. absurd (omega (arith, i.count, (y refl).0)); many = λ z. absurd (omega (arith, i.count, (y refl).1)) },
  )
  on-copy-at x m ss st i b false y n = (
    i,
    record { made = λ h l. absurd (omega (arith, i.count, n refl)); missing = λ _. (NoBranch, refl, refl); many = λ _. (NoBranch, refl, refl) },
  )

  on-copy : (x : Counts) (m : Marks) (ss : List (AStep A)) (st : List A) → Inv items c found x m ss st → (b : ℕ) → Inv items c found (told_counted {A = A} x b (Some (Copied (copy_answer m b)))) (copy_marks m b) ss st × CopyLaw {A = A} x b (Some (Copied (copy_answer m b)))
  on-copy x m ss st i b =
      on-copy-at x m ss st i b (may_copy m.branches b)
      (λ e. let p = and_parts (ltb b m.branches) (ltb m.branches 16) e in (ltb-true _ _ p.0, ltb-true _ _ p.1))
      (λ e. ⊎_elim (λ q. inl (ltb-false _ _ q)) (λ q. inr (ltb-false _ _ q)) (and_cases (ltb b m.branches) (ltb m.branches 16) e))

  -- the furthest branch has passed what is stored
  furthest-is : (x : Counts) (m : Marks) (ss : List (AStep A)) (st : List A) → Inv items c found x m ss st → furthest x ≡ m.stored
  furthest-is x m ss st i = ap (λ n. most n x.passed) (sym i.count) ∙ most-is m.branches x.passed m.stored (λ b h. omega (arith, i.walked b h, i.behind b h)) (⊎_elim (λ (z : m.stored ≡ 0). inl z) (λ (z : (y : ℕ) × (y < m.branches) × (get_or m.positions y 0 ≡ m.stored)). inr (z.0, z.1, i.walked z.0 z.1 ∙ z.2)) i.reached)

  given-as-passed : (x : Counts) (m : Marks) (ss : List (AStep A)) (st : List A) → Inv items c found x m ss st → ss ≡ map item (drop (furthest x) items)
  given-as-passed x m ss st i = i.ahead ∙ ap (λ n. map item (drop n items)) (sym (furthest-is x m ss st i))

  -- the store holds the items that were stored, and behind them what was found there
  stored-in : (x : Counts) (m : Marks) (ss : List (AStep A)) (st : List A) → Inv items c found x m ss st → st ≡ take (furthest x) items ++ drop (furthest x) found
  stored-in x m ss st i =
      rw (furthest-is x m ss st i) (sym (take-append-drop m.stored st) ∙ ap (λ z. z ++ drop m.stored st) i.kept ∙ ap (λ z. take m.stored items ++ z) i.unwritten)

  fitting : (x : Counts) (m : Marks) (ss : List (AStep A)) (st : List A) → Inv items c found x m ss st → furthest x ≤ min (length items) c
  fitting x m ss st i = rw (furthest-is x m ss st i) (omega (arith, i.fits, i.known))

  at-making : (k : ℕ) → k ≤ 16 → length found ≡ c → Inv items c found (none_counted k) (fresh k c) (map item items) found
  at-making k h l = record {
    places = refl;
    lent = l;
    shape = refl;
    count = refl;
    few = h;
    fits = omega arith;
    known = omega arith;
    kept = refl;
    unwritten = refl;
    ahead = refl;
    stands = λ b lb. omega (arith, zeros b (omega arith));
    walked = λ b lb. sym (zeros b (omega arith));
    behind = λ b lb. omega (arith, zeros b (omega arith));
    reached = inl refl;
  }

  -- one call
  on-call : (x : Counts) (m : Marks) (ss : List (AStep A)) (st : List A) → Inv items c found x m ss st → (before : Memory A) → OtherLength c before.ask before.other
      → (after : Memory A) (m' : Marks) (ss' : List (AStep A)) (st' : List A) → after.ask ≡ before.ask → after.told ≡ Some (left_by before.ask m ss st before.other).told
      → m' ≡ (left_by before.ask m ss st before.other).marks → ss' ≡ (left_by before.ask m ss st before.other).ahead → st' ≡ (left_by before.ask m ss st before.other).store → after.other ≡ (left_by before.ask m ss st before.other).other
      → Inv items c found (call_counted x before after) m' ss' st' × CallLaw items c x before after
  on-call x m ss st i before o after m' ss' st' ea et em es est eo =
      let n = on-ask before.ask before.other o in
      rw (em, es, est, et) (n.0, record { asked = ea; other = eo ∙ n.2; told = n.1 })
    where
      on-ask : (q : Ask) (other : List A) → OtherLength c q other
          → Inv items c found (told_counted x (branch_of q) (Some (left_by q m ss st other).told)) (left_by q m ss st other).marks (left_by q m ss st other).ahead (left_by q m ss st other).store
          × AskLaw items c x q (Some (left_by q m ss st other).told) × ((left_by q m ss st other).other ≡ other)
      on-ask (Step b) other o = let n = on_step x m ss st i b in (n.0, n.1, refl)
      on-ask (StepElsewhere b) other o = on-other x m ss st other i b o
      on-ask (Copy b) other o = let n = on-copy x m ss st i b in (n.0, n.1, refl)

-- ---- every history

-- a relation that holds between calls of some kind alone
trace_among : {S B A : Type 0} (R : S → B → A → S → Type 0) (P : B → Type 0) (s t : S) (bs : List B) (cs : List A) → ((j : ℕ) (b : B) → slice_get bs j ≡ Some b → P b)
    → Trace R s bs cs t → Trace (λ u b a v. P b × R u b a v) s bs cs t
trace_among R P s t [] [] p l = l
trace_among R P s t [] (y ∷ cs) p l = absurd l
trace_among R P s t (b ∷ bs) [] p l = absurd l
trace_among R P s t (b ∷ bs) (a ∷ cs) p l = (l.0, (p 0 b refl, l.1), trace_among R P l.0 t bs cs (λ j. p (suc j)) l.2)

module _ {S A : Type 0} (marks : S → Marks) (ahead : S → List (AStep A)) (items : List A) (c : ℕ) (found : List A) where
  abbrev InvAt : Counts → Held S A → Type 0
  InvAt x s = Inv items c found x (marks s.tee) (ahead s.tee) s.store

  abbrev Allowed : Held S A → Memory A → Memory A → Held S A → Type 0
  Allowed s b a t = OtherLength c b.ask b.other × Transition marks ahead s b a t

  one-call : (x : Counts) (s t : Held S A) (b a : Memory A) → InvAt x s → Allowed s b a t → InvAt (call_counted x b a) t × CallLaw items c x b a
  one-call x s t b a i h =
      on-call items c found x (marks s.tee) (ahead s.tee) s.store i b h.0 a (marks t.tee) (ahead t.tee) t.store h.1.asked h.1.told h.1.marked h.1.left h.1.store h.1.other

  inv-along : (x : Counts) (s t : Held S A) (bs cs : List (Memory A)) → InvAt x s → Trace Allowed s bs cs t → InvAt (gathered call_counted x bs cs) t
  inv-along x s t bs cs i l = trace_gathers Allowed call_counted InvAt (λ y u v b a j h. (one-call y u v b a j h).0) x s t bs cs i l

  each-lawful : (x : Counts) (s t : Held S A) (bs cs : List (Memory A)) → InvAt x s → Trace Allowed s bs cs t
      → (j : ℕ) (b a : Memory A) → slice_get bs j ≡ Some b → slice_get cs j ≡ Some a → CallLaw items c (gathered call_counted x (take j bs) (take j cs)) b a
  each-lawful x s t bs cs i l j b a p q =
      let h = trace_at Allowed s t bs cs l j b a p q in
      (one-call (gathered call_counted x (take j bs) (take j cs)) h.found h.left b a (inv-along x s h.found (take j bs) (take j cs) i h.earlier) h.call).1

pub every_history : {S : Type 0} (marks : S → Marks) (A : Type 0) → EveryHistory marks A
every_history marks A ahead s t bs cs k items few em ea o l =
    let c = length s.store in
    let fresh_inv = at-making items c s.store k few refl in
    let i : Inv items c s.store (none_counted k) (marks s.tee) (ahead s.tee) s.store = rw (em, ea) fresh_inv in
    let allowed = trace_among (Transition marks ahead) (λ b. OtherLength c b.ask b.other) s t bs cs o l in
    let e = inv-along marks ahead items c s.store (none_counted k) s t bs cs i allowed in
    record {
      each_made = trace_lengths (Transition marks ahead) s t bs cs l;
      lawful = each-lawful marks ahead items c s.store (none_counted k) s t bs cs i allowed;
      given = fitting items c s.store (counted k bs cs) (marks t.tee) (ahead t.tee) t.store e;
      left = given-as-passed items c s.store (counted k bs cs) (marks t.tee) (ahead t.tee) t.store e;
      stored = stored-in items c s.store (counted k bs cs) (marks t.tee) (ahead t.tee) t.store e;
    }

pub refused_unfelt : {S : Type 0} (marks : S → Marks) (A : Type 0) → EveryRefusedUnfelt marks A
refused_unfelt marks A ahead s t bs cs l = trace_without (Transition marks ahead) unrefused (λ u v b a e h. (h.rests e).0) s t bs cs l

pub ran : {S A : Type 0} (marks : S → Marks) (ahead : S → List (AStep A)) (k : ℕ) (given : List (AStep A)) (found : List A) (befores afters : List (Memory A)) (s t : Held S A) → k ≤ 16
    → marks s.tee ≡ fresh k (length found) → ahead s.tee ≡ given → s.store ≡ found → Trace (Transition marks ahead) s befores afters t
    → Ran marks ahead k given found befores afters t
ran {A = A} marks ahead k given found befores afters s t few em ea es l = record {
  made = s;
  fresh_marks = em;
  all_ahead = ea;
  own_store = es;
  linked = l;
  unfelt = refused_unfelt marks A ahead s t befores afters l;
  law = λ items none others.
      subst (λ z. HistoryLaw k items z befores afters t.store (ahead t.tee)) es
      (every_history marks A ahead s t befores afters k items few (em ∙ ap (λ z. fresh k (length z)) (sym es)) (ea ∙ none) (subst (λ z. OtherLengths (length z) befores) (sym es) others) l);
}

-- ---- two histories

-- two refusals of one number
only_full : (n : Refusal) → refusal_number n ≡ 6 → n ≡ StoreFull
only_full PoolTooLong e = absurd (omega (arith, e))
only_full RowTooLong e = absurd (omega (arith, e))
only_full OtherPool e = absurd (omega (arith, e))
only_full ShortBuffer e = absurd (omega (arith, e))
only_full SliceArguments e = absurd (omega (arith, e))
only_full StoreFull e = refl
only_full TooManyGroups e = absurd (omega (arith, e))
only_full NoBranch e = absurd (omega (arith, e))
only_full OtherStore e = absurd (omega (arith, e))

module _ {A : Type 0} (items : List A) (c : ℕ) where
  same_given : (xs : List A) (i i' : ℕ) (a a' : A) → i ≡ i' → slice_get xs i ≡ Some a → slice_get xs i' ≡ Some a' → a ≡ a'
  same_given xs i i' a a' e p q = let r : Some a ≡ Some a' = sym p ∙ ap (slice_get xs) e ∙ q in cc

  same_steps : (x x' : Counts) (b b' : ℕ) (t t' : Option (Told A)) → StepLaw items c x b t → StepLaw items c x' b' t' → b < x.branches → b' < x'.branches
      → x.steps b ≡ x'.steps b' → t ≡ t'
  same_steps x x' b b' t t' h h' lb lb' e =
      ⊎_elim
      (λ (w : x.steps b < min (length items) c).
      let g = h.given lb (omega arith) in
      let g' = h'.given lb' (omega arith) in
      g.2 ∙ ap (λ z. Some (Stepped (Ok (Item z)))) (same_given items _ _ _ _ e g.1 g'.1) ∙ sym g'.2)
      (λ (w : min (length items) c ≤ x.steps b). ⊎_elim
      (λ (v : length items < c). h.ended lb (omega arith) v ∙ sym (h'.ended lb' (omega arith) v))
      (λ (v : c ≤ length items).
      let f = h.full lb (omega arith) v in
      let f' = h'.full lb' (omega arith) v in
      f.1 ∙ ap (λ z. Some (Stepped (Err (Refused z)))) (only_full f.0 f.2 ∙ sym (only_full f'.0 f'.2)) ∙ sym f'.1)
      (cases_lt (length items) c))
      (cases_lt (x.steps b) (min (length items) c))

pub same_answers : (A : Type 0) → SameAnswers A
same_answers A k k' items found found' bs cs bs' cs' store store' ss ss' j j' b b' x a x' a' len h h' p q p' q' e e' lb lb' st =
    let y = counted k (take j bs) (take j cs) in
    let y' = counted k' (take j' bs') (take j' cs') in
    let t = (h.lawful j x a p q).told in
    let t' = (h'.lawful j' x' a' p' q').told in
    same_steps items (length found) y y' b b' a.told a'.told
    (subst (λ z. AskLaw items (length found) y z a.told) e t)
    (subst (λ z. AskLaw items z y' (Step b') a'.told) len (subst (λ z. AskLaw items (length found') y' z a'.told) e' t')) lb lb' st
