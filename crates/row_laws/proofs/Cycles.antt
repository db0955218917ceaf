-- The cycles of permutations: a state of them stands at a lawful row, and a turn leads to the next one.
use Rattle.std.proofs.Common.{◌≡◌, ℕ, zero, suc, ◌+◌, ◌-◌, ◌<◌, ◌≤◌, Bool, true, false, cond, not, eqb, ltb, List, [], ◌∷◌, ◌++◌, length, get_or, take, drop, set, Some, None, sum_by, Option, unwrap_or, sym, refl, ap, ◌∙◌, subst, ⊎_elim, append_assoc, arith, drop-cons}
use borrow.Rule.Slice.PartMut.{mid_of, put_mid}
use Rattle.std.specs.List.{swap}
use Rattle.std.proofs.lemmas.List.Sums.{sum_by-cons, sum_by-append, sum_by-take-drop, sum_by-set}
use Rattle.std.proofs.lemmas.List.{length-take-le, length-drop, length-set, length-append, get_or-take, get_or-drop, get_or_append_left, get_or-append_right, get_or-set_same, get_or-set_other, take-take, drop-set-lt, drop-take, drop-drop, ext_get_or}
use Rattle.std.proofs.lemmas.List.Edits.{swap_is, swapped_from_swap}
use Rattle.std.proofs.lemmas.Bool.{ltb-true, ltb-false, lt-ltb, eqb-true, eq-eqb, and_parts, and_from, or_cases, or_left, or_right, not-true, both_ways, cond-true, cond-false, cases_Bool, cases_lt, cases_eq, cases_order}
use Rattle.row_laws.specs.Lawful.{PermutationRow}
use Rattle.row_laws.specs.Lists.{among, differing, rising}
use Rattle.row_laws.specs.Successor.{Agree, Next, Last, First}
use Rattle.row_laws.specs.Cycles.{row_length, above, Cycling, rotated, CyclesStepped, Climbs, Scanned}
use Rattle.row_laws.proofs.Places.{rising_at, rising_from, among_at, among_from, differing_at, differing_from}

-- ---- how many are above a number

counted : (b : Bool) → b ≡ true → ◌≡◌ {A = ℕ} (cond b 1 0) 1
counted b e = cond-true {A = ℕ} b 1 0 e

uncounted : (b : Bool) → b ≡ false → ◌≡◌ {A = ℕ} (cond b 1 0) 0
uncounted b e = cond-false {A = ℕ} b 1 0 e

above_le : (v : ℕ) (xs : List ℕ) → above v xs ≤ length xs
above_le v [] = omega arith
above_le v (x ∷ xs) = ⊎_elim
    (λ t. omega (arith, above_le v xs, counted (ltb v x) t))
    (λ f. omega (arith, above_le v xs, uncounted (ltb v x) f))
    (cases_Bool (ltb v x))

above_all : (v : ℕ) (xs : List ℕ) → ((k : ℕ) → k < length xs → v < get_or xs k 0) → above v xs ≡ length xs
above_all v [] h = refl
above_all v (x ∷ xs) h = omega (arith, above_all v xs (λ k l. h (suc k) (omega arith)), counted (ltb v x) (lt-ltb v x (h 0 (omega arith))))

none_above : (v : ℕ) (xs : List ℕ) → above v xs ≡ 0 → (k : ℕ) → k < length xs → get_or xs k 0 ≤ v
none_above v [] h k l = absurd (omega arith)
none_above v (x ∷ xs) h zero l = ⊎_elim
    (λ t. absurd (omega (arith, counted (ltb v x) t)))
    (λ f. ltb-false v x f)
    (cases_Bool (ltb v x))
none_above v (x ∷ xs) h (suc k) l = none_above v xs (omega arith) k (omega arith)

-- in rising numbers those above v are the last
abbrev Rises : List ℕ → Type 0
Rises xs = (j k : ℕ) → j < k → k < length xs → get_or xs j 0 < get_or xs k 0

last_above : (v : ℕ) (xs : List ℕ) → Rises xs → (k : ℕ) → k < length xs → length xs ≤ k + above v xs → v < get_or xs k 0
last_above v [] h k l e = absurd (omega arith)
last_above v (x ∷ xs) h zero l e = ⊎_elim
    (λ t. ltb-true v x t)
    (λ f. absurd (omega (arith, above_le v xs, uncounted (ltb v x) f)))
    (cases_Bool (ltb v x))
last_above v (x ∷ xs) h (suc k) l e = ⊎_elim
    (λ t. omega (arith, ltb-true v x t, h 0 (suc k) (omega arith) l))
    (λ f. last_above v xs (λ i j a b. h (suc i) (suc j) (omega arith) (omega arith)) k (omega arith) (omega (arith, uncounted (ltb v x) f)))
    (cases_Bool (ltb v x))

above_last : (v : ℕ) (xs : List ℕ) → Rises xs → (k : ℕ) → k < length xs → v < get_or xs k 0 → length xs ≤ k + above v xs
above_last v [] h k l lt = omega arith
above_last v (x ∷ xs) h zero l lt =
    omega (arith, above_all v (x ∷ xs) (from lt))
  where
    from : v < x → (k : ℕ) → k < length (x ∷ xs) → v < get_or (x ∷ xs) k 0
    from a zero b = a
    from a (suc k) b = omega (arith, h 0 (suc k) (omega arith) b)
above_last v (x ∷ xs) h (suc k) l lt = omega (arith, above_last v xs (λ i j a b. h (suc i) (suc j) (omega arith) (omega arith)) k (omega arith) lt)

-- ---- the numbers from a place on

module _ (n : ℕ) (xs : List ℕ) (long : n ≤ length xs) where
  tail_long : (i : ℕ) → length (drop i (take n xs)) ≡ n - i
  tail_long i = omega (arith, length-drop i (take n xs), length-take-le n xs long)

  tail_at : (i k : ℕ) → i ≤ k → k < n → get_or (drop i (take n xs)) (k - i) 0 ≡ get_or xs k 0
  tail_at i k a b =
      let e : i + (k - i) ≡ k = omega arith in
      get_or-drop i (take n xs) (k - i) 0 ∙ ap (λ z. get_or (take n xs) z 0) e ∙ get_or-take n xs k 0 b

  tail_in : (i k : ℕ) → i + k < n → get_or (drop i (take n xs)) k 0 ≡ get_or xs (i + k) 0
  tail_in i k b = get_or-drop i (take n xs) k 0 ∙ get_or-take n xs (i + k) 0 b

  rises_from : (i : ℕ) → Climbs i n xs → Rises (drop i (take n xs))
  rises_from i h j k a b =
      let k< : i + k < n = omega (arith, tail_long i) in
      omega (arith, tail_in i j (omega arith), tail_in i k k<, h (i + j) (i + k) (omega arith) (omega arith) k<)

  climbs_from : (i : ℕ) → rising (drop i (take n xs)) ≡ true → Climbs i n xs
  climbs_from i h j k a b c =
      omega (arith, tail_at i j a (omega arith), tail_at i k (omega arith) c, rising_at (drop i (take n xs)) h (j - i) (k - i) (omega arith) (omega (arith, tail_long i)))

  climbs_to : (i : ℕ) → Climbs i n xs → rising (drop i (take n xs)) ≡ true
  climbs_to i h = rising_from (drop i (take n xs)) (rises_from i h)

  -- what climbs behind k is above it
  full : (i k : ℕ) → Climbs i n xs → i ≤ k → k < n → above (get_or xs k 0) (drop (suc k) (take n xs)) ≡ n - suc k
  full i k h a b =
      above_all (get_or xs k 0) (drop (suc k) (take n xs))
      (λ j l. let j< : suc k + j < n = omega (arith, tail_long (suc k)) in omega (arith, tail_in (suc k) j j<, h k (suc k + j) a (omega arith) j<))
      ∙ tail_long (suc k)

  none_later : (v k : ℕ) → above v (drop k (take n xs)) ≡ 0 → (j : ℕ) → k ≤ j → j < n → get_or xs j 0 ≤ v
  none_later v k h j a b =
      omega (arith, tail_at k j a b, none_above v (drop k (take n xs)) h (j - k) (omega (arith, tail_long k)))

  last_are : (v i k : ℕ) → Climbs i n xs → i ≤ k → k < n → n ≤ k + above v (drop i (take n xs)) → v < get_or xs k 0
  last_are v i k h a b e =
      omega (arith, tail_at i k a b, last_above v (drop i (take n xs)) (rises_from i h) (k - i) (omega (arith, tail_long i)) (omega (arith, tail_long i)))

  are_last : (v i k : ℕ) → Climbs i n xs → i ≤ k → k < n → v < get_or xs k 0 → n ≤ k + above v (drop i (take n xs))
  are_last v i k h a b e =
      omega (arith, tail_long i, above_last v (drop i (take n xs)) (rises_from i h) (k - i) (omega (arith, tail_long i)) (omega (arith, tail_at i k a b)))

  differ : differing (take n xs) ≡ true → (i k : ℕ) → i < k → k < n → get_or xs i 0 ≡ get_or xs k 0 → ⊥
  differ h i k a b e =
      differing_at (take n xs) h i k a (omega (arith, length-take-le n xs long)) (get_or-take n xs i 0 (omega arith) ∙ e ∙ sym (get_or-take n xs k 0 b))

-- ---- the same numbers in another order

abbrev Same : List ℕ → List ℕ → Type 0
Same xs ys = (f : ℕ → ℕ) → sum_by f xs ≡ sum_by f ys

same_above : (v : ℕ) (xs ys : List ℕ) → Same xs ys → above v xs ≡ above v ys
same_above v xs ys s = by_sum xs ∙ s (λ x. cond (ltb v x) 1 0) ∙ sym (by_sum ys)
  where
    by_sum : (zs : List ℕ) → above v zs ≡ sum_by (λ x. cond (ltb v x) 1 0) zs
    by_sum [] = refl
    by_sum (z ∷ zs) = omega (arith, by_sum zs, sum_by-cons (λ x. cond (ltb v x) 1 0) z zs)

abbrev occurs : ℕ → List ℕ → ℕ
occurs v xs = sum_by (λ x. cond (eqb v x) 1 0) xs

occurs_cons : (v x : ℕ) (xs : List ℕ) → occurs v (x ∷ xs) ≡ cond (eqb v x) 1 0 + occurs v xs
occurs_cons v x xs = sum_by-cons (λ x. cond (eqb v x) 1 0) x xs

occurs_from : (v : ℕ) (xs : List ℕ) → among v xs ≡ true → 1 ≤ occurs v xs
occurs_from v [] h = absurd (both_ways false refl h)
occurs_from v (x ∷ xs) h = ⊎_elim
    (λ e. omega (arith, occurs_cons v x xs, counted (eqb v x) e))
    (λ l. omega (arith, occurs_cons v x xs, occurs_from v xs l))
    (or_cases (eqb v x) (among v xs) h)

occurs_to : (v : ℕ) (xs : List ℕ) → 1 ≤ occurs v xs → among v xs ≡ true
occurs_to v [] h = absurd (omega arith)
occurs_to v (x ∷ xs) h = ⊎_elim
    (λ e. or_left (eqb v x) (among v xs) e)
    (λ f. or_right (eqb v x) (among v xs) (occurs_to v xs (omega (arith, occurs_cons v x xs, uncounted (eqb v x) f))))
    (cases_Bool (eqb v x))

once_from : (xs : List ℕ) → differing xs ≡ true → (v : ℕ) → occurs v xs ≤ 1
once_from [] h v = omega arith
once_from (x ∷ xs) h v =
    let p = and_parts (not (among x xs)) (differing xs) h in
    ⊎_elim
    (λ e. ⊎_elim
    (λ later. absurd (both_ways (among x xs) (not-true (among x xs) p.0) (subst (λ z. among z xs ≡ true) (eqb-true v x e) (occurs_to v xs later))))
    (λ never. omega (arith, occurs_cons v x xs, counted (eqb v x) e))
    (cases_lt 0 (occurs v xs)))
    (λ f. omega (arith, occurs_cons v x xs, uncounted (eqb v x) f, once_from xs p.1 v))
    (cases_Bool (eqb v x))

once_to : (xs : List ℕ) → ((v : ℕ) → occurs v xs ≤ 1) → differing xs ≡ true
once_to [] h = refl
once_to (x ∷ xs) h =
    and_from (not (among x xs)) (differing xs)
    (⊎_elim
    (λ t. absurd (omega (arith, h x, occurs_cons x x xs, counted (eqb x x) (eq-eqb x x refl), occurs_from x xs t)))
    (λ f. ap not f)
    (cases_Bool (among x xs)))
    (once_to xs (λ v. omega (arith, h v, occurs_cons v x xs)))

same_among : (v : ℕ) (xs ys : List ℕ) → Same xs ys → among v ys ≡ true → among v xs ≡ true
same_among v xs ys s h = occurs_to v xs (omega (arith, occurs_from v ys h, s (λ x. cond (eqb v x) 1 0)))

same_differing : (xs ys : List ℕ) → Same xs ys → differing ys ≡ true → differing xs ≡ true
same_differing xs ys s h = once_to xs (λ v. omega (arith, once_from ys h v, s (λ x. cond (eqb v x) 1 0)))

-- where two agree before j, the same numbers stand behind j
same_behind : (n j : ℕ) (xs ys : List ℕ) → n ≤ length xs → n ≤ length ys → j ≤ n → Same (take n ys) (take n xs) → Agree j xs ys → Same (drop j (take n ys)) (drop j (take n xs))
same_behind n j xs ys a b c s g f =
    let p : take j ys ≡ take j xs =
    ext_get_or 0 (take j ys) (take j xs) (omega (arith, length-take-le j ys (omega arith), length-take-le j xs (omega arith)))
    (λ k l. let k< : k < j = omega (arith, length-take-le j ys (omega arith)) in get_or-take j ys k 0 k< ∙ sym (g k k<) ∙ sym (get_or-take j xs k 0 k<)) in
    let q : take j (take n ys) ≡ take j (take n xs) = take-take j n ys c ∙ p ∙ sym (take-take j n xs c) in
    omega (arith, sum_by-take-drop f (take n ys) j, sum_by-take-drop f (take n xs) j, s f, ap (sum_by f) q)

-- ---- where the places of a lawful row stand

-- a place of a row that agrees so far stands at that place or later
stands : (n r : ℕ) (xs y : List ℕ) (m : ℕ) → n ≤ length xs → ((v : ℕ) → v < n → among v (take n xs) ≡ true) → PermutationRow n r y → m < r → Agree m xs y
    → (k : ℕ) × (m ≤ k) × (k < n) × (get_or xs k 0 ≡ get_or y m 0)
stands n r xs y m long every law m< g =
    let p = among_at (take n xs) (get_or y m 0) (every (get_or y m 0) (law.below m m<)) in
    let k< : p.0 < n = omega (arith, p.1, length-take-le n xs long) in
    let e : get_or xs p.0 0 ≡ get_or y m 0 = sym (get_or-take n xs p.0 0 k<) ∙ p.2 in
    (p.0, ⊎_elim (λ lt. absurd (law.differing p.0 m lt m< (sym (g p.0 lt) ∙ e))) (λ ge. ge) (cases_lt p.0 m), k<, e)

highest : (n r : ℕ) (xs cs y : List ℕ) (m : ℕ) → n ≤ length xs → Cycling n r xs cs → get_or cs m 0 ≡ 1 → PermutationRow n r y → m < r → Agree m xs y → get_or y m 0 ≤ get_or xs m 0
highest n r xs cs y m long c one law m< g =
    let p = stands n r xs y m long c.every law m< g in
    ⊎_elim
    (λ e. omega (arith, p.3, ap (λ z. get_or xs z 0) e))
    (λ ne. omega (arith, p.3, none_later n xs long (get_or xs m 0) (suc m) (omega (arith, c.counters m m<)) p.0 (⊎_elim (λ lt. absurd (omega (arith, p.1))) (λ gt. omega arith) ne) p.2))
    (cases_order p.0 m)

lowest : (n r i : ℕ) (xs cs y : List ℕ) (m : ℕ) → n ≤ length xs → Cycling n r xs cs → Climbs i n xs → i ≤ m → PermutationRow n r y → m < r → Agree m xs y → get_or xs m 0 ≤ get_or y m 0
lowest n r i xs cs y m long c h a law m< g =
    let p = stands n r xs y m long c.every law m< g in
    ⊎_elim
    (λ e. omega (arith, p.3, ap (λ z. get_or xs z 0) e))
    (λ ne. omega (arith, p.3, h m p.0 a (⊎_elim (λ lt. absurd (omega (arith, p.1))) (λ gt. omega arith) ne) p.2))
    (cases_order p.0 m)

-- ---- states

pub cycling_start : (n r : ℕ) (xs cs : List ℕ) → r ≤ n → n ≤ length xs → ((k : ℕ) → k < n → get_or xs k 0 ≡ k) → ((i : ℕ) → i < r → get_or cs i 0 ≡ n - i) → Cycling n r xs cs
cycling_start n r xs cs a long h g =
    let len = length-take-le n xs long in
    let climbs : Climbs 0 n xs = λ j k _ b c. omega (arith, h j (omega arith), h k c) in
    record {
      every = λ v l. subst (λ z. among z (take n xs) ≡ true) (get_or-take n xs v 0 l ∙ h v l) (among_from (take n xs) v (omega arith));
      below = λ k l. omega (arith, h k l);
      apart = differing_from (take n xs) (λ i k b c e.
          let k< : k < n = omega arith in
          let i< : i < n = omega arith in
          omega (arith, get_or-take n xs i 0 i<, get_or-take n xs k 0 k<, h i i<, h k k<));
      climbing = climbs_to n xs long r (λ j k b c d. climbs j k (omega arith) c d);
      counters = λ i l. omega (arith, g i l, full n xs long 0 i climbs (omega arith) (omega arith));
    }

pub cycling_first : (n r : ℕ) (xs : List ℕ) → r ≤ n → ((k : ℕ) → k < n → get_or xs k 0 ≡ k) → First (PermutationRow n r) r xs
cycling_first n r xs a h y law m m< g = ⊎_elim
    (λ lt. absurd (law.differing (get_or y m 0) m (omega (arith, h m (omega arith))) m<
    (sym (g (get_or y m 0) (omega (arith, h m (omega arith)))) ∙ h (get_or y m 0) (law.below m m<))))
    (λ ge. ge)
    (cases_lt (get_or y m 0) (get_or xs m 0))

pub cycling_row : (n r : ℕ) (xs cs : List ℕ) → r ≤ n → n ≤ length xs → Cycling n r xs cs → PermutationRow n r (take r xs)
cycling_row n r xs cs a long c =
    record {
      long = length-take-le r xs (omega arith);
      below = λ i l. omega (arith, get_or-take r xs i 0 l, c.below i (omega arith));
      differing = λ i k l l' e. differ n xs long c.apart i k l (omega arith) (sym (get_or-take r xs i 0 (omega arith)) ∙ e ∙ get_or-take r xs k 0 l');
    }

-- the same numbers with another one at i, rising behind it
recycled : (n r i : ℕ) (xs ys cs ds : List ℕ) → r ≤ n → n ≤ length xs → n ≤ length ys → i < r
    → Cycling n r xs cs → Climbs (suc i) n xs → Same (take n ys) (take n xs) → Agree i xs ys
    → ((k : ℕ) → (k ≡ i → ⊥) → get_or ds k 0 ≡ get_or cs k 0)
    → Climbs (suc i) n ys → get_or ds i 0 ≡ above (get_or ys i 0) (drop (suc i) (take n ys)) + 1
    → Cycling n r ys ds
recycled n r i xs ys cs ds r≤n long long' i< c climbs s g kept climbs' here =
    record {
      every = λ v l. same_among v (take n ys) (take n xs) s (c.every v l);
      below = below;
      apart = same_differing (take n ys) (take n xs) s c.apart;
      climbing = climbs_to n ys long' r (λ j k a b d. climbs' j k (omega arith) b d);
      counters = λ k l. ⊎_elim
          (λ e. subst (λ z. get_or ds z 0 ≡ above (get_or ys z 0) (drop (suc z) (take n ys)) + 1) (sym e) here)
          (λ ne. ⊎_elim
          (λ lt.
          let same : above (get_or ys k 0) (drop (suc k) (take n ys)) ≡ above (get_or ys k 0) (drop (suc k) (take n xs)) =
          same_above (get_or ys k 0) (drop (suc k) (take n ys)) (drop (suc k) (take n xs)) (same_behind n (suc k) xs ys long long' (omega arith) s (λ j m. g j (omega arith))) in
          let same' : above (get_or xs k 0) (drop (suc k) (take n xs)) ≡ above (get_or ys k 0) (drop (suc k) (take n xs)) = ap (λ z. above z (drop (suc k) (take n xs))) (g k lt) in
          omega (arith, kept k (λ e. omega arith), c.counters k l))
          (λ gt. omega (arith, kept k (λ e. omega arith), c.counters k l, full n xs long (suc i) k climbs (omega arith) (omega arith), full n ys long' (suc i) k climbs' (omega arith) (omega arith)))
          ne)
          (cases_order k i);
    }
  where
    below : (k : ℕ) → k < n → get_or ys k 0 < n
    below k l =
        let at : among (get_or ys k 0) (take n ys) ≡ true =
        subst (λ z. among z (take n ys) ≡ true) (get_or-take n ys k 0 l) (among_from (take n ys) k (omega (arith, length-take-le n ys long'))) in
        let p = among_at (take n xs) (get_or ys k 0) (same_among (get_or ys k 0) (take n xs) (take n ys) (λ f. sym (s f)) at) in
        let j< : p.0 < n = omega (arith, p.1, length-take-le n xs long) in
        omega (arith, p.2, get_or-take n xs p.0 0 j<, c.below p.0 j<)

-- ---- a rotation

module _ (i n : ℕ) (xs : List ℕ) (i< : i < n) (long : n ≤ length xs) where
  front_long : length (take i xs) ≡ i
  front_long = length-take-le i xs (omega arith)

  rotated_long : length (rotated i n xs) ≡ length xs
  rotated_long =
      let t = drop (suc i) (take n xs) in
      omega (arith, front_long, tail_long n xs long (suc i), length-append (take i xs) (t ++ (get_or xs i 0 ∷ drop n xs)), length-append t (get_or xs i 0 ∷ drop n xs), length-drop n xs)

  rotated_front : Agree i (rotated i n xs) xs
  rotated_front k l = get_or_append_left (take i xs) (drop (suc i) (take n xs) ++ (get_or xs i 0 ∷ drop n xs)) 0 k (omega (arith, front_long)) ∙ get_or-take i xs k 0 l

  behind_front : (k : ℕ) → i ≤ k → get_or (rotated i n xs) k 0 ≡ get_or (drop (suc i) (take n xs) ++ (get_or xs i 0 ∷ drop n xs)) (k - i) 0
  behind_front k a = get_or-append_right (take i xs) (drop (suc i) (take n xs) ++ (get_or xs i 0 ∷ drop n xs)) i k 0 front_long a

  rotated_moved : (k : ℕ) → i ≤ k → suc k < n → get_or (rotated i n xs) k 0 ≡ get_or xs (suc k) 0
  rotated_moved k a b =
      let e : k - i ≡ suc k - suc i = omega arith in
      behind_front k a
      ∙ get_or_append_left (drop (suc i) (take n xs)) (get_or xs i 0 ∷ drop n xs) 0 (k - i) (omega (arith, tail_long n xs long (suc i)))
      ∙ ap (λ z. get_or (drop (suc i) (take n xs)) z 0) e
      ∙ tail_at n xs long (suc i) (suc k) (omega arith) b

  behind_moved : (k : ℕ) → n ≤ suc k → get_or (rotated i n xs) k 0 ≡ get_or (get_or xs i 0 ∷ drop n xs) (k - i - (n - suc i)) 0
  behind_moved k a =
      behind_front k (omega arith)
      ∙ get_or-append_right (drop (suc i) (take n xs)) (get_or xs i 0 ∷ drop n xs) (n - suc i) (k - i) 0 (tail_long n xs long (suc i)) (omega arith)

  rotated_last : (k : ℕ) → suc k ≡ n → get_or (rotated i n xs) k 0 ≡ get_or xs i 0
  rotated_last k a =
      let e : k - i - (n - suc i) ≡ 0 = omega arith in
      behind_moved k (omega arith) ∙ ap (λ z. get_or (get_or xs i 0 ∷ drop n xs) z 0) e

  rotated_rest : (k : ℕ) → n ≤ k → get_or (rotated i n xs) k 0 ≡ get_or xs k 0
  rotated_rest k a =
      let e : k - i - (n - suc i) ≡ suc (k - n) = omega arith in
      let d : n + (k - n) ≡ k = omega arith in
      behind_moved k (omega arith) ∙ ap (λ z. get_or (get_or xs i 0 ∷ drop n xs) z 0) e ∙ get_or-drop n xs (k - n) 0 ∙ ap (λ z. get_or xs z 0) d

  -- the part from i to n, turned left by one
  pub rotated_is : (ys : List ℕ) → ys ≡ drop 1 (mid_of i (n - i) xs) ++ take 1 (mid_of i (n - i) xs) → put_mid i (n - i) xs ys ≡ rotated i n xs
  rotated_is ys e =
      let t = drop (suc i) (take n xs) in
      let a = get_or xs i 0 in
      let whole : i + (n - i) ≡ n = omega arith in
      let split : drop i (take n xs) ≡ a ∷ t =
      drop-cons (take n xs) i 0 (omega (arith, length-take-le n xs long)) ∙ ap (λ z. z ∷ t) (get_or-take n xs i 0 i<) in
      let part : mid_of i (n - i) xs ≡ a ∷ t = sym (drop-take i (n - i) xs) ∙ ap (λ z. drop i (take z xs)) whole ∙ split in
      let turned : ys ≡ t ++ (a ∷ []) = e ∙ ap (λ z. drop 1 z ++ take 1 z) part in
      let behind : drop (n - i) (drop i xs) ≡ drop n xs = drop-drop (n - i) i xs ∙ ap (λ z. drop z xs) whole in
      ap (λ z. take i xs ++ (z ++ drop (n - i) (drop i xs))) turned ∙ ap (λ z. take i xs ++ ((t ++ (a ∷ [])) ++ z)) behind
      ∙ ap (λ z. take i xs ++ z) (append_assoc t (a ∷ []) (drop n xs))

  rotated_same : Same (take n (rotated i n xs)) (take n xs)
  rotated_same f =
      let t = drop (suc i) (take n xs) in
      let a = get_or xs i 0 in
      let rest : drop n (rotated i n xs) ≡ drop n xs =
      ext_get_or 0 (drop n (rotated i n xs)) (drop n xs) (omega (arith, length-drop n (rotated i n xs), length-drop n xs, rotated_long))
      (λ k l. get_or-drop n (rotated i n xs) k 0 ∙ rotated_rest (n + k) (omega arith) ∙ sym (get_or-drop n xs k 0)) in
      let split : drop i (take n xs) ≡ a ∷ t =
      drop-cons (take n xs) i 0 (omega (arith, length-take-le n xs long)) ∙ ap (λ z. z ∷ t) (get_or-take n xs i 0 i<) in
      omega (
        arith,
        sum_by-take-drop f (rotated i n xs) n,
        ap (sum_by f) rest,
        sum_by-append f (take i xs) (t ++ (a ∷ drop n xs)),
        sum_by-append f t (a ∷ drop n xs),
        sum_by-cons f a (drop n xs),
        sum_by-take-drop f (take n xs) i,
        ap (sum_by f) (take-take i n xs (omega arith)),
        ap (sum_by f) split,
        sum_by-cons f a t,
      )

-- ---- a turn

pub scanned_none : (n r : ℕ) (xs cs : List ℕ) → n ≤ length xs → Cycling n r xs cs → Scanned n r r xs cs xs cs
scanned_none n r xs cs long c =
    record {
      within = omega arith;
      whole = c;
      behind = climbs_from n xs long r c.climbing;
      front = λ k l. refl;
      counts = λ k l. refl;
      out = λ k a b. absurd (omega arith);
    }

-- a counter that ran out: its number goes behind the others
pub scanned_more : (n r h i : ℕ) (xs0 cs0 xs cs ys : List ℕ) (v : ℕ) → r ≤ n → n ≤ length xs → r ≤ length cs → h ≡ suc i
    → Scanned n r h xs0 cs0 xs cs → get_or cs i 0 ≡ 1 → ys ≡ rotated i n xs → Scanned n r i xs0 cs0 ys (set (set cs i v) i (n - i))
scanned_more n r h i xs0 cs0 xs cs ys v r≤n long longc e s one is =
    subst (λ zs. Scanned n r i xs0 cs0 zs ds) (sym is)
    (record {
      within = omega (arith, s.within);
      whole = recycled n r i xs zs cs ds r≤n long long' i<r s.whole climbs (rotated_same i n xs i<n long) (λ k l. sym (rotated_front i n xs i<n long k l)) kept
          (λ j k a b c. climbs' j k (omega arith) b c) (omega (arith, here, full n zs long' i i climbs' (omega arith) i<n));
      behind = climbs';
      front = λ k l. s.front k (omega arith) ∙ sym (rotated_front i n xs i<n long k l);
      counts = λ k l. s.counts k (omega arith) ∙ sym (kept k (λ f. omega arith));
      out = λ k a b. ⊎_elim
          (λ f. ap (λ z. get_or cs0 z 0) f ∙ s.counts i (omega arith) ∙ one)
          (λ f. s.out k (⊎_elim (λ z. absurd (f (omega arith))) (λ z. omega arith) (cases_lt k (suc i))) b)
          (cases_eq k i);
    })
  where
    zs : List ℕ
    zs = rotated i n xs

    ds : List ℕ
    ds = set (set cs i v) i (n - i)

    i<r : i < r
    i<r = omega (arith, s.within)

    i<n : i < n
    i<n = omega (arith, i<r)

    long' : n ≤ length zs
    long' = omega (arith, rotated_long i n xs i<n long)

    climbs : Climbs (suc i) n xs
    climbs j k a b c = s.behind j k (omega arith) b c

    above_none : above (get_or xs i 0) (drop (suc i) (take n xs)) ≡ 0
    above_none = omega (arith, s.whole.counters i i<r)

    climbs' : Climbs i n zs
    climbs' j k a b c =
        let p = rotated_moved i n xs i<n long j a (omega arith) in
        ⊎_elim
        (λ l. omega (arith, p, rotated_moved i n xs i<n long k (omega arith) l, climbs (suc j) (suc k) (omega arith) (omega arith) l))
        (λ l. ⊎_elim
        (λ f. absurd (differ n xs long s.whole.apart i (suc j) (omega arith) (omega arith) (sym f)))
        (λ f. omega (arith, p, rotated_last i n xs i<n long k (omega arith), none_later n xs long (get_or xs i 0) (suc i) above_none (suc j) (omega arith) (omega arith)))
        (cases_eq (get_or xs (suc j) 0) (get_or xs i 0)))
        (cases_lt (suc k) n)

    kept : (k : ℕ) → (k ≡ i → ⊥) → get_or ds k 0 ≡ get_or cs k 0
    kept k ne = get_or-set_other (set cs i v) i k (n - i) 0 ne ∙ get_or-set_other cs i k v 0 ne

    here : get_or ds i 0 ≡ n - i
    here = get_or-set_same (set cs i v) i (n - i) 0 (omega (arith, i<r, length-set cs i v))

-- all counters ran out
pub scanned_all : (n r h : ℕ) (xs0 cs0 xs cs : List ℕ) → n ≤ length xs0 → h ≡ 0 → Cycling n r xs0 cs0 → Scanned n r h xs0 cs0 xs cs → Last (PermutationRow n r) r xs0
scanned_all n r h xs0 cs0 xs cs long e c s y law m m< g = highest n r xs0 cs0 y m long c (s.out m (omega arith) m<) law m< g

-- the counters, as the code reads them
pub counter_low : (n r h i : ℕ) (xs0 cs0 xs cs : List ℕ) → h ≡ suc i → Scanned n r h xs0 cs0 xs cs → 1 ≤ get_or cs i 0
counter_low n r h i xs0 cs0 xs cs e s = omega (arith, s.whole.counters i (omega (arith, s.within)))

pub counter_high : (n r h i : ℕ) (xs0 cs0 xs cs : List ℕ) → n ≤ length xs → h ≡ suc i → r ≤ n → Scanned n r h xs0 cs0 xs cs → get_or cs i 0 ≤ n - i
counter_high n r h i xs0 cs0 xs cs long e a s =
    omega (arith, s.within, s.whole.counters i (omega (arith, s.within)), above_le (get_or xs i 0) (drop (suc i) (take n xs)), tail_long n xs long (suc i))

swapped_same : (n i j : ℕ) (xs ys : List ℕ) → i < j → j < n → n ≤ length xs → ys ≡ swap xs i j → Same (take n ys) (take n xs)
swapped_same n i j xs ys i<j j<n long is f =
    let a = get_or xs i 0 in
    let b = get_or xs j 0 in
    let e : set (set xs i b) j a ≡ ys = swap_is xs i j 0 (omega arith) (omega arith) ∙ sym is in
    let rest : drop n ys ≡ drop n xs = ap (drop n) (sym e) ∙ drop-set-lt n (set xs i b) j a j<n ∙ drop-set-lt n xs i b (omega arith) in
    omega (
      arith,
      sum_by-take-drop f ys n,
      sum_by-take-drop f xs n,
      ap (sum_by f) rest,
      ap (sum_by f) e,
      sum_by-set f (set xs i b) j a 0 (omega (arith, length-set xs i b)),
      sum_by-set f xs i b 0 (omega arith),
      ap f (get_or-set_other xs i j b 0 (λ z. omega arith)),
    )

-- a counter that did not run out: its number and the least of those above it change places
pub scanned_found : (n r h i : ℕ) (xs0 cs0 xs cs ys : List ℕ) (c d : ℕ) → r ≤ n → n ≤ length xs0 → n ≤ length xs → n ≤ length ys → r ≤ length cs → h ≡ suc i
    → Cycling n r xs0 cs0 → Scanned n r h xs0 cs0 xs cs → c ≡ get_or cs i 0 - 1 → d ≡ c → 0 < d → ys ≡ swap xs i (n - d) → CyclesStepped n r xs0 ys (set cs i c) true
scanned_found n r h i xs0 cs0 xs cs ys c d r≤n long0 long long' longc e c0 s ec ed pos is = (cycling, next)
  where
    i<r : i < r
    i<r = omega (arith, s.within)

    count : above (get_or xs i 0) (drop (suc i) (take n xs)) ≡ d
    count = omega (arith, s.whole.counters i i<r)

    j : ℕ
    j = n - d

    sized : (i < j) × (j < n) × (j + d ≡ n)
    sized =
        let le : d ≤ n - suc i = omega (arith, count, above_le (get_or xs i 0) (drop (suc i) (take n xs)), tail_long n xs long (suc i)) in
        (omega (arith, i<r), omega (arith, i<r), omega (arith, i<r))

    places : (get_or ys i 0 ≡ get_or xs j 0) × (get_or ys j 0 ≡ get_or xs i 0) × ((m : ℕ) → (m ≡ i → ⊥) → (m ≡ j → ⊥) → get_or ys m 0 ≡ get_or xs m 0)
    places = swapped_from_swap xs ys i j 0 (omega (arith, sized)) (omega (arith, sized)) is

    same : Same (take n ys) (take n xs)
    same = swapped_same n i j xs ys sized.0 sized.1 long is

    climbs : Climbs (suc i) n xs
    climbs p q a b z = s.behind p q (omega arith) b z

    -- the places above the number at i are those from j on
    over : (k : ℕ) → j ≤ k → k < n → get_or xs i 0 < get_or xs k 0
    over k a b = last_are n xs long (get_or xs i 0) (suc i) k climbs (omega (arith, sized)) b (omega (arith, sized, count))

    under : (k : ℕ) → i < k → k < j → get_or xs k 0 < get_or xs i 0
    under k a b = ⊎_elim
        (λ z. absurd (differ n xs long s.whole.apart i k a (omega (arith, sized)) (sym z)))
        (λ z. ⊎_elim
        (λ lt. lt)
        (λ gt. absurd (omega (arith, sized, count, are_last n xs long (get_or xs i 0) (suc i) k climbs a (omega (arith, sized)) gt)))
        z)
        (cases_order (get_or xs k 0) (get_or xs i 0))

    climbs' : Climbs (suc i) n ys
    climbs' p q a b z = ⊎_elim
        (λ f. omega (arith, over q (omega arith) z, places.2 q (λ w. omega arith) (λ w. omega arith), places.1, ap (λ w. get_or ys w 0) f))
        (λ f. ⊎_elim
        (λ g. omega (arith, under p a (omega arith), places.2 p (λ w. omega arith) f, places.1, ap (λ w. get_or ys w 0) g))
        (λ g. omega (arith, climbs p q a b z, places.2 p (λ w. omega arith) f, places.2 q (λ w. omega arith) g))
        (cases_eq q j))
        (cases_eq p j)

    fewer : above (get_or ys i 0) (drop (suc i) (take n ys)) + 1 ≡ d
    fewer =
        let low : j + above (get_or ys i 0) (drop (suc i) (take n ys)) < n =
        ⊎_elim (λ z. z)
        (λ z. absurd (omega (arith, places.0, places.1, over j (omega arith) sized.1, last_are n ys long' (get_or ys i 0) (suc i) j climbs' sized.0 sized.1 z)))
        (cases_lt (j + above (get_or ys i 0) (drop (suc i) (take n ys))) n) in
        let high : n ≤ suc j + above (get_or ys i 0) (drop (suc i) (take n ys)) =
        ⊎_elim
        (λ z. are_last n ys long' (get_or ys i 0) (suc i) (suc j) climbs' (omega (arith, sized)) z
        (omega (arith, places.0, places.2 (suc j) (λ w. omega (arith, sized)) (λ w. omega arith), climbs j (suc j) sized.0 (omega arith) z)))
        (λ z. omega arith)
        (cases_lt (suc j) n) in
        omega (arith, sized)

    cycling : Cycling n r ys (set cs i c)
    cycling = recycled n r i xs ys cs (set cs i c) r≤n long long' i<r s.whole climbs same
        (λ k l. sym (places.2 k (λ w. omega arith) (λ w. omega (arith, sized)))) (λ k ne. get_or-set_other cs i k c 0 ne) climbs'
        (omega (arith, fewer, get_or-set_same cs i c 0 (omega (arith, i<r))))

    next : Next (PermutationRow n r) r xs0 ys
    next =
        let here : get_or xs0 i 0 ≡ get_or xs i 0 = s.front i (omega arith) in
        record {
          at = i;
          place = i<r;
          front = λ k l. s.front k (omega arith) ∙ sym (places.2 k (λ w. omega arith) (λ w. omega (arith, sized)));
          up = omega (arith, places.0, over j (omega arith) sized.1);
          gap = λ y law g lt.
              let p = stands n r xs y i long s.whole.every law i<r (λ k l. sym (s.front k (omega arith)) ∙ g k l) in
              let i<p : i < p.0 = ⊎_elim (λ z. absurd (omega (arith, p.3, ap (λ w. get_or xs w 0) z))) (λ z. ⊎_elim (λ w. absurd (omega (arith, p.1))) (λ w. w) z) (cases_order p.0 i) in
              let j≤p : j ≤ p.0 = omega (arith, sized, count, are_last n xs long (get_or xs i 0) (suc i) p.0 climbs i<p p.2 (omega (arith, p.3))) in
              ⊎_elim
              (λ z. omega (arith, places.0, p.3, ap (λ w. get_or xs w 0) z))
              (λ z. ⊎_elim (λ w. absurd (omega arith)) (λ w. omega (arith, places.0, p.3, climbs j p.0 sized.0 w p.2)) z)
              (cases_order p.0 j);
          high = λ y law m a m< g. highest n r xs0 cs0 y m long0 c0 (s.out m (omega arith) m<) law m< g;
          low = λ y law m a m< g. lowest n r (suc i) ys (set cs i c) y m long' cycling climbs' a law m< g;
        }

-- an absent r is n
pub row_length_is : (n : ℕ) (r : Option ℕ) → unwrap_or r n ≡ row_length n r
row_length_is n None = refl
row_length_is n (Some r) = refl
