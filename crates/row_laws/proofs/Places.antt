-- The order place by place, and the tests of rows as laws of their places.
use Rattle.std.proofs.Common.{◌≡◌, ℕ, zero, suc, ◌+◌, ◌-◌, ◌<◌, ◌≤◌, true, not, eqb, ltb, leb, List, [], ◌∷◌, length, get_or, sym, refl, ap, subst, ⊎_elim, arith}
use Rattle.std.proofs.lemmas.Bool.{ltb-true, lt-ltb, leb-true, le-leb, and_parts, and_from, true≢false, eq-eqb, eqb-true, or_cases, or_left, or_right, not-true, cases_Bool, both_ways}
use Rattle.row_laws.specs.Lawful.{Before}
use Rattle.row_laws.specs.Lists.{rising, unfalling, among, differing}
use Rattle.row_laws.specs.Listed.{◌≺◌}
use Rattle.row_laws.proofs.Order.{less_cases, less_here, less_later, Fitting}

-- ---- the order

pub before_from_less : (xs ys : List ℕ) → length xs ≡ length ys → xs ≺ ys → Before xs ys
before_from_less [] [] e h = absurd (true≢false (sym h))
before_from_less [] (y ∷ ys) e h = absurd (omega arith)
before_from_less (x ∷ xs) [] e h = absurd (omega arith)
before_from_less (x ∷ xs) (y ∷ ys) e h = ⊎_elim
    (λ l. record { at = 0; in_first = omega arith; in_second = omega arith; agree = λ k z. absurd (omega arith); smaller = l })
    (λ r.
    let d = before_from_less xs ys (omega arith) r.1 in
    record { at = suc d.at; in_first = omega (arith, d.in_first); in_second = omega (arith, d.in_second); agree = same d.at r.0 d.agree; smaller = d.smaller })
    (less_cases x y xs ys h)
  where
    same : (j : ℕ) → x ≡ y → ((k : ℕ) → k < j → get_or xs k 0 ≡ get_or ys k 0) → (k : ℕ) → k < suc j → get_or (x ∷ xs) k 0 ≡ get_or (y ∷ ys) k 0
    same j e0 f zero l = e0
    same j e0 f (suc k) l = f k (omega arith)

pub less_from_before : (xs ys : List ℕ) (j : ℕ) → j < length xs → j < length ys → ((k : ℕ) → k < j → get_or xs k 0 ≡ get_or ys k 0) → get_or xs j 0 < get_or ys j 0 → xs ≺ ys
less_from_before [] ys j a b f h = absurd (omega arith)
less_from_before (x ∷ xs) [] j a b f h = absurd (omega arith)
less_from_before (x ∷ xs) (y ∷ ys) zero a b f h = less_here x y xs ys h
less_from_before (x ∷ xs) (y ∷ ys) (suc j) a b f h =
    less_later x y xs ys (f 0 (omega arith)) (less_from_before xs ys j (omega arith) (omega arith) (λ k z. f (suc k) (omega arith)) h)

-- ---- places below lengths

pub fits_length : (ns xs : List ℕ) → Fitting ns xs → length xs ≡ length ns
fits_length [] [] f = refl
fits_length [] (x ∷ xs) f = absurd f
fits_length (n ∷ ns) [] f = absurd f
fits_length (n ∷ ns) (x ∷ xs) f = ap suc (fits_length ns xs f.1)

pub fits_below : (ns xs : List ℕ) → Fitting ns xs → (k : ℕ) → k < length ns → get_or xs k 0 < get_or ns k 0
fits_below [] xs f k l = absurd (omega arith)
fits_below (n ∷ ns) [] f k l = absurd f
fits_below (n ∷ ns) (x ∷ xs) f zero l = f.0
fits_below (n ∷ ns) (x ∷ xs) f (suc k) l = fits_below ns xs f.1 k (omega arith)

pub fits_from : (ns xs : List ℕ) → length xs ≡ length ns → ((k : ℕ) → k < length ns → get_or xs k 0 < get_or ns k 0) → Fitting ns xs
fits_from [] [] e h = tt
fits_from [] (x ∷ xs) e h = absurd (omega arith)
fits_from (n ∷ ns) [] e h = absurd (omega arith)
fits_from (n ∷ ns) (x ∷ xs) e h = (h 0 (omega arith), fits_from ns xs (omega arith) (λ k l. h (suc k) (omega arith)))

-- ---- the tests

-- a relation of neighbours holds of any two places where it is transitive
module _ (R : ℕ → ℕ → Type 0) (trans : (a b c : ℕ) → R a b → R b c → R a c) where
  pub spread : (xs : List ℕ) → ((k : ℕ) → suc k < length xs → R (get_or xs k 0) (get_or xs (suc k) 0)) → (i d : ℕ) → i + suc d < length xs → R (get_or xs i 0) (get_or xs (i + suc d) 0)
  spread xs h i zero l = subst (λ z. R (get_or xs i 0) (get_or xs z 0)) (omega arith) (h i (omega arith))
  spread xs h i (suc d) l =
      trans (get_or xs i 0) (get_or xs (i + suc d) 0) (get_or xs (i + suc (suc d)) 0) (spread xs h i d (omega arith))
      (subst (λ z. R (get_or xs (i + suc d) 0) (get_or xs z 0)) (omega arith) (h (i + suc d) (omega arith)))

  pub spread_to : (xs : List ℕ) → ((k : ℕ) → suc k < length xs → R (get_or xs k 0) (get_or xs (suc k) 0)) → (i k : ℕ) → i < k → k < length xs → R (get_or xs i 0) (get_or xs k 0)
  spread_to xs h i k a b =
      let e : i + suc (k - suc i) ≡ k = omega arith in
      subst (λ z. R (get_or xs i 0) (get_or xs z 0)) e (spread xs h i (k - suc i) (omega arith))

rising_near : (xs : List ℕ) → rising xs ≡ true → (k : ℕ) → suc k < length xs → get_or xs k 0 < get_or xs (suc k) 0
rising_near [] h k l = absurd (omega arith)
rising_near (x ∷ []) h k l = absurd (omega arith)
rising_near (x ∷ y ∷ ys) h zero l = ltb-true x y (and_parts (ltb x y) (rising (y ∷ ys)) h).0
rising_near (x ∷ y ∷ ys) h (suc k) l = rising_near (y ∷ ys) (and_parts (ltb x y) (rising (y ∷ ys)) h).1 k (omega arith)

pub rising_at : (xs : List ℕ) → rising xs ≡ true → (i k : ℕ) → i < k → k < length xs → get_or xs i 0 < get_or xs k 0
rising_at xs h = spread_to (λ a b. a < b) (λ a b c p q. omega arith) xs (rising_near xs h)

pub rising_from : (xs : List ℕ) → ((i k : ℕ) → i < k → k < length xs → get_or xs i 0 < get_or xs k 0) → rising xs ≡ true
rising_from [] h = refl
rising_from (x ∷ []) h = refl
rising_from (x ∷ y ∷ ys) h =
    and_from (ltb x y) (rising (y ∷ ys)) (lt-ltb x y (h 0 1 (omega arith) (omega arith)))
    (rising_from (y ∷ ys) (λ i k a b. h (suc i) (suc k) (omega arith) (omega arith)))

unfalling_near : (xs : List ℕ) → unfalling xs ≡ true → (k : ℕ) → suc k < length xs → get_or xs k 0 ≤ get_or xs (suc k) 0
unfalling_near [] h k l = absurd (omega arith)
unfalling_near (x ∷ []) h k l = absurd (omega arith)
unfalling_near (x ∷ y ∷ ys) h zero l = leb-true x y (and_parts (leb x y) (unfalling (y ∷ ys)) h).0
unfalling_near (x ∷ y ∷ ys) h (suc k) l = unfalling_near (y ∷ ys) (and_parts (leb x y) (unfalling (y ∷ ys)) h).1 k (omega arith)

pub unfalling_at : (xs : List ℕ) → unfalling xs ≡ true → (i k : ℕ) → i < k → k < length xs → get_or xs i 0 ≤ get_or xs k 0
unfalling_at xs h = spread_to (λ a b. a ≤ b) (λ a b c p q. omega arith) xs (unfalling_near xs h)

pub unfalling_from : (xs : List ℕ) → ((i k : ℕ) → i < k → k < length xs → get_or xs i 0 ≤ get_or xs k 0) → unfalling xs ≡ true
unfalling_from [] h = refl
unfalling_from (x ∷ []) h = refl
unfalling_from (x ∷ y ∷ ys) h =
    and_from (leb x y) (unfalling (y ∷ ys)) (le-leb x y (h 0 1 (omega arith) (omega arith)))
    (unfalling_from (y ∷ ys) (λ i k a b. h (suc i) (suc k) (omega arith) (omega arith)))

-- a number among others stands at some place
pub among_at : (xs : List ℕ) (v : ℕ) → among v xs ≡ true → (k : ℕ) × (k < length xs) × (get_or xs k 0 ≡ v)
among_at [] v h = absurd (true≢false (sym h))
among_at (x ∷ xs) v h = ⊎_elim
    (λ e. (0, omega arith, sym (eqb-true v x e)))
    (λ l. let r = among_at xs v l in (suc r.0, omega (arith, r.1), r.2))
    (or_cases (eqb v x) (among v xs) h)

pub among_from : (xs : List ℕ) (k : ℕ) → k < length xs → among (get_or xs k 0) xs ≡ true
among_from [] k l = absurd (omega arith)
among_from (x ∷ xs) zero l = or_left (eqb x x) (among x xs) (eq-eqb x x refl)
among_from (x ∷ xs) (suc k) l = or_right (eqb (get_or xs k 0) x) (among (get_or xs k 0) xs) (among_from xs k (omega arith))

pub differing_at : (xs : List ℕ) → differing xs ≡ true → (i k : ℕ) → i < k → k < length xs → get_or xs i 0 ≡ get_or xs k 0 → ⊥
differing_at [] h i k a b e = absurd (omega arith)
differing_at (x ∷ xs) h zero zero a b e = absurd (omega arith)
differing_at (x ∷ xs) h zero (suc k) a b e =
    both_ways (among x xs) (not-true (among x xs) (and_parts (not (among x xs)) (differing xs) h).0) (subst (λ z. among z xs ≡ true) (sym e) (among_from xs k (omega arith)))
differing_at (x ∷ xs) h (suc i) zero a b e = absurd (omega arith)
differing_at (x ∷ xs) h (suc i) (suc k) a b e = differing_at xs (and_parts (not (among x xs)) (differing xs) h).1 i k (omega arith) (omega arith) e

pub differing_from : (xs : List ℕ) → ((i k : ℕ) → i < k → k < length xs → get_or xs i 0 ≡ get_or xs k 0 → ⊥) → differing xs ≡ true
differing_from [] h = refl
differing_from (x ∷ xs) h =
    and_from (not (among x xs)) (differing xs)
    (⊎_elim
    (λ t. let r = among_at xs x t in absurd (h 0 (suc r.0) (omega arith) (omega (arith, r.1)) (sym r.2)))
    (λ f. ap not f)
    (cases_Bool (among x xs)))
    (differing_from xs (λ i k a b e. h (suc i) (suc k) (omega arith) (omega arith) e))
