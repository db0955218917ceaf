-- Products: the row after one.
use Rattle.std.proofs.Common.{◌≡◌, ℕ, zero, suc, ◌+◌, ◌*◌, ◌%◌, ◌<◌, ◌≤◌, Bool, true, false, ◌||◌, eqb, ltb, ◌⊎◌, List, [], ◌∷◌, length, get_or, take, drop, sum, Option, Some, None, sym, refl, ap, ◌∙◌, subst, inl, inr, ⊎_elim, le_trans, mul-le-mul_right, mod-lt, mod-eq_of_lt, mul-zero, mul-suc, zero-mul, arith, length-take-le, get_or-take}
use Rattle.std.proofs.Math.Nat.{lt_of_lt_of_le}
use Rattle.std.specs.List.{AllByRecursion}
use Rattle.std.specs.Option.{option_map}
use Rattle.std.proofs.lemmas.List.{ext_get_or}
use Rattle.std.proofs.ByRecursion.{All-weaker, sum_by_le}
use Rattle.std.proofs.lemmas.Bool.{or_parts, or_cases, eqb-true, eqb-false, ltb-false, true≢false}
use Rattle.row_laws.specs.Lawful.{ProductRow}
use Rattle.row_laws.specs.Lists.{tuples, from, ahead_from, repeated, product_rows}
use Rattle.row_laws.specs.Calls
use Rattle.row_laws.specs.Calls.{Limits, most_together, refusal_of_making, leaving, other_rows, positions, some_above}
use Rattle.row_laws.specs.Makings.{Made}
use Rattle.row_laws.specs.Makings.{product_making}
use Rattle.row_laws.proofs.Standing
use Rattle.row_laws.specs.Carries.{Carried, Inside, some_empty, pool_start, stands_at, counter_shown}
use Rattle.row_laws.specs.Successor.{Next, Last, First}
use Rattle.row_laws.proofs.Order.{Fitting}
use Rattle.row_laws.proofs.Places.{fits_length, fits_below, fits_from}
use Rattle.row_laws.specs.Listed.{Listed}
use Rattle.row_laws.proofs.Successor.{beginning}
use Rattle.row_laws.proofs.Families.{in_order, products_listed, tuples_listed, length_repeated, get_or_repeated}
use Rattle.row_laws.proofs.Climbing.{nothing}
use Rattle.row_laws.proofs.Standing.{ahead_all, others_drop, step_ahead, stop_ahead}
use Rattle.std.proofs.lemmas.List.Sums.{sum_by_more, sum_by-take-le}

-- ---- a pool that is empty

some_empty_at : (ns : List ℕ) → some_empty ns ≡ true → (k : ℕ) × (k < length ns) × (get_or ns k 0 ≡ 0)
some_empty_at [] h = absurd (true≢false (sym h))
some_empty_at (n ∷ ns) h = ⊎_elim
    (λ e. (0, omega arith, eqb-true n 0 e))
    (λ l. let r = some_empty_at ns l in (suc r.0, omega (arith, r.1), r.2))
    (or_cases (eqb n 0) (some_empty ns) h)

pub none_empty_at : (ns : List ℕ) → some_empty ns ≡ false → (k : ℕ) → k < length ns → 0 < get_or ns k 0
none_empty_at [] h k l = absurd (omega arith)
none_empty_at (n ∷ ns) h zero l = ⊎_elim (λ e. absurd (eqb-false n 0 (or_parts (eqb n 0) (some_empty ns) h).0 e)) (λ g. g) (cases_zero n)
  where
    cases_zero : (n : ℕ) → (n ≡ 0) ⊎ (0 < n)
    cases_zero zero = inl refl
    cases_zero (suc n) = inr (omega arith)
none_empty_at (n ∷ ns) h (suc k) l = none_empty_at ns (or_parts (eqb n 0) (some_empty ns) h).1 k (omega arith)

tuples_none : (ns : List ℕ) → some_empty ns ≡ true → tuples ns ≡ []
tuples_none ns h =
    let e = some_empty_at ns h in
    nothing (tuples ns) (All-weaker (Fitting ns) (λ y. ⊥) (λ y f. omega (arith, fits_below ns y f e.0 e.1, e.2)) (tuples ns) (tuples_listed ns).laws)

pub over_none : (w : ℕ) (stop : Bool) (xs ns : List ℕ) → (stop || some_empty ns) ≡ true → ahead_from (option_map (take w) (stands_at stop xs)) (tuples ns) ≡ []
unfolding from
over_none w true xs ns h = refl
over_none w false xs ns h = ap (λ z. from (take w xs) z) (tuples_none ns h)

no_zero_both : (ms ns : List ℕ) → ((k : ℕ) → k < length ms → get_or ms k 0 ≡ 0 → (j : ℕ) × (j < length ns) × (get_or ns j 0 ≡ 0))
    → ((k : ℕ) → k < length ns → get_or ns k 0 ≡ 0 → (j : ℕ) × (j < length ms) × (get_or ms j 0 ≡ 0)) → some_empty ms ≡ some_empty ns
no_zero_both ms ns f g = by (some_empty ms) (some_empty ns) refl refl
  where
    by : (a b : Bool) → some_empty ms ≡ a → some_empty ns ≡ b → a ≡ b
    by true true p q = refl
    by false false p q = refl
    by true false p q = let z = some_empty_at ms p in let y = f z.0 z.1 z.2 in absurd (omega (arith, y.2, none_empty_at ns q y.0 y.1))
    by false true p q = let z = some_empty_at ns q in let y = g z.0 z.1 z.2 in absurd (omega (arith, y.2, none_empty_at ms p y.0 y.1))

-- where the pools come again and again, a look at the first of them is a look at all
pub looked_all : (w m : ℕ) (xs lens : List ℕ) → m ≤ w → w ≤ length lens → (0 < w → (0 < length xs) × (m ≡ length xs))
    → ((k : ℕ) → k < w → get_or lens k 0 ≡ get_or xs (k % length xs) 0) → some_empty (take m lens) ≡ some_empty (take w lens)
looked_all w m xs lens mw a pos each =
    let lm : length (take m lens) ≡ m = length-take-le m lens (omega arith) in
    let lw : length (take w lens) ≡ w = length-take-le w lens a in
    no_zero_both (take m lens) (take w lens)
    (λ k k< z. let km : k < m = omega (arith, lm) in (k, omega (arith, lw), get_or-take w lens k 0 (omega arith) ∙ sym (get_or-take m lens k 0 km) ∙ z))
    (λ k k< z.
    let kw : k < w = omega (arith, lw) in
    let p = pos (omega arith) in
    let j : ℕ = k % length xs in
    let jx : j < length xs = mod-lt k p.0 in
    let jm : j < m = omega (arith, p.1) in
    (j, omega (arith, lm), get_or-take m lens j 0 jm ∙ each j (omega arith) ∙ ap (λ i. get_or xs i 0) (mod-eq_of_lt jx) ∙ sym (each k kw) ∙ sym (get_or-take w lens k 0 kw) ∙ z))

-- ---- the rows

module _ (w : ℕ) (lens xs : List ℕ) (a : w ≤ length lens) (b : w ≤ length xs) where
  ns_len : length (take w lens) ≡ w
  ns_len = length-take-le w lens a

  under : (y : List ℕ) → Fitting (take w lens) y → (k : ℕ) → k < w → get_or y k 0 < get_or lens k 0
  under y f k l = subst (λ z. get_or y k 0 < z) (get_or-take w lens k 0 l) (fits_below (take w lens) y f k (omega (arith, ns_len)))

  pub row_fits : Inside w lens xs → Fitting (take w lens) (take w xs)
  row_fits law = fits_from (take w lens) (take w xs) (length-take-le w xs b ∙ sym ns_len)
      (λ k l. let k< : k < w = omega (arith, ns_len) in omega (arith, get_or-take w xs k 0 k<, get_or-take w lens k 0 k<, law k k<))

  pub carried_next : (ys : List ℕ) (cur j : ℕ) → cur + 1 ≡ w → Carried lens xs ys cur j → Next (Fitting (take w lens)) w xs ys
  carried_next ys cur j last h = record {
    at = j;
    place = omega (arith, h.place);
    front = h.front;
    up = omega (arith, h.up);
    gap = λ y f ag lt. omega (arith, h.up);
    high = λ y f m l m< ag. omega (arith, under y f m m<, h.full m l (omega arith));
    low = λ y f m l m< ag. omega (arith, h.zeros m l (omega arith));
  }

  pub full_last : ((k : ℕ) → k < w → get_or xs k 0 + 1 ≡ get_or lens k 0) → Last (Fitting (take w lens)) w xs
  full_last full y f m m< ag = omega (arith, under y f m m<, full m m<)

  pub zeros_first : ((k : ℕ) → k < w → get_or xs k 0 ≡ 0) → First (Fitting (take w lens)) w xs
  zeros_first zeros y f m m< ag = omega (arith, zeros m m<)

  pub tuples_taken : Listed (Fitting (take w lens)) w (tuples (take w lens))
  tuples_taken = subst (λ z. Listed (Fitting (take w lens)) z (tuples (take w lens))) ns_len (tuples_listed (take w lens))

-- the lengths of all places are the pools' lengths, q times over
pub lengths_repeated : (q w : ℕ) (lengths lens : List ℕ) → w ≡ length lengths * q → w ≤ length lens
    → ((k : ℕ) → k < w → get_or lens k 0 ≡ get_or lengths (k % length lengths) 0) → take w lens ≡ repeated q lengths
lengths_repeated q w lengths lens e l h =
    let len : length (take w lens) ≡ w = length-take-le w lens l in
    ext_get_or 0 (take w lens) (repeated q lengths) (len ∙ e ∙ sym (length_repeated q lengths))
    (λ k k<. let k<w : k < w = omega arith in get_or-take w lens k 0 k<w ∙ h k k<w ∙ sym (get_or_repeated q lengths k (omega arith)))

-- ---- a counter that stands at a row

-- what is known where it is not over
pub going : (w : ℕ) (lens xs : List ℕ) (stop : Bool) → w ≤ length lens → (stop || some_empty (take w lens)) ≡ false
    → ((k : ℕ) → k < w → 0 < get_or lens k 0 → get_or xs k 0 < get_or lens k 0) → (stop ≡ false) × Inside w lens xs
going w lens xs stop a h inside =
    let parts = or_parts stop (some_empty (take w lens)) h in (
      parts.0,
      λ k k<.
          let len : length (take w lens) ≡ w = length-take-le w lens a in
          inside k k< (subst (λ z. 0 < z) (get_or-take w lens k 0 k<) (none_empty_at (take w lens) parts.1 k (omega arith))),
    )

-- what a carry leaves ahead
pub carried_rows : (w w' : ℕ) (lens lens' xs ys : List ℕ) (stop stop' : Bool) (cur : ℕ) → w ≤ length lens → w ≤ length xs → w ≤ length ys
    → w' ≡ w → lens' ≡ lens → stop ≡ false → Inside w lens xs → (0 < w → cur + 1 ≡ w)
    → (stop' ≡ false → (0 < w) × ((j : ℕ) × Carried lens xs ys cur j))
    → (stop' ≡ true → (k : ℕ) → k ≤ cur → k < w → get_or xs k 0 + 1 ≡ get_or lens k 0)
    → ahead_from (option_map (take w') (stands_at stop' ys)) (tuples (take w' lens')) ≡ other_rows (ahead_from (option_map (take w) (stands_at stop xs)) (tuples (take w lens)))
carried_rows w w' lens lens' xs ys stop true cur a b c ew el go law last up full =
    stop_ahead (Fitting (take w lens)) w (tuples (take w lens)) (tuples_taken w lens xs a b) (stands_at stop xs) xs (ap (λ z. stands_at z xs) go) b (row_fits w lens xs a b law)
    (full_last w lens xs a b (λ k k<. full refl k (omega (arith, last (omega arith))) k<))
carried_rows w w' lens lens' xs ys stop false cur a b c ew el go law last up full =
    let u = up refl in
    ap (λ z. from (take z ys) (tuples (take z lens'))) ew ∙ ap (λ z. from (take w ys) (tuples (take w z))) el
    ∙ step_ahead (Fitting (take w lens)) w (tuples (take w lens)) (tuples_taken w lens xs a b) (Some xs) xs ys refl b c (row_fits w lens xs a b law)
    (carried_next w lens xs a b ys cur u.1.0 (last u.0) u.1.1)
    ∙ ap (λ z. other_rows (ahead_from (option_map (take w) (stands_at z xs)) (tuples (take w lens)))) (sym go)

pub carried_shows : (w w' size size' : ℕ) (lens lens' xs ys starts starts' : List ℕ) (stop stop' : Bool) (cur : ℕ) → w ≤ length lens → w ≤ length xs → w ≤ length ys
    → w' ≡ w → size' ≡ size → lens' ≡ lens → starts' ≡ starts → stop ≡ false → Inside w lens xs → (0 < w → cur + 1 ≡ w)
    → (stop' ≡ false → (0 < w) × ((j : ℕ) × Carried lens xs ys cur j))
    → (stop' ≡ true → (k : ℕ) → k ≤ cur → k < w → get_or xs k 0 + 1 ≡ get_or lens k 0)
    → counter_shown w' size' starts' lens' ys stop' ≡ leaving 1 (counter_shown w size starts lens xs stop)
carried_shows w w' size size' lens lens' xs ys starts starts' stop stop' cur a b c ew es el et go law last up full =
    let rows = carried_rows w w' lens lens' xs ys stop stop' cur a b c ew el go law last up full in
    let old = ahead_from (option_map (take w) (stands_at stop xs)) (tuples (take w lens)) in
    ap (λ z. record { ahead = z; size = size'; width = w'; starts = λ k. get_or starts' k 0 }) (rows ∙ others_drop old)
    ∙ ap (λ z. record { ahead = drop 1 old; size = z; width = w'; starts = λ k. get_or starts' k 0 }) es
    ∙ ap (λ z. record { ahead = drop 1 old; size = size; width = z; starts = λ k. get_or starts' k 0 }) ew
    ∙ ap (λ z. record { ahead = drop 1 old; size = size; width = w; starts = λ k. get_or z k 0 }) et

within_positions : (size : ℕ) (starts : ℕ → ℕ) (row lens : List ℕ) → ((k : ℕ) → k < length row → starts k + get_or lens k 0 ≤ size)
    → ((k : ℕ) → k < length row → get_or row k 0 < get_or lens k 0) → AllByRecursion (λ p. p < size) (positions starts row)
within_positions size starts [] lens h g = tt
within_positions size starts (p ∷ ps) [] h g = absurd (omega (arith, g 0 (omega arith)))
within_positions size starts (p ∷ ps) (n ∷ ns) h g =
    (omega (arith, h 0 (omega arith), g 0 (omega arith)), within_positions size (λ k. starts (suc k)) ps ns (λ k l. h (suc k) (omega arith)) (λ k l. g (suc k) (omega arith)))

pub tuples_within : (size w : ℕ) (starts : ℕ → ℕ) (lens : List ℕ) → w ≤ length lens → ((k : ℕ) → k < w → starts k + get_or lens k 0 ≤ size) → (row : Option (List ℕ))
    → AllByRecursion (λ y. AllByRecursion (λ p. p < size) (positions starts y)) (ahead_from row (tuples (take w lens)))
tuples_within size w starts lens a h row =
    ahead_all (λ y. AllByRecursion (λ p. p < size) (positions starts y)) row (tuples (take w lens))
    (All-weaker (Fitting (take w lens)) (λ y. AllByRecursion (λ p. p < size) (positions starts y))
    (λ y f.
    let len : length y ≡ w = fits_length (take w lens) y f ∙ length-take-le w lens a in
    within_positions size starts y lens (λ k l. h k (omega arith))
    (λ k l. let k< : k < w = omega arith in subst (λ z. get_or y k 0 < z) (get_or-take w lens k 0 k<) (fits_below (take w lens) y f k (omega (arith, length-take-le w lens a)))))
    (tuples (take w lens)) (tuples_listed (take w lens)).laws)

pub counter_fits : (limits : Limits) (w size : ℕ) (starts lens idxs : List ℕ) (stop : Bool) → w ≤ limits.places → size ≤ most_together limits → w ≤ length lens → ((k : ℕ) → k < w → get_or lens k 0 ≤ limits.elements) → ((k : ℕ) → k < w → get_or starts k 0 + get_or lens k 0 ≤ size)
    → Calls.Fitting limits (counter_shown w size starts lens idxs stop)
counter_fits limits w size starts lens idxs stop short small a few h = record {
  short = short;
  small = small;
  uniform = Standing.uniform (Fitting (take w lens)) w (tuples (take w lens)) (tuples_taken w lens lens a a) (option_map (take w) (stands_at stop idxs));
  low = Standing.low (Fitting (take w lens)) w (tuples (take w lens)) (tuples_taken w lens lens a a) limits.elements
      (λ y f k l. lt_of_lt_of_le (subst (λ z. get_or y k 0 < z) (get_or-take w lens k 0 l) (fits_below (take w lens) y f k (omega (arith, length-take-le w lens a)))) (few k l))
      (option_map (take w) (stands_at stop idxs));
  within = tuples_within size w (λ k. get_or starts k 0) lens a h (option_map (take w) (stands_at stop idxs));
}

-- ---- the making

pub all_short : (limit : ℕ) (xs : List ℕ) → some_above limit xs ≡ false → AllByRecursion (λ n. n ≤ limit) xs
all_short limit [] h = tt
all_short limit (x ∷ xs) h = let p = or_parts (ltb limit x) (some_above limit xs) h in (ltb-false limit x p.0, all_short limit xs p.1)

pub short_at : (limit : ℕ) (xs : List ℕ) → some_above limit xs ≡ false → (k : ℕ) → get_or xs k 0 ≤ limit
short_at limit [] h k = omega arith
short_at limit (x ∷ xs) h zero = let p = or_parts (ltb limit x) (some_above limit xs) h in ltb-false limit x p.0
short_at limit (x ∷ xs) h (suc k) = let p = or_parts (ltb limit x) (some_above limit xs) h in short_at limit xs p.1 k

pub sum_small : (limit count : ℕ) (xs : List ℕ) → AllByRecursion (λ n. n ≤ limit) xs → length xs ≤ count → sum xs ≤ count * limit
sum_small limit count xs h l = le_trans (sum_by_le (λ x. x) limit xs h) (mul-le-mul_right limit l)

pub start_fits : (lengths : List ℕ) (k : ℕ) → 0 < length lengths → pool_start lengths k + get_or lengths (k % length lengths) 0 ≤ sum lengths
start_fits lengths k pos =
    let m : ℕ = k % length lengths in
    let inside : m < length lengths = mod-lt k pos in
    subst (λ z. z ≤ sum lengths) (sum_by_more (λ x. x) lengths m 0 inside) (sum_by-take-le (λ x. x) lengths (m + 1))

pub some_pool : (m q : ℕ) → 0 < m * q → 0 < m
some_pool zero q l = absurd (omega (arith, zero-mul q))
some_pool (suc m) q l = omega arith

pub pools_fit : (m q : ℕ) → 0 < m * q → m ≤ m * q
pools_fit m zero l = absurd (omega (arith, mul-zero m))
pools_fit m (suc q) l = omega (arith, mul-suc m q)

-- the making of a product
module _ (lengths lens idxs : List ℕ) (q w : ℕ) (is : w ≡ length lengths * q) (a : w ≤ length lens) (b : w ≤ length idxs)
    (each : (k : ℕ) → k < w → get_or lens k 0 ≡ get_or lengths (k % length lengths) 0) (zeros : (k : ℕ) → k < w → get_or idxs k 0 ≡ 0) where
  pub product_made : (limits : Limits) (starts : List ℕ) (stop : Bool) (size : ℕ) → stop ≡ false → size ≡ sum lengths → refusal_of_making limits lengths (length lengths * q) ≡ None
      → ((k : ℕ) → k < w → get_or starts k 0 ≡ pool_start lengths k)
      → Made limits (ProductRow lengths q) (product_making lengths q 0) (counter_shown w size starts lens idxs stop)
  unfolding product_rows
  product_made limits starts stop size e sized makable at =
      let all : take w lens ≡ repeated q lengths = lengths_repeated q w lengths lens is a each in
      let begins : from (take w idxs) (tuples (take w lens)) ≡ tuples (take w lens) =
      beginning (Fitting (take w lens)) w (tuples (take w lens)) (tuples_taken w lens idxs a b) idxs b (zeros_first w lens idxs a b zeros) in
      record {
        makable = makable;
        size = sized;
        width = is;
        starts = λ k l. at k (omega arith);
        ahead = ap (λ z. ahead_from (option_map (take w) (stands_at z idxs)) (tuples (take w lens))) e ∙ begins ∙ ap tuples all;
        in_order = in_order (ProductRow lengths q) (length lengths * q) (tuples (repeated q lengths)) (products_listed lengths q);
      }
