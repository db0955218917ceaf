-- The lists of the four kinds hold all lawful rows, in order.
use Rattle.std.proofs.Common.{◌≡◌, ℕ, zero, suc, ◌+◌, ◌-◌, ◌*◌, ◌%◌, ◌<◌, Bool, true, List, [], ◌∷◌, length, get_or, replicate, filter, sym, refl, ap, ◌∙◌, subst, ⊎_elim, mod-eq_of_lt, mul-zero, mul-suc, arith}
use native.Mathlib.Nat.{add-mod_left}
use Rattle.std.proofs.lemmas.List.{length-replicate, get_or-replicate, length-append, get_or_append_left, get_or-append_right}
use Rattle.std.proofs.ByRecursion.{all_kept_by, All-get_or, All-weaker, kept_by_passes}
use Rattle.std.proofs.lemmas.Bool.{cases_lt}
use Rattle.row_laws.specs.Lawful.{AllInOrder, ProductRow, CombinationRow, ReplacementRow, PermutationRow}
use Rattle.row_laws.specs.Lists.{tuples, rising, unfalling, differing, repeated, product_rows, combination_rows, replacement_rows, permutation_rows}
use Rattle.row_laws.proofs.Order.{all_both, asc_kept, asc_tuples, tuples_fit, in_tuples, in_kept, Fitting}
use Rattle.row_laws.proofs.Places.{before_from_less, fits_length, fits_below, fits_from, rising_at, rising_from, unfalling_at, unfalling_from, differing_at, differing_from}
use Rattle.row_laws.specs.Listed.{◌≺◌, Asc, In, Listed}

-- ---- any list that is the rows of a law

in_at : (x : List ℕ) (rows : List (List ℕ)) → In x rows → (k : ℕ) × (k < length rows) × (get_or rows k [] ≡ x)
in_at x [] i = absurd i
in_at x (y ∷ ys) i = ⊎_elim (λ e. (0, omega arith, sym e)) (λ l. let r = in_at x ys l in (suc r.0, omega (arith, r.1), r.2)) i

asc_at : (rows : List (List ℕ)) → Asc rows → (j k : ℕ) → j < k → k < length rows → get_or rows j [] ≺ get_or rows k []
asc_at [] a j k l m = absurd (omega arith)
asc_at (x ∷ xs) a j zero l m = absurd (omega arith)
asc_at (x ∷ xs) a zero (suc k) l m = All-get_or (λ y. x ≺ y) xs k [] (omega arith) a.0
asc_at (x ∷ xs) a (suc j) (suc k) l m = asc_at xs a.1 j k (omega arith) (omega arith)

-- each lawful, every lawful one there, strictly ascending
pub in_order : (Law : List ℕ → Type 0) (r : ℕ) (rows : List (List ℕ)) → Listed Law r rows → AllInOrder Law rows
in_order Law r rows h = record {
  lawful = λ k l. All-get_or Law rows k [] l h.laws;
  every = λ row law. in_at row rows (h.every row law);
  ascending = λ j k a b.
      let lj = h.sized (get_or rows j []) (All-get_or Law rows j [] (omega arith) h.laws) in
      let lk = h.sized (get_or rows k []) (All-get_or Law rows k [] b h.laws) in
      before_from_less (get_or rows j []) (get_or rows k []) (omega arith) (asc_at rows h.asc j k a b);
}

-- the tuples that a test keeps are the rows of a law that the test decides
pub filtered : (Law : List ℕ → Type 0) (test : List ℕ → Bool) (ns : List ℕ)
    → ((xs : List ℕ) → Fitting ns xs → test xs ≡ true → Law xs)
    → ((xs : List ℕ) → Law xs → Fitting ns xs × (test xs ≡ true))
    → Listed Law (length ns) (filter test (tuples ns))
filtered Law test ns passes lawful = record {
  sized = λ y l. fits_length ns y (lawful y l).0;
  asc = asc_kept test (tuples ns) (asc_tuples ns);
  laws = all_both (Fitting ns) (λ xs. test xs ≡ true) Law passes (filter test (tuples ns)) (all_kept_by test (Fitting ns) (tuples ns) (tuples_fit ns)) (kept_by_passes test (tuples ns));
  every = λ y l. in_kept test y (tuples ns) (lawful y l).1 (in_tuples ns y (lawful y l).0);
}

-- ---- rows of r places below n

fits_n : (r n : ℕ) (xs : List ℕ) → length xs ≡ r → ((k : ℕ) → k < r → get_or xs k 0 < n) → Fitting (replicate r n) xs
fits_n r n xs e h =
    let len : length (replicate r n) ≡ r = length-replicate r n in
    fits_from (replicate r n) xs (e ∙ sym len) (λ k l. let k< : k < r = omega arith in subst (λ z. get_or xs k 0 < z) (sym (get_or-replicate r k n 0 k<)) (h k k<))

below_n : (r n : ℕ) (xs : List ℕ) → Fitting (replicate r n) xs → (k : ℕ) → k < r → get_or xs k 0 < n
below_n r n xs f k l = subst (λ z. get_or xs k 0 < z) (get_or-replicate r k n 0 l) (fits_below (replicate r n) xs f k (omega (arith, length-replicate r n)))

long_n : (r n : ℕ) (xs : List ℕ) → Fitting (replicate r n) xs → length xs ≡ r
long_n r n xs f = fits_length (replicate r n) xs f ∙ length-replicate r n

pub combinations_listed : (n r : ℕ) → Listed (CombinationRow n r) r (combination_rows n r)
unfolding combination_rows
combinations_listed n r = subst (λ z. Listed (CombinationRow n r) z (filter rising (tuples (replicate r n)))) (length-replicate r n)
    (filtered (CombinationRow n r) rising (replicate r n)
    (λ xs f t. let len = long_n r n xs f in record { long = len; below = below_n r n xs f; rising = λ i k a b. rising_at xs t i k a (omega arith) })
    (λ xs l. let len : length xs ≡ r = l.long in (fits_n r n xs len l.below, rising_from xs (λ i k a b. l.rising i k a (omega arith)))))

pub replacements_listed : (n r : ℕ) → Listed (ReplacementRow n r) r (replacement_rows n r)
unfolding replacement_rows
replacements_listed n r = subst (λ z. Listed (ReplacementRow n r) z (filter unfalling (tuples (replicate r n)))) (length-replicate r n)
    (filtered (ReplacementRow n r) unfalling (replicate r n)
    (λ xs f t. let len = long_n r n xs f in record { long = len; below = below_n r n xs f; unfalling = λ i k a b. unfalling_at xs t i k a (omega arith) })
    (λ xs l. let len : length xs ≡ r = l.long in (fits_n r n xs len l.below, unfalling_from xs (λ i k a b. l.unfalling i k a (omega arith)))))

pub permutations_listed : (n r : ℕ) → Listed (PermutationRow n r) r (permutation_rows n r)
unfolding permutation_rows
permutations_listed n r = subst (λ z. Listed (PermutationRow n r) z (filter differing (tuples (replicate r n)))) (length-replicate r n)
    (filtered (PermutationRow n r) differing (replicate r n)
    (λ xs f t. let len = long_n r n xs f in record { long = len; below = below_n r n xs f; differing = λ i k a b e. differing_at xs t i k a (omega arith) e })
    (λ xs l. let len : length xs ≡ r = l.long in (fits_n r n xs len l.below, differing_from xs (λ i k a b e. l.differing i k a (omega arith) e))))

-- ---- products

pub tuples_listed : (ns : List ℕ) → Listed (Fitting ns) (length ns) (tuples ns)
tuples_listed ns = record { sized = fits_length ns; asc = asc_tuples ns; laws = tuples_fit ns; every = in_tuples ns }

pub length_repeated : (q : ℕ) (lengths : List ℕ) → length (repeated q lengths) ≡ length lengths * q
length_repeated zero lengths = sym (mul-zero (length lengths))
length_repeated (suc q) lengths =
    let ih = length_repeated q lengths in
    omega (arith, length-append lengths (repeated q lengths), mul-suc (length lengths) q)

-- place i is that of pool i mod m
pub get_or_repeated : (q : ℕ) (lengths : List ℕ) (i : ℕ) → i < length lengths * q → get_or (repeated q lengths) i 0 ≡ get_or lengths (i % length lengths) 0
get_or_repeated zero lengths i l = absurd (omega (arith, mul-zero (length lengths)))
get_or_repeated (suc q) lengths i l = ⊎_elim
    (λ lt. get_or_append_left lengths (repeated q lengths) 0 i lt ∙ ap (λ z. get_or lengths z 0) (sym (mod-eq_of_lt lt)))
    (λ ge.
    let m = length lengths in
    let again : m + (i - m) ≡ i = omega arith in
    let same : (i - m) % m ≡ i % m = sym (add-mod_left m (i - m)) ∙ ap (λ z. z % m) again in
    get_or-append_right lengths (repeated q lengths) m i 0 refl ge ∙ get_or_repeated q lengths (i - m) (omega (arith, mul-suc m q)) ∙ ap (λ z. get_or lengths z 0) same)
    (cases_lt i (length lengths))

pub products_listed : (lengths : List ℕ) (q : ℕ) → Listed (ProductRow lengths q) (length lengths * q) (product_rows lengths q)
unfolding product_rows
products_listed lengths q =
    let len : length (repeated q lengths) ≡ length lengths * q = length_repeated q lengths in
    record {
      sized = λ y l. l.long;
      asc = asc_tuples (repeated q lengths);
      laws = All-weaker (Fitting (repeated q lengths)) (ProductRow lengths q)
          (λ xs f.
          let long : length xs ≡ length lengths * q = fits_length (repeated q lengths) xs f ∙ len in
          record {
            long = long;
            below = λ i l. subst (λ z. get_or xs i 0 < z) (get_or_repeated q lengths i (omega arith)) (fits_below (repeated q lengths) xs f i (omega arith));
          })
          (tuples (repeated q lengths)) (tuples_fit (repeated q lengths));
      every = λ y l.
          let long : length y ≡ length lengths * q = l.long in
          in_tuples (repeated q lengths) y (fits_from (repeated q lengths) y (long ∙ sym len)
          (λ k k<. subst (λ z. get_or y k 0 < z) (sym (get_or_repeated q lengths k (omega arith))) (l.below k (omega arith))));
    }
