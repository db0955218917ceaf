-- Rows in ascending order, and what is left of them from a row on. Assumes nothing.
use Rattle.std.proofs.Common.{◌≡◌, ℕ, zero, suc, ◌+◌, ◌<◌, ◌≤◌, Bool, true, false, cond, not, ◌&&◌, eqb, ltb, ◌⊎◌, List, [], ◌∷◌, ◌++◌, map, filter, sym, refl, ap, ◌∙◌, subst, inl, inr, ⊎_elim, arith}
use Rattle.std.specs.List.{AllByRecursion}
use Rattle.std.proofs.ByRecursion.{All-append, all_kept_by, All-weaker, All-map}
use Rattle.std.proofs.lemmas.Bool.{ltb-true, lt-ltb, le-ltb, eqb-true, eq-eqb, and_parts, and_from, or_cases, or_left, or_right, cond-true, cond-false, cases_Bool, cases_order, true≢false}
use Rattle.row_laws.specs.Lists.{headed, tuples, less, from}
use Rattle.row_laws.specs.Listed.{◌≺◌, Asc, In}

-- ---- the order

pub less_irrefl : (xs : List ℕ) → less xs xs ≡ false
less_irrefl [] = refl
less_irrefl (x ∷ xs) =
    let a : ltb x x ≡ false = le-ltb x x (omega arith) in
    let b : eqb x x ≡ true = eq-eqb x x refl in
    rw (a, b) (less_irrefl xs)

-- at a first place: smaller, or the same and then smaller
pub less_cases : (x y : ℕ) (xs ys : List ℕ) → (x ∷ xs) ≺ (y ∷ ys) → (x < y) ⊎ ((x ≡ y) × (xs ≺ ys))
less_cases x y xs ys h =
    ⊎_elim (λ l. inl (ltb-true x y l)) (λ r. let p = and_parts (eqb x y) (less xs ys) r in inr (eqb-true x y p.0, p.1)) (or_cases (ltb x y) (eqb x y && less xs ys) h)

pub less_here : (x y : ℕ) (xs ys : List ℕ) → x < y → (x ∷ xs) ≺ (y ∷ ys)
less_here x y xs ys h = or_left (ltb x y) (eqb x y && less xs ys) (lt-ltb x y h)

pub less_later : (x y : ℕ) (xs ys : List ℕ) → x ≡ y → xs ≺ ys → (x ∷ xs) ≺ (y ∷ ys)
less_later x y xs ys e h = or_right (ltb x y) (eqb x y && less xs ys) (and_from (eqb x y) (less xs ys) (eq-eqb x y e) h)

pub less_trans : (xs ys zs : List ℕ) → xs ≺ ys → ys ≺ zs → xs ≺ zs
less_trans [] [] zs p q = absurd (true≢false (sym p))
less_trans [] (y ∷ ys) [] p q = absurd (true≢false (sym q))
less_trans [] (y ∷ ys) (z ∷ zs) p q = refl
less_trans (x ∷ xs) [] zs p q = absurd (true≢false (sym p))
less_trans (x ∷ xs) (y ∷ ys) [] p q = absurd (true≢false (sym q))
less_trans (x ∷ xs) (y ∷ ys) (z ∷ zs) p q =
    ⊎_elim
    (λ a. ⊎_elim (λ b. less_here x z xs zs (omega arith)) (λ b. less_here x z xs zs (omega arith)) (less_cases y z ys zs q))
    (λ a. ⊎_elim (λ b. less_here x z xs zs (omega arith)) (λ b. less_later x z xs zs (omega arith) (less_trans xs ys zs a.1 b.1)) (less_cases y z ys zs q))
    (less_cases x y xs ys p)

-- ---- what is left from a row on

pub keeps_all : (p : List ℕ → Bool) (rows : List (List ℕ)) → AllByRecursion (λ y. p y ≡ true) rows → filter p rows ≡ rows
keeps_all p [] h = refl
keeps_all p (x ∷ xs) h = rw h.0 (ap (λ zs. x ∷ zs) (keeps_all p xs h.1))

pub not_before : (x y : List ℕ) → x ≺ y → not (less y x) ≡ true
not_before x y h =
    ⊎_elim (λ e. absurd (true≢false (sym (less_trans x y x h e) ∙ less_irrefl x))) (λ e. ap not e) (cases_Bool (less y x))

pub all_in : (P : List ℕ → Type 0) (xs : List (List ℕ)) (x : List ℕ) → AllByRecursion P xs → In x xs → P x
all_in P [] x h i = absurd i
all_in P (y ∷ ys) x h i = ⊎_elim (λ e. subst P (sym e) h.0) (λ l. all_in P ys x h.1 l) i

pub all_both : (P Q R : List ℕ → Type 0) → ((x : List ℕ) → P x → Q x → R x) → (xs : List (List ℕ)) → AllByRecursion P xs → AllByRecursion Q xs → AllByRecursion R xs
all_both P Q R f [] p q = tt
all_both P Q R f (x ∷ xs) p q = (f x p.0 q.0, all_both P Q R f xs p.1 q.1)

pub kept_here : (p : List ℕ → Bool) (x : List ℕ) (xs : List (List ℕ)) → p x ≡ true → filter p (x ∷ xs) ≡ x ∷ filter p xs
kept_here p x xs h = cond-true (p x) (x ∷ filter p xs) (filter p xs) h

pub kept_past : (p : List ℕ → Bool) (x : List ℕ) (xs : List (List ℕ)) → p x ≡ false → filter p (x ∷ xs) ≡ filter p xs
kept_past p x xs h = cond-false (p x) (x ∷ filter p xs) (filter p xs) h

abbrev keeps : List ℕ → List ℕ → Bool
keeps row other = not (less other row)

-- a row, and one after it before which nothing comes
pub from_step : (rows : List (List ℕ)) (row next : List ℕ) → Asc rows → In row rows → row ≺ next
    → AllByRecursion (λ y. row ≺ y → less y next ≡ false) rows → from row rows ≡ row ∷ from next rows
unfolding from
from_step [] row next asc i lt least = absurd i
from_step (x ∷ xs) row next asc i lt least = ⊎_elim
    (λ e.
    let xn : x ≺ next = subst (λ z. z ≺ next) e lt in
    let self : keeps row x ≡ true = ap not (ap (less x) e ∙ less_irrefl x) in
    let l1 : filter (keeps row) (x ∷ xs) ≡ x ∷ filter (keeps row) xs = kept_here (keeps row) x xs self in
    let l2 : filter (keeps row) xs ≡ xs =
    keeps_all (keeps row) xs (All-weaker (λ y. x ≺ y) (λ y. keeps row y ≡ true) (λ y h. not_before row y (subst (λ z. z ≺ y) (sym e) h)) xs asc.0) in
    let r1 : filter (keeps next) (x ∷ xs) ≡ filter (keeps next) xs = kept_past (keeps next) x xs (ap not xn) in
    let r2 : filter (keeps next) xs ≡ xs =
    keeps_all (keeps next) xs (all_both (λ y. x ≺ y) (λ y. row ≺ y → less y next ≡ false) (λ y. keeps next y ≡ true) (λ y a b. ap not (b (subst (λ z. z ≺ y) (sym e) a))) xs asc.0 least.1) in
    l1 ∙ ap (λ z. z ∷ filter (keeps row) xs) (sym e) ∙ ap (λ zs. row ∷ zs) (l2 ∙ sym (r1 ∙ r2)))
    (λ later.
    let xr : x ≺ row = all_in (λ y. x ≺ y) xs row asc.0 later in
    let xn : x ≺ next = less_trans x row next xr lt in
    kept_past (keeps row) x xs (ap not xr) ∙ from_step xs row next asc.1 later lt least.1 ∙ ap (λ zs. row ∷ zs) (sym (kept_past (keeps next) x xs (ap not xn))))
    i

-- the first from a row on is that row
pub from_head : (rows : List (List ℕ)) (row : List ℕ) → Asc rows → In row rows → (rest : List (List ℕ)) × (from row rows ≡ row ∷ rest)
unfolding from
from_head [] row asc i = absurd i
from_head (x ∷ xs) row asc i = ⊎_elim
    (λ e.
    let self : keeps row x ≡ true = ap not (ap (less x) e ∙ less_irrefl x) in
    (filter (keeps row) xs, kept_here (keeps row) x xs self ∙ ap (λ z. z ∷ filter (keeps row) xs) (sym e)))
    (λ later.
    let xr : x ≺ row = all_in (λ y. x ≺ y) xs row asc.0 later in
    let p = from_head xs row asc.1 later in
    (p.0, kept_past (keeps row) x xs (ap not xr) ∙ p.1))
    i

-- a row after which none comes
pub from_last : (rows : List (List ℕ)) (row : List ℕ) → Asc rows → In row rows
    → AllByRecursion (λ y. row ≺ y → ⊥) rows → from row rows ≡ row ∷ []
unfolding from
from_last [] row asc i none = absurd i
from_last (x ∷ xs) row asc i none = ⊎_elim
    (λ e.
    let self : keeps row x ≡ true = ap not (ap (less x) e ∙ less_irrefl x) in
    let empty : xs ≡ [] = none_left xs (all_both (λ y. x ≺ y) (λ y. row ≺ y → ⊥) (λ y. ⊥) (λ y a b. b (subst (λ z. z ≺ y) (sym e) a)) xs asc.0 none.1) in
    kept_here (keeps row) x xs self ∙ ap (λ z. z ∷ filter (keeps row) xs) (sym e) ∙ ap (λ zs. row ∷ filter (keeps row) zs) empty)
    (λ later.
    let xr : x ≺ row = all_in (λ y. x ≺ y) xs row asc.0 later in
    kept_past (keeps row) x xs (ap not xr) ∙ from_last xs row asc.1 later none.1)
    i
  where
    none_left : (xs : List (List ℕ)) → AllByRecursion (λ y. ⊥) xs → xs ≡ []
    none_left [] h = refl
    none_left (x ∷ xs) h = absurd h.0

-- a row before which none comes
pub from_first : (rows : List (List ℕ)) (row : List ℕ) → AllByRecursion (λ y. less y row ≡ false) rows → from row rows ≡ rows
unfolding from
from_first rows row h = keeps_all (keeps row) rows (All-weaker (λ y. less y row ≡ false) (λ y. keeps row y ≡ true) (λ y e. ap not e) rows h)

-- ---- the tuples

pub asc_append : (xs ys : List (List ℕ)) → Asc xs → Asc ys → AllByRecursion (λ x. AllByRecursion (λ y. x ≺ y) ys) xs → Asc (xs ++ ys)
asc_append [] ys a b c = b
asc_append (x ∷ xs) ys a b c = (All-append (λ y. x ≺ y) xs ys a.0 c.0, asc_append xs ys a.1 b c.1)

pub asc_kept : (p : List ℕ → Bool) (xs : List (List ℕ)) → Asc xs → Asc (filter p xs)
asc_kept p [] a = tt
asc_kept p (x ∷ xs) a =
    elim (p x) as (λ b. Asc (cond b (x ∷ filter p xs) (filter p xs)))
    [ true ↦ (all_kept_by p (λ y. x ≺ y) xs a.0, asc_kept p xs a.1) | false ↦ asc_kept p xs a.1 ]

pub asc_cons : (n : ℕ) (xs : List (List ℕ)) → Asc xs → Asc (map (λ row. n ∷ row) xs)
asc_cons n [] a = tt
asc_cons n (x ∷ xs) a =
    (All-map (λ y. (n ∷ x) ≺ y) (λ row. n ∷ row) xs (All-weaker (λ y. x ≺ y) (λ y. (n ∷ x) ≺ (n ∷ y)) (λ y h. less_later n n x y refl h) xs a.0), asc_cons n xs a.1)

-- a row whose first place is at least n
abbrev Starts : ℕ → List ℕ → Type 0
Starts n [] = ⊥
Starts n (x ∷ xs) = n ≤ x

starts_less : (n m : ℕ) (xs ys : List ℕ) → n < m → Starts m ys → (n ∷ xs) ≺ ys
starts_less n m xs [] l h = absurd h
starts_less n m xs (y ∷ ys) l h = less_here n y xs ys (omega arith)

starts_down : (n m : ℕ) (xs : List ℕ) → n ≤ m → Starts m xs → Starts n xs
starts_down n m [] l h = h
starts_down n m (x ∷ xs) l h = omega arith

all_any : (P : List ℕ → Type 0) → ((x : List ℕ) → P x) → (xs : List (List ℕ)) → AllByRecursion P xs
all_any P f [] = tt
all_any P f (x ∷ xs) = (f x, all_any P f xs)

headed_start : (n count : ℕ) (tails : List (List ℕ)) → AllByRecursion (Starts n) (headed n count tails)
unfolding headed
headed_start n zero tails = tt
headed_start n (suc count) tails =
    All-append (Starts n) (map (λ row. n ∷ row) tails) (headed (suc n) count tails)
    (All-map (Starts n) (λ row. n ∷ row) tails (all_any (λ row. n ≤ n) (λ row. omega arith) tails))
    (All-weaker (Starts (suc n)) (Starts n) (λ x h. starts_down n (suc n) x (omega arith) h) (headed (suc n) count tails) (headed_start (suc n) count tails))

pub asc_headed : (n count : ℕ) (tails : List (List ℕ)) → Asc tails → Asc (headed n count tails)
unfolding headed
asc_headed n zero tails a = tt
asc_headed n (suc count) tails a =
    asc_append (map (λ row. n ∷ row) tails) (headed (suc n) count tails) (asc_cons n tails a) (asc_headed (suc n) count tails a)
    (All-map (λ x. AllByRecursion (λ y. x ≺ y) (headed (suc n) count tails)) (λ row. n ∷ row) tails
    (all_any (λ row. AllByRecursion (λ y. (n ∷ row) ≺ y) (headed (suc n) count tails))
    (λ row. All-weaker (Starts (suc n)) (λ y. (n ∷ row) ≺ y) (λ y h. starts_less n (suc n) row y (omega arith) h) (headed (suc n) count tails) (headed_start (suc n) count tails)) tails))

pub asc_tuples : (ns : List ℕ) → Asc (tuples ns)
unfolding tuples
asc_tuples [] = (tt, tt)
asc_tuples (n ∷ ns) = asc_headed 0 n (tuples ns) (asc_tuples ns)

-- place i below the i-th length
abbrev pub Fitting : List ℕ → List ℕ → Type 0
Fitting [] [] = Unit {0}
Fitting [] (x ∷ xs) = ⊥
Fitting (n ∷ ns) [] = ⊥
Fitting (n ∷ ns) (x ∷ xs) = (x < n) × Fitting ns xs

headed_fit : (n count m : ℕ) (ns : List ℕ) (tails : List (List ℕ)) → n + count ≡ m → AllByRecursion (Fitting ns) tails → AllByRecursion (Fitting (m ∷ ns)) (headed n count tails)
unfolding headed
headed_fit n zero m ns tails e h = tt
headed_fit n (suc count) m ns tails e h =
    All-append (Fitting (m ∷ ns)) (map (λ row. n ∷ row) tails) (headed (suc n) count tails)
    (All-map (Fitting (m ∷ ns)) (λ row. n ∷ row) tails (All-weaker (Fitting ns) (λ row. Fitting (m ∷ ns) (n ∷ row)) (λ row f. (omega arith, f)) tails h))
    (headed_fit (suc n) count m ns tails (omega arith) h)

pub tuples_fit : (ns : List ℕ) → AllByRecursion (Fitting ns) (tuples ns)
unfolding tuples
tuples_fit [] = (tt, tt)
tuples_fit (n ∷ ns) = headed_fit 0 n n ns (tuples ns) (omega arith) (tuples_fit ns)

pub in_left : (x : List ℕ) (xs ys : List (List ℕ)) → In x xs → In x (xs ++ ys)
in_left x [] ys i = absurd i
in_left x (z ∷ xs) ys i = ⊎_elim inl (λ l. inr (in_left x xs ys l)) i

pub in_right : (x : List ℕ) (xs ys : List (List ℕ)) → In x ys → In x (xs ++ ys)
in_right x [] ys i = i
in_right x (z ∷ xs) ys i = inr (in_right x xs ys i)

in_cons : (n : ℕ) (x : List ℕ) (xs : List (List ℕ)) → In x xs → In (n ∷ x) (map (λ row. n ∷ row) xs)
in_cons n x [] i = absurd i
in_cons n x (y ∷ ys) i = ⊎_elim (λ e. inl (ap (λ z. n ∷ z) e)) (λ l. inr (in_cons n x ys l)) i

in_headed : (n count z : ℕ) (x : List ℕ) (tails : List (List ℕ)) → n ≤ z → z < n + count → In x tails → In (z ∷ x) (headed n count tails)
unfolding headed
in_headed n zero z x tails l h i = absurd (omega arith)
in_headed n (suc count) z x tails l h i = ⊎_elim
    (λ e. in_left (z ∷ x) (map (λ row. n ∷ row) tails) (headed (suc n) count tails) (subst (λ m. In (z ∷ x) (map (λ row. m ∷ row) tails)) e (in_cons z x tails i)))
    (λ ne. in_right (z ∷ x) (map (λ row. n ∷ row) tails) (headed (suc n) count tails)
    (in_headed (suc n) count z x tails (⊎_elim (λ a. omega arith) (λ a. omega arith) ne) (omega arith) i))
    (cases_order z n)

pub in_tuples : (ns xs : List ℕ) → Fitting ns xs → In xs (tuples ns)
unfolding tuples
in_tuples [] [] f = inl refl
in_tuples [] (x ∷ xs) f = absurd f
in_tuples (n ∷ ns) [] f = absurd f
in_tuples (n ∷ ns) (x ∷ xs) f = in_headed 0 n x xs (tuples ns) (omega arith) (omega arith) (in_tuples ns xs f.1)

pub in_kept : (p : List ℕ → Bool) (x : List ℕ) (xs : List (List ℕ)) → p x ≡ true → In x xs → In x (filter p xs)
in_kept p x [] t i = absurd i
in_kept p x (y ∷ ys) t i =
    elim (p y) as (λ b. p y ≡ b → In x (cond b (y ∷ filter p ys) (filter p ys))) [
      | true ↦ (λ q. ⊎_elim inl (λ l. inr (in_kept p x ys t l)) i)
      | false ↦ (λ q. ⊎_elim (λ e. absurd (true≢false (sym t ∙ ap p e ∙ q))) (λ l. in_kept p x ys t l) i)
    ] refl
