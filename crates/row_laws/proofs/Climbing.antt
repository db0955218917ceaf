-- Combinations, with and without replacement: rows whose place k is at least as far above place i as `lift` says,
-- which is k for combinations and 0 with replacement.
use Rattle.std.proofs.Common.{◌≡◌, ℕ, zero, suc, ◌+◌, ◌-◌, ◌<◌, ◌≤◌, List, [], ◌∷◌, length, get_or, take, sym, refl, ap, subst, ⊎_elim, arith, length-take-le, get_or-take}
use Rattle.std.specs.List.{AllByRecursion}
use Rattle.std.proofs.ByRecursion.{All-weaker}
use Rattle.std.proofs.lemmas.Bool.{cases_lt, cases_order}
use Rattle.row_laws.specs.Lawful.{CombinationRow, ReplacementRow}
use Rattle.row_laws.specs.Raised.{Raised}
use Rattle.row_laws.specs.Climbs.{ClimbingRow, its_number, nothing_above}
use Rattle.row_laws.specs.Successor.{Next, Last, First}
use Rattle.row_laws.specs.Listed.{Listed}

pub nothing : (rows : List (List ℕ)) → AllByRecursion (λ y. ⊥) rows → rows ≡ []
nothing [] h = refl
nothing (x ∷ xs) h = absurd h.0

module _ (n r : ℕ) (lift : ℕ → ℕ) where
  -- no place of such a row passes its highest
  top : (xs : List ℕ) → ClimbingRow n r lift xs → (k : ℕ) → k < r → get_or xs k 0 + lift (r - 1) < n + lift k
  top xs c k k< =
      let far = c.apart k (r - 1) (omega arith) (omega arith) in
      let last = c.below (r - 1) (omega arith) in
      omega arith

  -- the raise at the last place that is not at its highest
  pub raised_at : (i : ℕ) (xs ys : List ℕ) → ClimbingRow n r lift xs → i < r → (get_or xs i 0 + lift (r - 1) + 1 ≡ n + lift i → ⊥)
      → ((k : ℕ) → i < k → k < r → get_or xs k 0 + lift (r - 1) + 1 ≡ n + lift k) → ((k : ℕ) → k < i → get_or ys k 0 ≡ get_or xs k 0)
      → ((k : ℕ) → i ≤ k → k < r → get_or ys k 0 + lift i ≡ get_or xs i 0 + 1 + lift k) → Raised n r lift i xs ys
  raised_at i xs ys c place free high front low = record {
    place = place;
    free = ⊎_elim (λ e. absurd (free e)) (λ ne. ⊎_elim (λ lt. lt) (λ gt. absurd (omega (arith, top xs c i place))) ne) (cases_order (get_or xs i 0 + lift (r - 1) + 1) (n + lift i));
    front = front;
    low = low;
    high = λ k i<k k<. omega (arith, high k i<k k<);
  }

  -- the row after the raise climbs too
  pub raised_climbs : ((a b : ℕ) → a ≤ b → lift a ≤ lift b) → (i : ℕ) (xs ys : List ℕ) → ClimbingRow n r lift xs → Raised n r lift i xs ys → ClimbingRow n r lift ys
  raised_climbs mono i xs ys c h = record {
    below = λ k k<. ⊎_elim
        (λ lt. omega (arith, h.front k lt, c.below k k<))
        (λ ge. omega (arith, h.low k ge k<, h.free, mono k (r - 1) (omega arith)))
        (cases_lt k i);
    apart = λ a b a≤b b<. ⊎_elim
        (λ lt. omega (arith, h.front b lt, h.front a (omega arith), c.apart a b a≤b b<))
        (λ ge. ⊎_elim
        (λ lt. omega (arith, h.front a lt, h.low b ge b<, c.apart a i (omega arith) h.place))
        (λ ge'. omega (arith, h.low a ge' (omega arith), h.low b ge b<))
        (cases_lt a i))
        (cases_lt b i);
  }

module _ (n r : ℕ) (lift : ℕ → ℕ) (Law : List ℕ → Type 0) (climbs : (y : List ℕ) → Law y → ClimbingRow n r lift y) where
  pub raised_next : (i : ℕ) (xs ys : List ℕ) → Raised n r lift i xs ys → Next Law r xs ys
  raised_next i xs ys h = record {
    at = i;
    place = h.place;
    front = λ k l. sym (h.front k l);
    up = omega (arith, h.low i (omega arith) h.place);
    gap = λ y l ag lt. omega (arith, h.low i (omega arith) h.place);
    high = λ y l m i<m m< ag. omega (arith, top n r lift y (climbs y l) m m<, h.high m i<m m<);
    low = λ y l m i<m m< ag.
        omega (arith, h.low m (omega arith) m<, h.low i (omega arith) h.place, ag i i<m, (climbs y l).apart i m (omega arith) m<);
  }

  pub top_last : (xs : List ℕ) → ((k : ℕ) → k < r → get_or xs k 0 + lift (r - 1) + 1 ≡ n + lift k) → Last Law r xs
  top_last xs full y l m m< ag = omega (arith, top n r lift y (climbs y l) m m<, full m m<)

  pub low_first : lift 0 ≡ 0 → (xs : List ℕ) → ((k : ℕ) → k < r → get_or xs k 0 ≡ lift k) → First Law r xs
  low_first z xs start y l m m< ag = omega (arith, start m m<, (climbs y l).apart 0 m (omega arith) m<)

  -- where the last place does not fit there is no row
  pub no_row : (rows : List (List ℕ)) → Listed Law r rows → lift 0 ≡ 0 → 0 < r → n ≤ lift (r - 1) → rows ≡ []
  no_row rows listed z pos high = nothing rows (All-weaker Law (λ y. ⊥) (λ y l. omega (arith, top n r lift y (climbs y l) 0 pos)) rows listed.laws)

-- ---- combinations

step_up : (y : List ℕ) (r : ℕ) → ((i k : ℕ) → i < k → k < r → get_or y i 0 < get_or y k 0) → (i d : ℕ) → i + d < r → get_or y i 0 + d ≤ get_or y (i + d) 0
step_up y r h i zero l = let e : i + zero ≡ i = omega arith in subst (λ z. get_or y i 0 + zero ≤ get_or y z 0) (sym e) (omega arith)
step_up y r h i (suc d) l =
    let one : get_or y (i + d) 0 < get_or y (i + suc d) 0 = h (i + d) (i + suc d) (omega arith) l in
    omega (arith, step_up y r h i d (omega arith))

pub combination_climbs : (n r : ℕ) (y : List ℕ) → CombinationRow n r y → ClimbingRow n r its_number y
combination_climbs n r y l = record {
  below = l.below;
  apart = λ i k i≤k k<.
      let e : i + (k - i) ≡ k = omega arith in
      let far : get_or y i 0 + (k - i) ≤ get_or y k 0 = subst (λ z. get_or y i 0 + (k - i) ≤ get_or y z 0) e (step_up y r l.rising i (k - i) (omega arith)) in
      omega arith;
}

pub combination_taken : (n r : ℕ) (xs : List ℕ) → r ≤ length xs → ClimbingRow n r its_number xs → CombinationRow n r (take r xs)
combination_taken n r xs len c = record {
  long = length-take-le r xs len;
  below = λ k k<. omega (arith, c.below k k<, get_or-take r xs k 0 k<);
  rising = λ i k i<k k<. let i< : i < r = omega arith in omega (arith, c.apart i k (omega arith) k<, get_or-take r xs i 0 i<, get_or-take r xs k 0 k<);
}

-- ---- with replacement

pub never_above : (i k : ℕ) → i ≤ k → nothing_above i ≤ nothing_above k
never_above i k l = omega arith

pub replacement_climbs : (n r : ℕ) (y : List ℕ) → ReplacementRow n r y → ClimbingRow n r nothing_above y
replacement_climbs n r y l = record {
  below = l.below;
  apart = λ i k i≤k k<. ⊎_elim (λ lt. omega (arith, l.unfalling i k lt k<)) (λ ge. let e : i ≡ k = omega arith in omega (arith, ap (λ z. get_or y z 0) e)) (cases_lt i k);
}

pub replacement_taken : (n r : ℕ) (xs : List ℕ) → r ≤ length xs → ClimbingRow n r nothing_above xs → ReplacementRow n r (take r xs)
replacement_taken n r xs len c = record {
  long = length-take-le r xs len;
  below = λ k k<. omega (arith, c.below k k<, get_or-take r xs k 0 k<);
  unfalling = λ i k i<k k<. let i< : i < r = omega arith in omega (arith, c.apart i k (omega arith) k<, get_or-take r xs i 0 i<, get_or-take r xs k 0 k<);
}
