-- The rows from one on, by the row that comes next, for any law.
use Rattle.std.proofs.Common.{◌≡◌, ℕ, ◌<◌, ◌≤◌, false, List, [], ◌∷◌, length, get_or, take, sym, ap, ◌∙◌, subst, ⊎_elim, arith, length-take-le, get_or-take}
use Rattle.std.proofs.ByRecursion.{All-weaker}
use Rattle.std.proofs.lemmas.Bool.{cases_Bool, cases_order, cases_lt}
use Rattle.row_laws.specs.Lawful.{Before}
use Rattle.row_laws.specs.Lists.{less, from}
use Rattle.row_laws.specs.Calls.{other_rows}
use Rattle.row_laws.specs.Listed.{◌≺◌, Listed}
use Rattle.row_laws.specs.Successor.{Agree, Next, Last, First}
use Rattle.row_laws.proofs.Order.{from_step, from_last, from_first, from_head}
use Rattle.row_laws.proofs.Places.{before_from_less, less_from_before}

module _ (Law : List ℕ → Type 0) (r : ℕ) (rows : List (List ℕ)) (listed : Listed Law r rows) where
  next_least : (cur next y : List ℕ) → length cur ≡ r → length next ≡ r → Next Law r cur next → Law y → cur ≺ y → less y next ≡ false
  next_least cur next y a b h l lt = ⊎_elim
      (λ t. absurd (clash (before_from_less cur y (omega (arith, listed.sized y l)) lt) (before_from_less y next (omega (arith, listed.sized y l)) t)))
      (λ f. f)
      (cases_Bool (less y next))
    where
      clash : Before cur y → Before y next → ⊥
      clash p q = ⊎_elim
          (λ p<j. ⊎_elim
          (λ e. omega (arith, p.smaller, q.smaller, h.front p.at p<j, ap (λ z. get_or y z 0) e, ap (λ z. get_or next z 0) e))
          (λ ne. ⊎_elim
          (λ m<p. omega (arith, q.smaller, p.agree q.at m<p, h.front q.at (omega arith)))
          (λ p<m. omega (arith, p.smaller, q.agree p.at p<m, h.front p.at p<j))
          ne)
          (cases_order q.at p.at))
          (λ j≤p. ⊎_elim
          (λ e.
          let agree : Agree h.at cur y = λ k k<. p.agree k (omega arith) in
          let above : get_or cur h.at 0 < get_or y h.at 0 = subst (λ z. get_or cur z 0 < get_or y z 0) e p.smaller in
          let g = h.gap y l agree above in
          ⊎_elim
          (λ f. omega (arith, g, q.smaller, ap (λ z. get_or y z 0) f, ap (λ z. get_or next z 0) f))
          (λ ne. ⊎_elim
          (λ m<j. omega (arith, q.smaller, p.agree q.at (omega arith), h.front q.at m<j))
          (λ j<m. omega (arith, q.smaller, h.low y l q.at j<m (omega (arith, q.in_second)) (λ k k<. sym (q.agree k k<))))
          ne)
          (cases_order q.at h.at))
          (λ ne.
          let j<p : h.at < p.at = ⊎_elim (λ z. omega arith) (λ z. z) ne in
          omega (arith, p.smaller, h.high y l p.at j<p (omega (arith, p.in_first)) p.agree))
          (cases_order p.at h.at))
          (cases_lt p.at h.at)

  -- rows that stand in the first r places of two lists
  taken : (m : ℕ) (xs : List ℕ) → m ≤ r → Agree m (take r xs) xs
  taken m xs l k k< = get_or-take r xs k 0 (omega arith)

  next_taken : (xs ys : List ℕ) → Next Law r xs ys → Next Law r (take r xs) (take r ys)
  next_taken xs ys h =
      let j = h.at in
      let cj : get_or (take r xs) j 0 ≡ get_or xs j 0 = get_or-take r xs j 0 h.place in
      let nj : get_or (take r ys) j 0 ≡ get_or ys j 0 = get_or-take r ys j 0 h.place in
      record {
        at = j;
        place = h.place;
        front = λ k l. let k< : k < r = omega (arith, h.place) in get_or-take r xs k 0 k< ∙ h.front k l ∙ sym (get_or-take r ys k 0 k<);
        up = omega (arith, cj, nj, h.up);
        gap = λ y f ag lt. let g = h.gap y f (λ k l. let k< : k < r = omega (arith, h.place) in sym (get_or-take r xs k 0 k<) ∙ ag k l) (omega (arith, cj)) in omega (arith, nj, g);
        high = λ y f m l m< ag. let g = h.high y f m l m< (λ k k<. let kr : k < r = omega arith in sym (get_or-take r xs k 0 kr) ∙ ag k k<) in omega (arith, g, get_or-take r xs m 0 m<);
        low = λ y f m l m< ag. let g = h.low y f m l m< (λ k k<. let kr : k < r = omega arith in sym (get_or-take r ys k 0 kr) ∙ ag k k<) in omega (arith, g, get_or-take r ys m 0 m<);
      }

  -- the first row ahead is the one that stands there
  pub standing : (xs : List ℕ) → Law (take r xs) → from (take r xs) rows ≡ take r xs ∷ other_rows (from (take r xs) rows)
  standing xs law =
      let f = from_head rows (take r xs) listed.asc (listed.every (take r xs) law) in
      f.1 ∙ ap (λ zs. take r xs ∷ zs) (sym (ap other_rows f.1))

  -- and the others are those from the next row on
  pub moving : (xs ys : List ℕ) → r ≤ length xs → r ≤ length ys → Law (take r xs) → Next Law r xs ys → from (take r ys) rows ≡ other_rows (from (take r xs) rows)
  moving xs ys a b law h' =
      let h = next_taken xs ys h' in
      let la = length-take-le r xs a in
      let lb = length-take-le r ys b in
      let lt : take r xs ≺ take r ys = less_from_before (take r xs) (take r ys) h.at (omega (arith, h.place)) (omega (arith, h.place)) h.front h.up in
      sym (ap other_rows (from_step rows (take r xs) (take r ys) listed.asc (listed.every (take r xs) law) lt
      (All-weaker Law (λ y. take r xs ≺ y → less y (take r ys) ≡ false) (λ y l. next_least (take r xs) (take r ys) y la lb h l) rows listed.laws)))

  -- at the last row there are no others
  pub ending : (xs : List ℕ) → r ≤ length xs → Law (take r xs) → Last Law r xs → [] ≡ other_rows (from (take r xs) rows)
  ending xs a law high =
      let la = length-take-le r xs a in
      sym (ap other_rows (from_last rows (take r xs) listed.asc (listed.every (take r xs) law)
      (All-weaker Law (λ y. take r xs ≺ y → ⊥)
      (λ y l lt.
      let p = before_from_less (take r xs) y (omega (arith, listed.sized y l)) lt in
      let m< : p.at < r = omega (arith, p.in_first) in
      let g = high y l p.at m< (λ k k<. let kr : k < r = omega arith in sym (get_or-take r xs k 0 kr) ∙ p.agree k k<) in
      omega (arith, p.smaller, g, get_or-take r xs p.at 0 m<))
      rows listed.laws)))

  -- from the first row on they are all
  pub beginning : (xs : List ℕ) → r ≤ length xs → First Law r xs → from (take r xs) rows ≡ rows
  beginning xs a low =
      let la = length-take-le r xs a in
      from_first rows (take r xs) (All-weaker Law (λ y. less y (take r xs) ≡ false)
      (λ y l. ⊎_elim
      (λ t.
      let p = before_from_less y (take r xs) (omega (arith, listed.sized y l)) t in
      let m< : p.at < r = omega (arith, p.in_second) in
      let g = low y l p.at m< (λ k k<. let kr : k < r = omega arith in sym (get_or-take r xs k 0 kr) ∙ sym (p.agree k k<)) in
      absurd (omega (arith, p.smaller, g, get_or-take r xs p.at 0 m<)))
      (λ f. f)
      (cases_Bool (less y (take r xs))))
      rows listed.laws)
