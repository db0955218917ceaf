-- An enumerator that stands at a row, in the first r places of a list: what is ahead of it, and what a step leaves.
use Rattle.std.proofs.Common.{◌≡◌, ℕ, suc, ◌<◌, ◌≤◌, not, List, [], ◌∷◌, length, get_or, take, drop, Option, Some, None, MatchOption, sym, refl, ap, ◌∙◌, subst, zero-add, arith}
use Rattle.std.proofs.Math.Nat.{lt_of_lt_of_le}
use Rattle.std.specs.List.{AllByRecursion}
use Rattle.std.specs.Option.{option_map}
use Rattle.std.proofs.ByRecursion.{All-weaker, all_kept_by, All-from_get_or}
use Rattle.row_laws.specs.Lawful.{CombinationRow, ReplacementRow, PermutationRow}
use Rattle.row_laws.specs.Lists.{less, from, ahead_from, combination_rows, replacement_rows, permutation_rows}
use Rattle.row_laws.specs.Makings.{Made, one_pool_making}
use Rattle.row_laws.specs.Calls.{Limits, most_together, controller, refusal_of_making, leaving, Fitting, other_rows, positions, at_front_of_pool}
use Rattle.row_laws.specs.Standing.{one_pool}
use Rattle.row_laws.specs.Successor.{Next, Last, First}
use Rattle.row_laws.specs.Listed.{Listed}
use Rattle.row_laws.proofs.Successor.{standing, moving, ending, beginning}
use Rattle.row_laws.proofs.Families.{in_order, combinations_listed, replacements_listed, permutations_listed}

pub ahead_all : (P : List ℕ → Type 0) (row : Option (List ℕ)) (rows : List (List ℕ)) → AllByRecursion P rows → AllByRecursion P (ahead_from row rows)
unfolding from
ahead_all P None rows h = tt
ahead_all P (Some row) rows h = all_kept_by (λ other. not (less other row)) P rows h

-- one pool starts at 0, so an element lies at its place
pub positions_one : (row : List ℕ) → positions at_front_of_pool row ≡ row
positions_one [] = refl
positions_one (p ∷ ps) = ap (λ z. z ∷ positions at_front_of_pool ps) (zero-add p) ∙ ap (λ zs. p ∷ zs) (positions_one ps)

pub others_drop : (rows : List (List ℕ)) → other_rows rows ≡ drop 1 rows
others_drop [] = refl
others_drop (row ∷ rows) = refl

module _ (Law : List ℕ → Type 0) (r : ℕ) (rows : List (List ℕ)) (listed : Listed Law r rows) where
  -- ---- laws of any enumerator of these rows

  pub uniform : (row : Option (List ℕ)) → AllByRecursion (λ y. length y ≡ r) (ahead_from row rows)
  uniform row = ahead_all (λ y. length y ≡ r) row rows (All-weaker Law (λ y. length y ≡ r) listed.sized rows listed.laws)

  within_one : (n : ℕ) → ((y : List ℕ) → Law y → (k : ℕ) → k < r → get_or y k 0 < n) → (row : Option (List ℕ))
      → AllByRecursion (λ y. AllByRecursion (λ p. p < n) (positions at_front_of_pool y)) (ahead_from row rows)
  within_one n below row = ahead_all (λ y. AllByRecursion (λ p. p < n) (positions at_front_of_pool y)) row rows
      (All-weaker Law (λ y. AllByRecursion (λ p. p < n) (positions at_front_of_pool y))
      (λ y law.
      let long : length y ≡ r = listed.sized y law in
      subst (AllByRecursion (λ p. p < n)) (sym (positions_one y)) (All-from_get_or (λ p. p < n) y 0 (λ k k<. below y law k (omega arith))))
      rows listed.laws)

  pub low : (n : ℕ) → ((y : List ℕ) → Law y → (k : ℕ) → k < r → get_or y k 0 < n) → (row : Option (List ℕ)) → AllByRecursion (λ y. AllByRecursion (λ p. p < n) y) (ahead_from row rows)
  low n below row = ahead_all (λ y. AllByRecursion (λ p. p < n) y) row rows
      (All-weaker Law (λ y. AllByRecursion (λ p. p < n) y)
      (λ y law. let long : length y ≡ r = listed.sized y law in All-from_get_or (λ p. p < n) y 0 (λ k k<. below y law k (omega arith)))
      rows listed.laws)

  -- what an enumerator of these rows shows that stands at a row of one pool fits
  pub fitting_one : (limits : Limits) (n : ℕ) → r ≤ limits.places → n ≤ limits.elements → n ≤ most_together limits → ((y : List ℕ) → Law y → (k : ℕ) → k < r → get_or y k 0 < n) → (at : Option (List ℕ)) → Fitting limits (one_pool rows n r at)
  fitting_one limits n short few small below at =
      record { short = short; small = small; uniform = uniform (option_map (take r) at); low = low limits.elements (λ y law k l. lt_of_lt_of_le (below y law k l) few) (option_map (take r) at); within = within_one n below (option_map (take r) at) }

  -- ---- a step of an enumerator that stands at a row: the first r places of `xs`

  pub shown : (at : Option (List ℕ)) (xs : List ℕ) → at ≡ Some xs → Law (take r xs)
      → ahead_from (option_map (take r) at) rows ≡ take r xs ∷ other_rows (ahead_from (option_map (take r) at) rows)
  shown at xs e law =
      subst (λ z. ahead_from (option_map (take r) z) rows ≡ take r xs ∷ other_rows (ahead_from (option_map (take r) z) rows)) (sym e) (standing Law r rows listed xs law)

  pub some_ahead : {P : Type 0} (at : Option (List ℕ)) (xs : List ℕ) → at ≡ Some xs → Law (take r xs) → ahead_from (option_map (take r) at) rows ≡ [] → P
  some_ahead at xs e law none =
      let some : length (ahead_from (option_map (take r) at) rows) ≡ suc (length (other_rows (ahead_from (option_map (take r) at) rows))) = ap length (shown at xs e law) in
      absurd (omega (arith, ap length none))

  pub step_ahead : (at : Option (List ℕ)) (xs ys : List ℕ) → at ≡ Some xs → r ≤ length xs → r ≤ length ys → Law (take r xs) → Next Law r xs ys
      → ahead_from (option_map (take r) (Some ys)) rows ≡ other_rows (ahead_from (option_map (take r) at) rows)
  step_ahead at xs ys e a b law next =
      subst (λ z. from (take r ys) rows ≡ other_rows (ahead_from (option_map (take r) z) rows)) (sym e) (moving Law r rows listed xs ys a b law next)

  pub stop_ahead : (at : Option (List ℕ)) (xs : List ℕ) → at ≡ Some xs → r ≤ length xs → Law (take r xs) → Last Law r xs
      → [] ≡ other_rows (ahead_from (option_map (take r) at) rows)
  stop_ahead at xs e a law last =
      subst (λ z. [] ≡ other_rows (ahead_from (option_map (take r) z) rows)) (sym e) (ending Law r rows listed xs a law last)

  -- the same of all that is shown
  pub stepped : (n : ℕ) (at : Option (List ℕ)) (xs ys : List ℕ) → at ≡ Some xs → r ≤ length xs → r ≤ length ys → Law (take r xs) → Next Law r xs ys
      → one_pool rows n r (Some ys) ≡ leaving 1 (one_pool rows n r at)
  stepped n at xs ys e a b law next = ap (λ z. record { ahead = z; size = n; width = r; starts = at_front_of_pool }) (step_ahead at xs ys e a b law next ∙ others_drop (ahead_from (option_map (take r) at) rows))

  pub stopped : (n : ℕ) (at : Option (List ℕ)) (xs : List ℕ) → at ≡ Some xs → r ≤ length xs → Law (take r xs) → Last Law r xs
      → one_pool rows n r None ≡ leaving 1 (one_pool rows n r at)
  stopped n at xs e a law last = ap (λ z. record { ahead = z; size = n; width = r; starts = at_front_of_pool }) (stop_ahead at xs e a law last ∙ others_drop (ahead_from (option_map (take r) at) rows))

  -- ---- the making

  begun : (at : Option (List ℕ)) → MatchOption at (rows ≡ []) (λ xs. (r ≤ length xs) × First Law r xs) → ahead_from (option_map (take r) at) rows ≡ rows
  begun None none = sym none
  begun (Some xs) first = beginning Law r rows listed xs first.0 first.1

  pub made_one : (limits : Limits) (n : ℕ) (at : Option (List ℕ)) → refusal_of_making limits (n ∷ []) r ≡ None
      → MatchOption at (rows ≡ []) (λ xs. (r ≤ length xs) × First Law r xs) → Made limits Law (one_pool_making rows n r 0) (one_pool rows n r at)
  made_one limits n at makable first =
      record { makable = makable; size = refl; width = refl; starts = λ k l. refl; ahead = begun at first; in_order = in_order Law r rows listed }

-- ---- the kinds of one pool

pub combinations_fit : (n r : ℕ) → n ≤ controller.elements → r ≤ controller.places → (at : Option (List ℕ)) → Fitting controller (one_pool (combination_rows n r) n r at)
combinations_fit n r few short = fitting_one (CombinationRow n r) r (combination_rows n r) (combinations_listed n r) controller n short few (omega arith) (λ y law. law.below)

pub replacements_fit : (n r : ℕ) → n ≤ controller.elements → r ≤ controller.places → (at : Option (List ℕ)) → Fitting controller (one_pool (replacement_rows n r) n r at)
replacements_fit n r few short = fitting_one (ReplacementRow n r) r (replacement_rows n r) (replacements_listed n r) controller n short few (omega arith) (λ y law. law.below)

pub permutations_fit : (n r : ℕ) → n ≤ controller.elements → r ≤ controller.places → (at : Option (List ℕ)) → Fitting controller (one_pool (permutation_rows n r) n r at)
permutations_fit n r few short = fitting_one (PermutationRow n r) r (permutation_rows n r) (permutations_listed n r) controller n short few (omega arith) (λ y law. law.below)
