-- Numbers below n that all differ are at most n: so there is no permutation of more places than elements.
use Rattle.std.proofs.Common.{◌≡◌, ℕ, zero, suc, ◌+◌, ◌<◌, ◌≤◌, true, false, not, eqb, List, [], ◌∷◌, length, filter, sym, refl, ap, ◌∙◌, subst, ⊎_elim, arith}
use Rattle.std.specs.List.{AllByRecursion}
use Rattle.std.proofs.ByRecursion.{All-weaker, All-from_get_or}
use Rattle.std.proofs.lemmas.Bool.{cases_Bool, and_parts, and_from, not-true, or_cases, or_left, or_right, eqb-true, eqb-false, eq-eqb, ne_eqb, cond-true, cond-false, both_ways, cases_order}
use Rattle.row_laws.specs.Lawful.{PermutationRow}
use Rattle.row_laws.specs.Lists.{among, differing, permutation_rows}
use Rattle.row_laws.proofs.Families.{permutations_listed}
use Rattle.row_laws.proofs.Places.{differing_from}
use Rattle.row_laws.proofs.Climbing.{nothing}

-- all but v
without : ℕ → List ℕ → List ℕ
without v xs = filter (λ x. not (eqb x v)) xs

among_without : (v w : ℕ) (xs : List ℕ) → among w (without v xs) ≡ true → among w xs ≡ true
unfolding without
among_without v w [] h = h
among_without v w (x ∷ xs) h = ⊎_elim
    (λ e. or_right (eqb w x) (among w xs) (among_without v w xs (subst (λ z. among w z ≡ true) (cond-false (not (eqb x v)) (x ∷ without v xs) (without v xs) (ap not e)) h)))
    (λ e. ⊎_elim (λ l. or_left (eqb w x) (among w xs) l) (λ r. or_right (eqb w x) (among w xs) (among_without v w xs r))
    (or_cases (eqb w x) (among w (without v xs)) (subst (λ z. among w z ≡ true) (cond-true (not (eqb x v)) (x ∷ without v xs) (without v xs) (ap not e)) h)))
    (cases_Bool (eqb x v))

differing_without : (v : ℕ) (xs : List ℕ) → differing xs ≡ true → differing (without v xs) ≡ true
unfolding without
differing_without v [] h = refl
differing_without v (x ∷ xs) h =
    let parts = and_parts (not (among x xs)) (differing xs) h in
    let rest = differing_without v xs parts.1 in
    ⊎_elim
    (λ e. subst (λ z. differing z ≡ true) (sym (cond-false (not (eqb x v)) (x ∷ without v xs) (without v xs) (ap not e))) rest)
    (λ e. subst (λ z. differing z ≡ true) (sym (cond-true (not (eqb x v)) (x ∷ without v xs) (without v xs) (ap not e)))
    (and_from (not (among x (without v xs))) (differing (without v xs))
    (⊎_elim (λ t. absurd (both_ways (among x xs) (not-true (among x xs) parts.0) (among_without v x xs t))) (λ f. ap not f) (cases_Bool (among x (without v xs)))) rest))
    (cases_Bool (eqb x v))

-- what is not there leaves all
none_lost : (v : ℕ) (xs : List ℕ) → among v xs ≡ false → without v xs ≡ xs
unfolding without
none_lost v [] h = refl
none_lost v (x ∷ xs) h =
    let other : eqb x v ≡ false = ne_eqb x v (λ e. both_ways (among v (x ∷ xs)) h (or_left (eqb v x) (among v xs) (eq-eqb v x (sym e)))) in
    let rest : among v xs ≡ false = ⊎_elim (λ t. absurd (both_ways (among v (x ∷ xs)) h (or_right (eqb v x) (among v xs) t))) (λ f. f) (cases_Bool (among v xs)) in
    cond-true (not (eqb x v)) (x ∷ without v xs) (without v xs) (ap not other) ∙ ap (λ zs. x ∷ zs) (none_lost v xs rest)

one_lost : (v : ℕ) (xs : List ℕ) → differing xs ≡ true → length xs ≤ length (without v xs) + 1
unfolding without
one_lost v [] h = omega arith
one_lost v (x ∷ xs) h =
    let parts = and_parts (not (among x xs)) (differing xs) h in
    ⊎_elim
    (λ e.
    let same : without v xs ≡ xs = none_lost v xs (subst (λ z. among z xs ≡ false) (eqb-true x v e) (not-true (among x xs) parts.0)) in
    let gone : without v (x ∷ xs) ≡ without v xs = cond-false (not (eqb x v)) (x ∷ without v xs) (without v xs) (ap not e) in
    omega (arith, ap length same, ap length gone))
    (λ e.
    let stays : without v (x ∷ xs) ≡ x ∷ without v xs = cond-true (not (eqb x v)) (x ∷ without v xs) (without v xs) (ap not e) in
    omega (arith, ap length stays, one_lost v xs parts.1))
    (cases_Bool (eqb x v))

smaller : (m : ℕ) (xs : List ℕ) → AllByRecursion (λ x. x < suc m) xs → AllByRecursion (λ x. x < m) (without m xs)
unfolding without
smaller m [] h = tt
smaller m (x ∷ xs) h = ⊎_elim
    (λ e. subst (AllByRecursion (λ x. x < m)) (sym (cond-false (not (eqb x m)) (x ∷ without m xs) (without m xs) (ap not e))) (smaller m xs h.1))
    (λ e. subst (AllByRecursion (λ x. x < m)) (sym (cond-true (not (eqb x m)) (x ∷ without m xs) (without m xs) (ap not e)))
    (below h.0 (eqb-false x m e), smaller m xs h.1))
    (cases_Bool (eqb x m))
  where
    below : {x : ℕ} → x < suc m → (x ≡ m → ⊥) → x < m
    below {x} l ne = ⊎_elim (λ e. absurd (ne e)) (λ o. ⊎_elim (λ a. a) (λ b. absurd (omega arith)) o) (cases_order x m)

pub at_most : (n : ℕ) (xs : List ℕ) → differing xs ≡ true → AllByRecursion (λ x. x < n) xs → length xs ≤ n
at_most zero [] d h = omega arith
at_most zero (x ∷ xs) d h = absurd (omega (arith, h.0))
at_most (suc m) xs d h = omega (arith, one_lost m xs d, at_most m (without m xs) (differing_without m xs d) (smaller m xs h))

pub permutations_none : (n r : ℕ) → n < r → permutation_rows n r ≡ []
permutations_none n r l = nothing (permutation_rows n r) (All-weaker (PermutationRow n r) (λ y. ⊥)
    (λ y p.
    let long : length y ≡ r = p.long in
    omega (arith, at_most n y (differing_from y (λ i k a b e. p.differing i k a (omega arith) e)) (All-from_get_or (λ x. x < n) y 0 (λ k k<. p.below k (omega arith)))))
    (permutation_rows n r) (permutations_listed n r).laws)
