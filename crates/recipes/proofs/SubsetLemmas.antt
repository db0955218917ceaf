-- The subsets of a pool: the rows that an enumerator gives one after another, and that they are all.
use Rattle.std.proofs.Common.{◌≡◌, ℕ, zero, suc, ◌+◌, ◌-◌, ◌<◌, ◌≤◌, List, [], ◌∷◌, ◌++◌, map, length, take, drop, get_or, Some, None, Option, Ok, refl, sym, ap, ◌∙◌, subst, inl, inr, ⊎_elim, arith}
use Rattle.std.proofs.Math.Seq.{take-append_seam}
use Rattle.std.proofs.lemmas.List.{append_assoc, length-append, get_or_append_left, get_or-append_right}
use Rattle.std.proofs.lemmas.Bool.{cases_lt}
use Rattle.steps.specs.declared.answer.Answer.TheVariants.{Item}
use Rattle.steps.specs.declared.refusal.Refusal.{Refusal}
use Rattle.std.specs.List.{AllByRecursion}
use Rattle.row_laws.specs.Calls.{Shown, Limits, Fitting, answer_of_call, first_row, next_elements, positions, picked, at_front, at_front_of_pool}
use Rattle.row_laws.specs.Lawful.{AllInOrder, CombinationRow}
use Rattle.row_laws.specs.Lists.{combination_rows}
use Rattle.row_laws.proofs.Families.{in_order, combinations_listed}
use Rattle.row_laws.proofs.Standing.{positions_one}
use Rattle.row_laws.proofs.Writing.{length_picked, length_positions}
use Rattle.recipes.specs.Subsets.{rows_below, subset_rows, Subset, Sooner, AllSubsets}

-- ---- one row after another

-- where a row was given, one was ahead
pub row_given : (refusal : Option Refusal) (rows : List (List ℕ)) → Ok (Item tt) ≡ answer_of_call refusal rows → rows ≡ first_row rows ∷ drop 1 rows
row_given None (row ∷ rows) e = refl
row_given None [] e = cc
row_given (Some refusal) rows e = cc

-- the elements of that row stand at the front of the buffer
pub row_written : {T : Type 0} (limits : Limits) (v : Shown) (pool old new : List T) (r : ℕ) → Fitting limits v → v.size ≡ length pool → v.width ≡ r →
    v.starts ≡ at_front_of_pool → v.ahead ≡ first_row v.ahead ∷ drop 1 v.ahead → new ≡ at_front (next_elements v pool) old →
    take r new ≡ picked pool (first_row v.ahead)
row_written limits v pool old new r fits size wide starts more e =
    let row : List ℕ = first_row v.ahead in
    let long : length row ≡ v.width = (subst (AllByRecursion (λ row. length row ≡ v.width)) more fits.uniform).0 in
    let inside : AllByRecursion (λ p. p < v.size) (positions v.starts row) =
    (subst (AllByRecursion (λ row. AllByRecursion (λ p. p < v.size) (positions v.starts row))) more fits.within).0 in
    let low : AllByRecursion (λ p. p < length pool) (positions v.starts row) = subst (λ n. AllByRecursion (λ p. p < n) (positions v.starts row)) size inside in
    let all : length (next_elements v pool) ≡ r = length_picked pool (positions v.starts row) low ∙ length_positions v.starts row ∙ long ∙ wide in
    let one : positions v.starts row ≡ row = ap (λ f. positions f row) starts ∙ positions_one row in
    ap (take r) e ∙ ap (λ n. take n (at_front (next_elements v pool) old)) (sym all) ∙ take-append_seam (next_elements v pool) _ ∙ ap (picked pool) one

pub row_pushed : {T : Type 0} (before after : List (List T)) (row : List T) (pool : List T) (ahead : List (List ℕ)) (all : List (List T)) →
    ahead ≡ first_row ahead ∷ drop 1 ahead → row ≡ picked pool (first_row ahead) → after ≡ before ++ row ∷ [] →
    before ++ map (picked pool) ahead ≡ all → after ++ map (picked pool) (drop 1 ahead) ≡ all
row_pushed before after row pool ahead all more e p h =
    ap (λ us. us ++ map (picked pool) (drop 1 ahead)) (p ∙ ap (λ u. before ++ u ∷ []) e)
    ∙ append_assoc before (picked pool (first_row ahead) ∷ []) (map (picked pool) (drop 1 ahead))
    ∙ sym (ap (λ us. before ++ map (picked pool) us) more) ∙ h

-- a buffer that is written back whole
pub written_back : {T : Type 0} (n : ℕ) (old new : List T) → n ≡ length old → length new ≡ length old → take n (new ++ drop (length new) old) ≡ new
written_back n old new m l = ap (λ k. take k (new ++ drop (length new) old)) (m ∙ sym l) ∙ take-append_seam new (drop (length new) old)

-- its front is copied to a new list
pub row_copied : {T : Type 0} (r : ℕ) (none row whole : List T) → row ≡ none ++ take (r - 0) whole → none ≡ [] → row ≡ take r whole
row_copied r none row whole e z = let m : r - 0 ≡ r = omega arith in e ∙ ap (λ xs. xs ++ take (r - 0) whole) z ∙ ap (λ k. take k whole) m

-- ---- all subsets

-- a list of all subsets of fewer than r places, the sooner first
record Below (n r : ℕ) (rows : List (List ℕ)) : Type 0 where
  lawful : (k : ℕ) → k < length rows → (length (get_or rows k []) < r) × Subset n (get_or rows k [])
  every : (row : List ℕ) → length row < r → Subset n row → (k : ℕ) × (k < length rows) × (get_or rows k [] ≡ row)
  ascending : (j k : ℕ) → j < k → k < length rows → Sooner (get_or rows j []) (get_or rows k [])

below_none : (n : ℕ) → Below n 0 []
below_none n = record { lawful = λ k l. absurd (omega arith); every = λ row l s. absurd (omega arith); ascending = λ j k a l. absurd (omega arith) }

-- those of r places behind those of fewer
module _ (n r : ℕ) (rows more : List (List ℕ)) (below : Below n r rows) (these : AllInOrder (CombinationRow n r) more) where
  left : (k : ℕ) → k < length rows → get_or (rows ++ more) k [] ≡ get_or rows k []
  left k l = get_or_append_left rows more [] k l

  right : (k : ℕ) → length rows ≤ k → get_or (rows ++ more) k [] ≡ get_or more (k - length rows) []
  right k l = get_or-append_right rows more (length rows) k [] refl l

  long : length (rows ++ more) ≡ length rows + length more
  long = length-append rows more

  long_row : (k : ℕ) → k < length more → length (get_or more k []) ≡ r
  long_row k l = (these.lawful k l).long

  lawful_more : (k : ℕ) → k < length more → (length (get_or more k []) < r + 1) × Subset n (get_or more k [])
  lawful_more k l = (let e = long_row k l in omega (arith, e), subst (λ m. CombinationRow n m (get_or more k [])) (sym (long_row k l)) (these.lawful k l))

  lawful_both : (k : ℕ) → k < length (rows ++ more) → (length (get_or (rows ++ more) k []) < r + 1) × Subset n (get_or (rows ++ more) k [])
  lawful_both k l = ⊎_elim
      (λ a. subst (λ row. (length row < r + 1) × Subset n row) (sym (left k a)) (let s = (below.lawful k a).0 in omega (arith, s), (below.lawful k a).1))
      (λ a. subst (λ row. (length row < r + 1) × Subset n row) (sym (right k a)) (lawful_more (k - length rows) (omega (arith, l, a, long))))
      (cases_lt k (length rows))

  every_both : (row : List ℕ) → length row < r + 1 → Subset n row → (k : ℕ) × (k < length (rows ++ more)) × (get_or (rows ++ more) k [] ≡ row)
  every_both row l s = ⊎_elim
      (λ a. let f = below.every row a s in (f.0, omega (arith, f.1, long), left f.0 f.1 ∙ f.2))
      (λ a.
      let e : length row ≡ r = omega (arith, l, a) in
      let f = these.every row (subst (λ m. CombinationRow n m row) e s) in
      let q : length rows + f.0 - length rows ≡ f.0 = omega arith in
      (length rows + f.0, omega (arith, f.1, long), right (length rows + f.0) (omega arith) ∙ ap (λ k. get_or more k []) q ∙ f.2))
      (cases_lt (length row) r)

  ascending_both : (j k : ℕ) → j < k → k < length (rows ++ more) → Sooner (get_or (rows ++ more) j []) (get_or (rows ++ more) k [])
  ascending_both j k h l = ⊎_elim
      (λ a. subst (λ row. Sooner row (get_or (rows ++ more) k [])) (sym (left j (omega (arith, h, a)))) (subst (Sooner (get_or rows j [])) (sym (left k a)) (below.ascending j k h a)))
      (λ a.
      let m : k - length rows < length more = omega (arith, l, a, long) in
      subst (Sooner (get_or (rows ++ more) j [])) (sym (right k a)) (⊎_elim
      (λ b. subst (λ row. Sooner row (get_or more (k - length rows) [])) (sym (left j b)) (inl (let s = (below.lawful j b).0 in let e = long_row (k - length rows) m in omega (arith, s, e))))
      (λ b.
      let i : j - length rows < k - length rows = omega (arith, h, a, b) in
      subst (λ row. Sooner row (get_or more (k - length rows) [])) (sym (right j b))
      (inr (long_row (j - length rows) (omega (arith, i, m)) ∙ sym (long_row (k - length rows) m), these.ascending (j - length rows) (k - length rows) i m)))
      (cases_lt j (length rows))))
      (cases_lt k (length rows))

  below_more : Below n (r + 1) (rows ++ more)
  below_more = record { lawful = lawful_both; every = every_both; ascending = ascending_both }

all_below : (n r : ℕ) → Below n r (rows_below n r)
all_below n zero = below_none n
all_below n (suc r) = subst (λ m. Below n m (rows_below n (suc r))) (omega arith)
    (below_more n r (rows_below n r) (combination_rows n r) (all_below n r) (in_order (CombinationRow n r) r (combination_rows n r) (combinations_listed n r)))

-- places that rise are at least as far from the front as they are many
module _ (n : ℕ) (row : List ℕ) (s : Subset n row) where
  place_high : (k : ℕ) → k < length row → k ≤ get_or row k 0
  place_high zero l = omega arith
  place_high (suc k) l = let h = place_high k (omega arith) in let u = s.rising k (suc k) (omega arith) l in omega (arith, h, u)

  none_longer : length row < n + 1
  none_longer = ⊎_elim
      (λ z. omega (arith, z))
      (λ p.
      let h = place_high (length row - 1) (omega (arith, p)) in
      let b = s.below (length row - 1) (omega (arith, p)) in
      omega (arith, h, b))
      (cases_lt (length row) 1)

pub all_subsets : (n : ℕ) → AllSubsets n (subset_rows n)
all_subsets n =
    let b : Below n (n + 1) (subset_rows n) = all_below n (n + 1) in
    record { lawful = λ k l. (b.lawful k l).1; every = λ row s. b.every row (none_longer n row s) s; ascending = b.ascending }
