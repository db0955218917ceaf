-- What a making refuses, for any limits.
use Rattle.std.proofs.Common.{◌≡◌, ℕ, zero, suc, ◌<◌, ◌≤◌, Bool, true, false, cond, ◌||◌, ltb, List, [], ◌∷◌, length, get_or, Some, None, Ok, Result, refl, ap, ◌∙◌, arith}
use Rattle.std.proofs.lemmas.Bool.{ltb-false, lt-ltb, le-ltb, or_left, or_right}
use Rattle.steps.specs.declared.refusal.Refusal.{Refusal}
use Rattle.steps.specs.declared.refusal.Refusal.TheVariants.{PoolTooLong, RowTooLong}
use Rattle.row_laws.specs.Calls.{Limits, some_above, refusal_of_making, MakingLaw, number_of_refusal, allowed}

module _ (limits : Limits) where
  -- what is known of a making that was allowed
  pub record Fits (xs : List ℕ) (w : ℕ) : Type 0 where
    pub makable : refusal_of_making limits xs w ≡ None
    pub pools : some_above limits.elements xs ≡ false
    pub few : length xs ≤ limits.places
    pub short : w ≤ limits.places

  by_tests : (a b c : Bool) → Ok tt ≡ allowed (cond a (Some PoolTooLong) (cond (b || c) (Some RowTooLong) None))
      → (cond a (Some PoolTooLong) (cond (b || c) (Some RowTooLong) None) ≡ None) × (a ≡ false) × (b ≡ false) × (c ≡ false)
  by_tests true b c h = let z : ◌≡◌ {A = ℕ} 0 1 = cc in absurd (omega arith)
  by_tests false true c h = let z : ◌≡◌ {A = ℕ} 0 1 = cc in absurd (omega arith)
  by_tests false false true h = let z : ◌≡◌ {A = ℕ} 0 1 = cc in absurd (omega arith)
  by_tests false false false h = (refl, refl, refl, refl)

  pub fits : (xs : List ℕ) (w : ℕ) → Ok tt ≡ allowed (refusal_of_making limits xs w) → Fits xs w
  fits xs w h =
      let t = by_tests (some_above limits.elements xs) (ltb limits.places (length xs)) (ltb limits.places w) h in
      record { makable = t.0; pools = t.1; few = ltb-false limits.places (length xs) t.2; short = ltb-false limits.places w t.3 }

-- ---- the same in words

above_at : (limit : ℕ) (xs : List ℕ) (k : ℕ) → k < length xs → limit < get_or xs k 0 → some_above limit xs ≡ true
above_at limit [] k l h = absurd (omega arith)
above_at limit (x ∷ xs) zero l h = or_left (ltb limit x) (some_above limit xs) (lt-ltb limit x h)
above_at limit (x ∷ xs) (suc k) l h = or_right (ltb limit x) (some_above limit xs) (above_at limit xs k (omega arith) h)

none_above : (limit : ℕ) (xs : List ℕ) → ((k : ℕ) → k < length xs → get_or xs k 0 ≤ limit) → some_above limit xs ≡ false
none_above limit [] h = refl
none_above limit (x ∷ xs) h =
    let a : ltb limit x ≡ false = le-ltb limit x (h 0 (omega arith)) in
    rw a (none_above limit xs (λ k l. h (suc k) (omega arith)))

module _ (limits : Limits) (xs : List ℕ) (w : ℕ) (answer : Result (Unit {0}) Refusal) (is : answer ≡ allowed (refusal_of_making limits xs w)) where
  by_parts : (a b c : Bool) → some_above limits.elements xs ≡ a → ltb limits.places (length xs) ≡ b → ltb limits.places w ≡ c
      → answer ≡ allowed (cond a (Some PoolTooLong) (cond (b || c) (Some RowTooLong) None))
  by_parts a b c p q r =
      is ∙ ap (λ z. allowed (cond z (Some PoolTooLong) (cond (ltb limits.places (length xs) || ltb limits.places w) (Some RowTooLong) None))) p
      ∙ ap (λ z. allowed (cond a (Some PoolTooLong) (cond (z || ltb limits.places w) (Some RowTooLong) None))) q
      ∙ ap (λ z. allowed (cond a (Some PoolTooLong) (cond (b || z) (Some RowTooLong) None))) r

  too_wide : (b : Bool) → ltb limits.places (length xs) ≡ b → some_above limits.elements xs ≡ false → ltb limits.places w ≡ true → number_of_refusal answer ≡ Some 2
  too_wide true e p r = ap number_of_refusal (by_parts false true true p e r)
  too_wide false e p r = ap number_of_refusal (by_parts false false true p e r)

  pub making_law : MakingLaw limits xs w answer
  making_law = record {
    long_pool = λ k l h. ap number_of_refusal (by_parts true (ltb limits.places (length xs)) (ltb limits.places w) (above_at limits.elements xs k l h) refl refl);
    many_pools = λ h l. ap number_of_refusal (by_parts false true (ltb limits.places w) (none_above limits.elements xs h) (lt-ltb limits.places (length xs) l) refl);
    long_row = λ h l. too_wide (ltb limits.places (length xs)) refl (none_above limits.elements xs h) (lt-ltb limits.places w l);
    no_other = λ h l m. by_parts false false false (none_above limits.elements xs h) (le-ltb limits.places (length xs) l) (le-ltb limits.places w m);
  }
