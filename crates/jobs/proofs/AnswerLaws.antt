-- The text that is printed for an input is what the law in words says of it.
use Rattle.std.proofs.Common.{◌≡◌, ℕ, ◌*◌, ◌%◌, ◌<◌, ◌≤◌, ◌||◌, Bool, true, false, cond, eqb, ltb, List, [], ◌∷◌, length, get_or, take, drop, Some, None, Ok, Err, Option, ◌≢◌, sym, refl, ap, ◌∙◌, subst, arith}
use Rattle.std.proofs.Math.Nat.{lt_of_lt_of_le}
use Rattle.std.specs.List.{AllByRecursion}
use Rattle.std.proofs.ByRecursion.{All-weaker, All-from_get_or}
use Rattle.std.proofs.Math.Seq.{take-append_seam}
use Rattle.std.proofs.lemmas.List.{take-append-drop, length-take-le}
use Rattle.std.proofs.lemmas.Bool.{eqb-true, eqb-false, ltb-true, ltb-false}
use Rattle.steps.specs.declared.refusal.Refusal.{Refusal}
use Rattle.steps.specs.declared.refusal.Refusal.TheVariants.{PoolTooLong, RowTooLong}
use Rattle.steps.specs.Refusals.{refusal_number}
use Rattle.sources.specs.Frame.{framed, word, broken}
use Rattle.row_laws.specs.Calls.{controller, some_above, refusal_of_making, refusal_number_of_making, at_front}
use Rattle.row_laws.specs.Lawful.{ProductRow, CombinationRow, ReplacementRow, PermutationRow}
use Rattle.row_laws.specs.Lists.{product_rows, combination_rows, replacement_rows, permutation_rows}
use Rattle.row_laws.specs.Listed.{Listed}
use Rattle.row_laws.specs.Listing.{listing, Lists}
use Rattle.row_laws.proofs.Carries.{short_at}
use Rattle.row_laws.proofs.Families.{in_order, products_listed, combinations_listed, replacements_listed, permutations_listed}
use Rattle.row_laws.proofs.Listings.{lists, numbers}
use Rattle.jobs.specs.Job.{words, asked_product, product_step, one_pool_step, job_step, job_of, text_of, made_text, answer_text, Shows, shows_refusal, shows_rows, JobShown, other_kind, empty_product, odd_product, other_length, product, combinations, replacement, permutations, Answers, cut_header, cut_payload, one_job}

-- a refused making by its name and by its number
number_of : (lengths : List ℕ) (width : ℕ) (refusal : Refusal) → refusal_of_making controller lengths width ≡ Some refusal → refusal_number_of_making controller lengths width ≡ Some (refusal_number refusal)
number_of lengths width refusal e = by_pools (some_above 256 lengths) (ltb 64 (length lengths) || ltb 64 width) e
  where
    by_pools : (a b : Bool) → cond a (Some PoolTooLong) (cond b (Some RowTooLong) None) ≡ Some refusal → cond {A = Option ℕ} a (Some 1) (cond b (Some 2) None) ≡ Some (refusal_number refusal)
    by_pools true b h = let same : PoolTooLong ≡ refusal = cc in ap (λ r. Some (refusal_number r)) same
    by_pools false true h = let same : RowTooLong ≡ refusal = cc in ap (λ r. Some (refusal_number r)) same
    by_pools false false h = cc

-- an accepted one: its pools are short
pub accepted : (lengths : List ℕ) (width : ℕ) → refusal_of_making controller lengths width ≡ None → (some_above 256 lengths ≡ false) × (refusal_number_of_making controller lengths width ≡ None)
accepted lengths width e = by_pools (some_above 256 lengths) (ltb 64 (length lengths) || ltb 64 width) e
  where
    by_pools : (a b : Bool) → cond a (Some PoolTooLong) (cond b (Some RowTooLong) None) ≡ None → (a ≡ false) × (cond {A = Option ℕ} a (Some 1) (cond b (Some 2) None) ≡ None)
    by_pools true b h = cc
    by_pools false true h = cc
    by_pools false false h = (refl, refl)

-- the text of all rows of a law whose places are low in short pools
module _ (Law : List ℕ → Type 0) (lengths : List ℕ) (width : ℕ) (rows : List (List ℕ)) (listed : Listed Law width rows)
    (low : some_above 256 lengths ≡ false → (y : List ℕ) → Law y → (k : ℕ) → k < width → get_or y k 0 < 256) where
  lists_rows : some_above 256 lengths ≡ false → Lists rows (listing rows)
  lists_rows short =
      lists rows (numbers rows (All-weaker Law (λ y. AllByRecursion (λ p. p < 256) y)
      (λ y law. let long : length y ≡ width = listed.sized y law in All-from_get_or (λ p. p < 256) y 0 (λ k k<. low short y law k (omega arith)))
      rows listed.laws))

  pub shows : Shows Law lengths width (made_text (refusal_of_making controller lengths width) rows)
  shows = by_refusal (refusal_of_making controller lengths width) refl
    where
      by_refusal : (o : Option Refusal) → refusal_of_making controller lengths width ≡ o → Shows Law lengths width (made_text o rows)
      by_refusal None e = let a = accepted lengths width e in shows_rows rows a.1 (in_order Law width rows listed) (lists_rows a.0)
      by_refusal (Some refusal) e = shows_refusal (refusal_number refusal) (number_of lengths width refusal e)

-- the places of a product's row are below the lengths of its pools
product_low : (lengths : List ℕ) (q : ℕ) → some_above 256 lengths ≡ false → (y : List ℕ) → ProductRow lengths q y → (k : ℕ) → k < length lengths * q → get_or y k 0 < 256
product_low lengths q short y law k l =
    let long : length y ≡ length lengths * q = law.long in
    lt_of_lt_of_le (law.below k (omega arith)) (short_at 256 lengths short (k % length lengths))

-- those of a row from one pool are below its length
one_low : (n : ℕ) → some_above 256 (n ∷ []) ≡ false → n ≤ 256
one_low n short = short_at 256 (n ∷ []) short 0

product_shown : (place : ℕ) (payload : List ℕ) → JobShown 1 payload (text_of (product_step place payload))
product_shown place [] = empty_product
product_shown place (a ∷ []) = odd_product (λ e. absurd (omega (arith, e)))
product_shown place (a ∷ (b ∷ bytes)) = by_parity (eqb (length bytes % 2) 0) refl
  where
    by_parity : (t : Bool) → eqb (length bytes % 2) 0 ≡ t → JobShown 1 (a ∷ (b ∷ bytes)) (text_of (cond t (Ok (asked_product (words bytes) (word a b))) (Err (broken 4 place))))
    by_parity true e = product (eqb-true (length bytes % 2) 0 e)
        (shows (ProductRow (words bytes) (word a b)) (words bytes) (length (words bytes) * word a b) (product_rows (words bytes) (word a b)) (products_listed (words bytes) (word a b)) (product_low (words bytes) (word a b)))
    by_parity false e = odd_product (λ z. eqb-false (length bytes % 2) 0 e (omega (arith, z)))

module _ (kind : ℕ) (place : ℕ) (one : 1 < kind) (four : kind < 5) (rows : ℕ → ℕ → List (List ℕ))
    (made : (a b c d : ℕ) → JobShown kind (a ∷ (b ∷ (c ∷ (d ∷ [])))) (made_text (refusal_of_making controller (word a b ∷ []) (word c d)) (rows (word a b) (word c d)))) where
  one_pool_shown : (payload : List ℕ) → JobShown kind payload (text_of (one_pool_step rows place payload))
  one_pool_shown [] = other_length one four (λ e. absurd (omega (arith, e)))
  one_pool_shown (a ∷ []) = other_length one four (λ e. absurd (omega (arith, e)))
  one_pool_shown (a ∷ (b ∷ [])) = other_length one four (λ e. absurd (omega (arith, e)))
  one_pool_shown (a ∷ (b ∷ (c ∷ []))) = other_length one four (λ e. absurd (omega (arith, e)))
  one_pool_shown (a ∷ (b ∷ (c ∷ (d ∷ [])))) = made a b c d
  one_pool_shown (a ∷ (b ∷ (c ∷ (d ∷ (e ∷ more))))) = other_length one four (λ z. absurd (omega (arith, z)))

job_shown : (kind place : ℕ) (payload : List ℕ) → JobShown kind payload (text_of (job_step place kind payload))
job_shown kind place payload = by_one (eqb kind 1) refl
  where
    by_four : (t : Bool) → eqb kind 4 ≡ t → kind ≢ 1 → kind ≢ 2 → kind ≢ 3 → JobShown kind payload (text_of (cond t (one_pool_step permutation_rows place payload) (Err (broken 3 place))))
    by_four true e a b c = subst (λ k. JobShown k payload (text_of (one_pool_step permutation_rows place payload))) (sym (eqb-true kind 4 e))
        (one_pool_shown 4 place (omega arith) (omega arith) permutation_rows
        (λ n0 n1 r0 r1. permutations (shows (PermutationRow (word n0 n1) (word r0 r1)) (word n0 n1 ∷ []) (word r0 r1) (permutation_rows (word n0 n1) (word r0 r1)) (permutations_listed (word n0 n1) (word r0 r1))
        (λ short y law k l. lt_of_lt_of_le (law.below k l) (one_low (word n0 n1) short)))) payload)
    by_four false e a b c = other_kind a b c (eqb-false kind 4 e)

    by_three : (t : Bool) → eqb kind 3 ≡ t → kind ≢ 1 → kind ≢ 2 → JobShown kind payload (text_of (cond t (one_pool_step replacement_rows place payload) (cond (eqb kind 4) (one_pool_step permutation_rows place payload) (Err (broken 3 place)))))
    by_three true e a b = subst (λ k. JobShown k payload (text_of (one_pool_step replacement_rows place payload))) (sym (eqb-true kind 3 e))
        (one_pool_shown 3 place (omega arith) (omega arith) replacement_rows
        (λ n0 n1 r0 r1. replacement (shows (ReplacementRow (word n0 n1) (word r0 r1)) (word n0 n1 ∷ []) (word r0 r1) (replacement_rows (word n0 n1) (word r0 r1)) (replacements_listed (word n0 n1) (word r0 r1))
        (λ short y law k l. lt_of_lt_of_le (law.below k l) (one_low (word n0 n1) short)))) payload)
    by_three false e a b = by_four (eqb kind 4) refl a b (eqb-false kind 3 e)

    by_two : (t : Bool) → eqb kind 2 ≡ t → kind ≢ 1 → JobShown kind payload (text_of (cond t (one_pool_step combination_rows place payload) (cond (eqb kind 3) (one_pool_step replacement_rows place payload) (cond (eqb kind 4) (one_pool_step permutation_rows place payload) (Err (broken 3 place))))))
    by_two true e a = subst (λ k. JobShown k payload (text_of (one_pool_step combination_rows place payload))) (sym (eqb-true kind 2 e))
        (one_pool_shown 2 place (omega arith) (omega arith) combination_rows
        (λ n0 n1 r0 r1. combinations (shows (CombinationRow (word n0 n1) (word r0 r1)) (word n0 n1 ∷ []) (word r0 r1) (combination_rows (word n0 n1) (word r0 r1)) (combinations_listed (word n0 n1) (word r0 r1))
        (λ short y law k l. lt_of_lt_of_le (law.below k l) (one_low (word n0 n1) short)))) payload)
    by_two false e a = by_three (eqb kind 3) refl a (eqb-false kind 2 e)

    by_one : (t : Bool) → eqb kind 1 ≡ t → JobShown kind payload (text_of (cond t (product_step place payload) (cond (eqb kind 2) (one_pool_step combination_rows place payload) (cond (eqb kind 3) (one_pool_step replacement_rows place payload) (cond (eqb kind 4) (one_pool_step permutation_rows place payload) (Err (broken 3 place)))))))
    by_one true e = subst (λ k. JobShown k payload (text_of (product_step place payload))) (sym (eqb-true kind 1 e)) (product_shown place payload)
    by_one false e = by_two (eqb kind 2) refl (eqb-false kind 1 e)

pub answers : (bytes : List ℕ) → Answers bytes (text_of (job_of (framed bytes)))
answers [] = cut_header (omega arith)
answers (a ∷ []) = cut_header (omega arith)
answers (a ∷ (b ∷ [])) = cut_header (omega arith)
answers (a ∷ (b ∷ (c ∷ []))) = cut_header (omega arith)
answers (l0 ∷ (l1 ∷ (k0 ∷ (k1 ∷ bytes)))) = by_length (ltb (length bytes) (word l0 l1)) refl
  where
    by_length : (t : Bool) → ltb (length bytes) (word l0 l1) ≡ t → Answers (l0 ∷ (l1 ∷ (k0 ∷ (k1 ∷ bytes))))
        (text_of (job_of (cond t (Err 2) (Ok (record { kind = word k0 k1; payload = take (word l0 l1) bytes; behind = drop (word l0 l1) bytes })))))
    by_length true e = cut_payload (ltb-true (length bytes) (word l0 l1) e)
    by_length false e =
        let n : ℕ = word l0 l1 in
        let fits : n ≤ length bytes = ltb-false (length bytes) (word l0 l1) e in
        subst (λ bs. Answers (l0 ∷ (l1 ∷ (k0 ∷ (k1 ∷ bs)))) (text_of (job_step 0 (word k0 k1) (take n bytes)))) (take-append-drop n bytes)
        (one_job (take n bytes) (drop n bytes) (length-take-le n bytes fits) (job_shown (word k0 k1) 0 (take n bytes)))

-- what stands at the front of the buffer
pub printed : (input : List ℕ) (count : ℕ) (old new : List ℕ) → count ≡ length (answer_text input) → new ≡ at_front (answer_text input) old → Answers (take 4096 input) (take count new)
printed input count old new e is =
    let text = answer_text input in
    let front : take count new ≡ text = ap (λ k. take k new) e ∙ ap (take (length text)) is ∙ take-append_seam text (drop (length text) old) in
    subst (Answers (take 4096 input)) (sym front) (answers (take 4096 input))
