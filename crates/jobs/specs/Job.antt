-- Jobs, and the text that answers them.
use Rattle.std.specs.Prelude.{◌≡◌, ℕ, ◌*◌, ◌%◌, ◌<◌, ◌≢◌, cond, List, [], ◌∷◌, ◌++◌, length, take, Some, None, Ok, Err, Option, Result, MatchResult, codes, decimal, ◌==◌}
use Rattle.steps.specs.declared.refusal.Refusal.{Refusal}
use Rattle.steps.specs.Refusals.{refusal_number}
use Rattle.steps.specs.Steps.{Step}
use Rattle.steps.specs.declared.call_error.CallError.{CallError}
use Rattle.steps.specs.declared.call_error.CallError.TheVariants.{Refused, Broken}
use Rattle.sources.specs.Frame.{Framed, framed, word, broken}
use Rattle.row_laws.specs.Calls.{controller, refusal_of_making, refusal_number_of_making, at_front}
use Rattle.row_laws.specs.Lawful.{ProductRow, CombinationRow, ReplacementRow, PermutationRow, AllInOrder}
use Rattle.row_laws.specs.Lists.{product_rows, combination_rows, replacement_rows, permutation_rows}
use Rattle.row_laws.specs.Listing.{listing, Lists}

-- the numbers in some bytes, two bytes each; a last byte alone is none
abbrev pub words : List ℕ → List ℕ
words [] = []
words (low ∷ []) = []
words (low ∷ (high ∷ bytes)) = word low high ∷ words bytes

-- what is asked for: pools of some lengths, rows of so many places, and which rows
pub record Asked : Type 0 where
  pub lengths : List ℕ
  pub width : ℕ
  pub rows : List (List ℕ)

abbrev pub asked_product : List ℕ → ℕ → Asked
asked_product lengths repeat = record { lengths = lengths; width = length lengths * repeat; rows = product_rows lengths repeat }

abbrev pub asked_one : (ℕ → ℕ → List (List ℕ)) → ℕ → ℕ → Asked
asked_one rows n r = record { lengths = n ∷ []; width = r; rows = rows n r }

-- a payload of the repeat and then the lengths; an odd one and an empty one are cause 4
abbrev pub product_step : ℕ → List ℕ → Step Asked
product_step place [] = Err (broken 4 place)
product_step place (a ∷ []) = Err (broken 4 place)
product_step place (a ∷ (b ∷ bytes)) = cond (length bytes % 2 == 0) (Ok (asked_product (words bytes) (word a b))) (Err (broken 4 place))

-- a payload of n and r; any other length is cause 4
abbrev pub one_pool_step : (ℕ → ℕ → List (List ℕ)) → ℕ → List ℕ → Step Asked
one_pool_step rows place (a ∷ (b ∷ (c ∷ (d ∷ [])))) = Ok (asked_one rows (word a b) (word c d))
one_pool_step rows place [] = Err (broken 4 place)
one_pool_step rows place (a ∷ []) = Err (broken 4 place)
one_pool_step rows place (a ∷ (b ∷ [])) = Err (broken 4 place)
one_pool_step rows place (a ∷ (b ∷ (c ∷ []))) = Err (broken 4 place)
one_pool_step rows place (a ∷ (b ∷ (c ∷ (d ∷ (e ∷ more))))) = Err (broken 4 place)

-- the step of a record with this kind and this payload: another kind is cause 3
abbrev pub job_step : ℕ → ℕ → List ℕ → Step Asked
job_step place kind payload =
    cond (kind == 1) (product_step place payload)
    (cond (kind == 2) (one_pool_step combination_rows place payload)
    (cond (kind == 3) (one_pool_step replacement_rows place payload)
    (cond (kind == 4) (one_pool_step permutation_rows place payload) (Err (broken 3 place)))))

-- the job at the front of some bytes; no bytes are cause 1
abbrev pub job_of : Result Framed ℕ → Step Asked
job_of (Err cause) = Err (broken cause 0)
job_of (Ok r) = job_step 0 r.kind r.payload

abbrev pub fault_text : ℕ → List ℕ
fault_text cause = codes "fault " ++ (decimal cause ++ codes "\n")

abbrev pub refusal_text : ℕ → List ℕ
refusal_text number = codes "refused " ++ (decimal number ++ codes "\n")

-- the listing of what is asked for, or why its making is refused
abbrev pub made_text : Option Refusal → List (List ℕ) → List ℕ
made_text None rows = listing rows
made_text (Some refusal) rows = refusal_text (refusal_number refusal)

abbrev pub text_of : Step Asked → List ℕ
text_of (Err f) = fault_text f.cause
text_of (Ok job) = made_text (refusal_of_making controller job.lengths job.width) job.rows

-- the listing of the rows of a making is written, and the rest of the buffer is as it was; or the making is refused and nothing is written
abbrev pub Listed : List ℕ → ℕ → List (List ℕ) → Result ℕ Refusal → List ℕ → List ℕ → Type 0
Listed lengths width rows result old new = MatchResult result
    (λ count. (refusal_of_making controller lengths width ≡ None) × (count ≡ length (listing rows)) × (new ≡ at_front (listing rows) old))
    (λ refusal. (refusal_of_making controller lengths width ≡ Some refusal) × (new ≡ old))

-- the same of a job, or its fault is answered and nothing is written
abbrev pub JobListed : Step Asked → Result ℕ CallError → List ℕ → List ℕ → Type 0
JobListed (Ok job) (Ok count) old new = Listed job.lengths job.width job.rows (Ok count) old new
JobListed (Ok job) (Err (Refused refusal)) old new = Listed job.lengths job.width job.rows (Err refusal) old new
JobListed (Ok job) (Err (Broken fault)) old new = ⊥
JobListed (Err f) (Ok count) old new = ⊥
JobListed (Err f) (Err (Refused refusal)) old new = ⊥
JobListed (Err f) (Err (Broken fault)) old new = (fault ≡ f) × (new ≡ old)

-- what is printed for an input
abbrev pub answer_text : List ℕ → List ℕ
answer_text input = text_of (job_of (framed (take 4096 input)))

-- ---- the same in words

-- The text of rows of so many places from pools of these lengths: where their making is refused, the refusal's number; otherwise it
-- lists rows, which are all the lawful ones in order.
pub data Shows (Lawful : List ℕ → Type 0) (lengths : List ℕ) (width : ℕ) : List ℕ → Type 0 where
  shows_refusal : (number : ℕ) → refusal_number_of_making controller lengths width ≡ Some number → Shows Lawful lengths width (refusal_text number)
  shows_rows : {text : List ℕ} (rows : List (List ℕ)) → refusal_number_of_making controller lengths width ≡ None → AllInOrder Lawful rows → Lists rows text → Shows Lawful lengths width text

-- The text of a job with a kind and a payload. A kind that is none of 1 to 4 is cause 3, whatever the payload. Of a product (1) an empty
-- payload and an odd one are cause 4, of the others any but four bytes.
pub data JobShown : ℕ → List ℕ → List ℕ → Type 0 where
  other_kind : {kind : ℕ} {payload : List ℕ} → kind ≢ 1 → kind ≢ 2 → kind ≢ 3 → kind ≢ 4 → JobShown kind payload (fault_text 3)
  empty_product : JobShown 1 [] (fault_text 4)
  odd_product : {payload : List ℕ} → length payload % 2 ≢ 0 → JobShown 1 payload (fault_text 4)
  other_length : {kind : ℕ} {payload : List ℕ} → 1 < kind → kind < 5 → length payload ≢ 4 → JobShown kind payload (fault_text 4)
  product : {q0 q1 : ℕ} {lengths text : List ℕ} → length lengths % 2 ≡ 0 → Shows (ProductRow (words lengths) (word q0 q1)) (words lengths) (length (words lengths) * word q0 q1) text → JobShown 1 (q0 ∷ (q1 ∷ lengths)) text
  combinations : {n0 n1 r0 r1 : ℕ} {text : List ℕ} → Shows (CombinationRow (word n0 n1) (word r0 r1)) (word n0 n1 ∷ []) (word r0 r1) text → JobShown 2 (n0 ∷ (n1 ∷ (r0 ∷ (r1 ∷ [])))) text
  replacement : {n0 n1 r0 r1 : ℕ} {text : List ℕ} → Shows (ReplacementRow (word n0 n1) (word r0 r1)) (word n0 n1 ∷ []) (word r0 r1) text → JobShown 3 (n0 ∷ (n1 ∷ (r0 ∷ (r1 ∷ [])))) text
  permutations : {n0 n1 r0 r1 : ℕ} {text : List ℕ} → Shows (PermutationRow (word n0 n1) (word r0 r1)) (word n0 n1 ∷ []) (word r0 r1) text → JobShown 4 (n0 ∷ (n1 ∷ (r0 ∷ (r1 ∷ [])))) text

-- The text that answers some bytes. Fewer than four are cause 1, a payload cut short is cause 2; otherwise the record at the front
-- is answered, whatever stands behind it.
pub data Answers : List ℕ → List ℕ → Type 0 where
  cut_header : {bytes : List ℕ} → length bytes < 4 → Answers bytes (fault_text 1)
  cut_payload : {l0 l1 k0 k1 : ℕ} {bytes : List ℕ} → length bytes < word l0 l1 → Answers (l0 ∷ (l1 ∷ (k0 ∷ (k1 ∷ bytes)))) (fault_text 2)
  one_job : {l0 l1 k0 k1 : ℕ} {text : List ℕ} (payload behind : List ℕ) → length payload ≡ word l0 l1 → JobShown (word k0 k1) payload text → Answers (l0 ∷ (l1 ∷ (k0 ∷ (k1 ∷ (payload ++ behind))))) text
