-- Reading the numbers of a payload, and the text of an answer.
use Rattle.std.proofs.Common.{◌≡◌, ℕ, ◌+◌, ◌-◌, ◌<◌, ◌≤◌, min, List, [], ◌∷◌, ◌++◌, length, get_or, take, drop, set, Ok, Err, sym, refl, ap, ⊎_elim, ◌∙◌, arith}
use Rattle.std.proofs.Math.Seq.{take-add, take-append_seam, take-length}
use Rattle.std.proofs.lemmas.List.{take-append-drop, take_more_set, drop-set-lt, drop-drop, take_all}
use Rattle.std.proofs.lemmas.Bool.{cases_lt}
use Rattle.steps.specs.declared.fault.Fault.{Fault}
use Rattle.steps.specs.declared.call_error.CallError.TheVariants.{Refused, Broken}
use Rattle.steps.specs.Refusals.{refusal_number}
use Rattle.steps.specs.Steps.{Step}
use Rattle.steps.specs.declared.refusal.Refusal.{Refusal}
use Rattle.sources.specs.Frame.{word}
use Rattle.row_laws.specs.Calls.{at_front}
use Rattle.row_laws.specs.Listing.{listing}
use Rattle.jobs.specs.Job.{words, Asked, JobListed, text_of, made_text, fault_text, refusal_text}

-- the first of some numbers, from the first two of their bytes, and the others
pub first_word : (bytes : List ℕ) → 2 ≤ length bytes → words bytes ≡ word (get_or bytes 0 0) (get_or bytes 1 0) ∷ words (drop 2 bytes)
first_word [] l = absurd (omega arith)
first_word (a ∷ []) l = absurd (omega arith)
first_word (a ∷ (b ∷ bytes)) l = refl

pub no_word : (bytes : List ℕ) → length bytes < 2 → words bytes ≡ []
no_word [] l = refl
no_word (a ∷ []) l = refl
no_word (a ∷ (b ∷ bytes)) l = absurd (omega arith)

-- what is left behind the first of what is left
pub left_more : (i : ℕ) (xs rest : List ℕ) (x : ℕ) → drop i xs ≡ x ∷ rest → rest ≡ drop (i + 1) xs
left_more i xs rest x e = sym (ap (drop 1) e) ∙ drop-drop 1 i xs

-- one more written at the end of the front
pub front_more : (i : ℕ) (xs numbers rest : List ℕ) (x : ℕ) → i < length numbers → drop i xs ≡ x ∷ rest → take i numbers ≡ take i xs → take (i + 1) (set numbers i x) ≡ take (i + 1) xs
front_more i xs numbers rest x l e front =
    take_more_set numbers i x l ∙ ap (λ ys. ys ++ (x ∷ [])) front ∙ ap (λ zs. take i xs ++ take 1 zs) (sym e) ∙ sym (take-add i 1 xs)

pub behind_more : (i : ℕ) (numbers old : List ℕ) (x : ℕ) → drop i numbers ≡ drop i old → drop (i + 1) (set numbers i x) ≡ drop (i + 1) old
behind_more i numbers old x e =
    drop-set-lt (i + 1) numbers i x (omega arith) ∙ sym (drop-drop 1 i numbers) ∙ ap (drop 1) e ∙ drop-drop 1 i old

-- all written
pub all_written : (i : ℕ) (xs numbers old : List ℕ) → i ≡ length xs → take i numbers ≡ take i xs → drop i numbers ≡ drop i old → numbers ≡ at_front xs old
all_written i xs numbers old e front behind =
    sym (take-append-drop i numbers) ∙ ap (λ ys. ys ++ drop i numbers) front ∙ ap (λ zs. take i xs ++ zs) behind
    ∙ ap (λ k. take k xs ++ drop k old) e ∙ ap (λ ys. ys ++ drop (length xs) old) (take-length xs)

-- ---- the text of an answer

pub listed_text : (s : Step Asked) (count : ℕ) (old new : List ℕ) → JobListed s (Ok count) old new → (count ≡ length (text_of s)) × (new ≡ at_front (text_of s) old)
listed_text (Ok job) count old new h =
    let same : listing job.rows ≡ text_of (Ok job) = ap (λ o. made_text o job.rows) (sym h.0) in
    (h.1 ∙ ap length same, h.2 ∙ ap (λ t. at_front t old) same)
listed_text (Err f) count old new h = absurd h

pub faulty_text : (s : Step Asked) (f : Fault) (old new : List ℕ) → JobListed s (Err (Broken f)) old new → (fault_text f.cause ≡ text_of s) × (new ≡ old)
faulty_text (Ok job) f old new h = absurd h
faulty_text (Err g) f old new h = (ap (λ z. fault_text z.cause) h.0, h.1)

pub refused_text : (s : Step Asked) (refusal : Refusal) (old new : List ℕ) → JobListed s (Err (Refused refusal)) old new → (refusal_text (refusal_number refusal) ≡ text_of s) × (new ≡ old)
refused_text (Ok job) refusal old new h = (ap (λ o. made_text o job.rows) (sym h.0), h.1)
refused_text (Err g) refusal old new h = absurd h

-- a cut at the length or at the most, whichever is less
pub cut_at : (n most : ℕ) (xs : List ℕ) → n ≡ min (length xs) most → take (n - 0) xs ≡ take most xs
cut_at n most xs e = ⊎_elim
    (λ l. ap (λ k. take k xs) (omega (arith, e, l)))
    (λ g. take_all (n - 0) xs (omega (arith, e, g)) ∙ sym (take_all most xs (omega (arith, g))))
    (cases_lt most (length xs))

pub text_first : (count : ℕ) (text old : List ℕ) → count ≡ length text → take count (at_front text old) ≡ text
text_first count text old e = ap (λ k. take k (text ++ drop (length text) old)) e ∙ take-append_seam text (drop (length text) old)
