-- One text behind another.
use Rattle.std.proofs.Common.{◌≡◌, ℕ, ◌+◌, ◌-◌, ◌≤◌, max, Ok, Err, Result, refl, List, [], ◌++◌, length, take, drop, sym, ap, ◌∙◌, arith, zero-add, append_assoc, length-append, length-drop, replicate, decimal}
use Rattle.std.proofs.Math.Nat.{sub-add-eq-max}
use Rattle.std.proofs.lemmas.List.{length-replicate, take-append-drop, length-take-le, take_at, drop_at, drop-drop}
use Rattle.std.proofs.lemmas.Bool.{cond_above}
use Rattle.steps.specs.declared.refusal.Refusal.{Refusal}
use Rattle.steps.specs.declared.refusal.Refusal.TheVariants.{ShortBuffer}
use Rattle.text.specs.Writer.{written, place_behind, if_room, padded}

-- Where a text fits, it is written, and the place behind it is answered.
pub place_fits : (at size room : ℕ) → at + size ≤ room → place_behind at size room ≡ Ok (at + size)
place_fits at size room h = sym (cond_above room (at + size) (Err ShortBuffer) (Ok (at + size)) (Ok (at + size)) h refl)

pub text_fits : (at : ℕ) (text bytes : List ℕ) → at + length text ≤ length bytes → if_room at text bytes ≡ written at text bytes
text_fits at text bytes h = sym (cond_above (length bytes) (at + length text) bytes (written at text bytes) (written at text bytes) h refl)

pub same_place : (m n : ℕ) → ◌≡◌ {A = Result ℕ Refusal} (Ok m) (Ok n) → m ≡ n
same_place m n e = cc

pub place_is : (at size room end : ℕ) → at + size ≤ room → Ok end ≡ place_behind at size room → end ≡ at + size
place_is at size room end h e = same_place end (at + size) (e ∙ place_fits at size room h)

-- the answer of a call behind which nothing more is written
pub answer_is : (at size room end : ℕ) (answer : Result ℕ Refusal) → at + size ≤ room → answer ≡ place_behind at size room → at + size ≡ end → answer ≡ Ok end
answer_is at size room end answer h e place = e ∙ place_fits at size room h ∙ ap Ok place

pub not_refused : (at size room : ℕ) (refusal : Refusal) → at + size ≤ room → Err refusal ≡ place_behind at size room → ⊥
not_refused at size room refusal h e = let same = e ∙ place_fits at size room h in cc

pub length-written : (at : ℕ) (text bytes : List ℕ) → at + length text ≤ length bytes → length (written at text bytes) ≡ length bytes
length-written at text bytes h =
    simp (length-append, length-drop) (omega (arith, length-take-le at bytes (omega arith)))

pub nothing_written : (at : ℕ) (bytes : List ℕ) → written at [] bytes ≡ bytes
nothing_written at bytes = ap (λ n. take at bytes ++ drop n bytes) (omega arith) ∙ take-append-drop at bytes

-- two texts one behind the other are one text
pub written_on : (at end : ℕ) (a b bytes : List ℕ) → end ≡ at + length a → end + length b ≤ length bytes → written end b (written at a bytes) ≡ written at (a ++ b) bytes
written_on at end a b bytes e h =
    let m = take at bytes in
    let d = drop (at + length a) bytes in
    let long : length (m ++ a) ≡ end = length-append m a ∙ ap (λ n. n + length a) (length-take-le at bytes (omega arith)) ∙ sym e in
    let both : at + length (a ++ b) ≡ at + length a + length b = omega (arith, length-append a b) in
    let left : drop (end + length b) ((m ++ a) ++ d) ≡ drop (at + length (a ++ b)) bytes =
    sym (drop-drop (length b) end ((m ++ a) ++ d)) ∙ ap (drop (length b)) (drop_at (m ++ a) d end long) ∙ drop-drop (length b) (at + length a) bytes ∙ ap (λ n. drop n bytes) (sym both) in
    ap (written end b) (sym (append_assoc m a d))
    ∙ ap (λ xs. xs ++ (b ++ drop (end + length b) ((m ++ a) ++ d))) (take_at (m ++ a) d end long)
    ∙ ap (λ xs. (m ++ a) ++ (b ++ xs)) left
    ∙ append_assoc m a (b ++ drop (at + length (a ++ b)) bytes)
    ∙ ap (λ xs. m ++ xs) (sym (append_assoc a b (drop (at + length (a ++ b)) bytes)))

-- a padded number is as long as the longer of its width and its digits
pub padded_length : (width n : ℕ) → length (padded width n) ≡ max width (length (decimal n))
unfolding padded
padded_length width n =
    length-append (replicate (width - length (decimal n)) 32) (decimal n)
    ∙ ap (λ k. k + length (decimal n)) (length-replicate (width - length (decimal n)) 32)
    ∙ sub-add-eq-max width (length (decimal n))

pub padded_parts : (width n : ℕ) (digits : List ℕ) → digits ≡ decimal n → padded width n ≡ replicate (width - length digits) 32 ++ digits
unfolding padded
padded_parts width n digits d = sym (ap (λ ds. replicate (width - length ds) 32 ++ ds) d)

-- a text that stands behind another, and where it ends
pub written_more : (start at end : ℕ) (a b bytes now new : List ℕ) → at ≡ start + length a → now ≡ written start a bytes → end ≡ at + length b → end ≤ length bytes → new ≡ written at b now
    → (end ≡ start + length (a ++ b)) × (new ≡ written start (a ++ b) bytes)
written_more start at end a b bytes now new here is ends fits e = (
  omega (arith, length-append a b, here, ends),
  e ∙ ap (written at b) is ∙ written_on start at a b bytes here (omega (arith, ends, fits)),
)

pub written_first : (text bytes : List ℕ) → written 0 text bytes ≡ text ++ drop (length text) bytes
written_first text bytes = ap (λ n. text ++ drop n bytes) (zero-add (length text))
