-- Texts of words with a byte between them, and of lines.
use Rattle.std.proofs.Common.{◌≡◌, ℕ, zero, suc, ◌+◌, ◌-◌, ◌*◌, ◌^◌, ◌<◌, ◌≤◌, max, ◌≢◌, List, [], ◌∷◌, ◌++◌, map, length, take, drop, get_or, sym, refl, ap, ◌∙◌, arith, add-one, append_assoc, append-nil, length-append, decimal}
use Rattle.std.specs.List.{AllByRecursion, flat_map, join_with_byte}
use Rattle.std.proofs.ByRecursion.{All-weaker, All-append, All-map}
use Rattle.std.proofs.lemmas.Fmt.{decimal_by_steps, decimal_injective, decimal_nonempty, length-decimal-le}
use Rattle.std.proofs.lemmas.List.{take_rest}
use Rattle.row_laws.specs.Listing.{row_text, spaced, line, row_line, WithoutFeed}

-- ---- cutting a text at the first of a byte

-- a word ends before a byte that does not stand in it
pub no_cut : {P : Type 0} (c : ℕ) (xs ys t : List ℕ) → AllByRecursion (λ b. b ≢ c) xs → xs ≡ ys ++ (c ∷ t) → P
no_cut c [] [] t h e = cc
no_cut c [] (y ∷ ys) t h e = cc
no_cut c (x ∷ xs) [] t h e = let same : x ≡ c = cc in absurd (h.0 same)
no_cut c (x ∷ xs) (y ∷ ys) t h e = let others : xs ≡ ys ++ (c ∷ t) = cc in no_cut c xs ys t h.1 others

pub cut_first : (c : ℕ) (xs ys s t : List ℕ) → AllByRecursion (λ b. b ≢ c) xs → AllByRecursion (λ b. b ≢ c) ys → xs ++ (c ∷ s) ≡ ys ++ (c ∷ t) → (xs ≡ ys) × (s ≡ t)
cut_first c [] [] s t h g e = (refl, cc)
cut_first c [] (y ∷ ys) s t h g e = let same : y ≡ c = cc in absurd (g.0 same)
cut_first c (x ∷ xs) [] s t h g e = let same : x ≡ c = cc in absurd (h.0 same)
cut_first c (x ∷ xs) (y ∷ ys) s t h g e =
    let others : xs ++ (c ∷ s) ≡ ys ++ (c ∷ t) = cc in
    let head : x ≡ y = cc in
    let r = cut_first c xs ys s t h.1 g.1 others in
    (ap (λ z. z ∷ xs) head ∙ ap (λ zs. y ∷ zs) r.0, r.1)

-- ---- lines

pub same_lines : (xs ys : List (List ℕ)) → AllByRecursion WithoutFeed xs → AllByRecursion WithoutFeed ys → flat_map line xs ≡ flat_map line ys → xs ≡ ys
same_lines [] [] h g e = refl
same_lines [] (y ∷ ys) h g e = no_cut 10 [] y (flat_map line ys) tt (e ∙ append_assoc y (10 ∷ []) (flat_map line ys))
same_lines (x ∷ xs) [] h g e = no_cut 10 [] x (flat_map line xs) tt (sym e ∙ append_assoc x (10 ∷ []) (flat_map line xs))
same_lines (x ∷ xs) (y ∷ ys) h g e =
    let r = cut_first 10 x y (flat_map line xs) (flat_map line ys) h.0 g.0
    (sym (append_assoc x (10 ∷ []) (flat_map line xs)) ∙ e ∙ append_assoc y (10 ∷ []) (flat_map line ys)) in
    ap (λ z. z ∷ xs) r.0 ∙ ap (λ zs. y ∷ zs) (same_lines xs ys h.1 g.1 r.1)

-- ---- words

-- a word that is not empty and has no byte c
pub record Word (c : ℕ) (word : List ℕ) : Type 0 where
  pub some : 0 < length word
  pub free : AllByRecursion (λ b. b ≢ c) word

pub same_words : (c : ℕ) (xs ys : List (List ℕ)) → AllByRecursion (Word c) xs → AllByRecursion (Word c) ys → join_with_byte c xs ≡ join_with_byte c ys → xs ≡ ys
same_words c [] [] h g e = refl
same_words c [] (y ∷ []) h g e = absurd (omega (arith, g.0.some, ap length e))
same_words c [] (y ∷ (y2 ∷ ys)) h g e = no_cut c [] y (join_with_byte c (y2 ∷ ys)) tt e
same_words c (x ∷ []) [] h g e = absurd (omega (arith, h.0.some, ap length e))
same_words c (x ∷ (x2 ∷ xs)) [] h g e = no_cut c [] x (join_with_byte c (x2 ∷ xs)) tt (sym e)
same_words c (x ∷ []) (y ∷ []) h g e = ap (λ z. z ∷ []) e
same_words c (x ∷ []) (y ∷ (y2 ∷ ys)) h g e = no_cut c x y (join_with_byte c (y2 ∷ ys)) h.0.free e
same_words c (x ∷ (x2 ∷ xs)) (y ∷ []) h g e = no_cut c y x (join_with_byte c (x2 ∷ xs)) g.0.free (sym e)
same_words c (x ∷ (x2 ∷ xs)) (y ∷ (y2 ∷ ys)) h g e =
    let r = cut_first c x y (join_with_byte c (x2 ∷ xs)) (join_with_byte c (y2 ∷ ys)) h.0.free g.0.free e in
    ap (λ z. z ∷ (x2 ∷ xs)) r.0 ∙ ap (λ zs. y ∷ zs) (same_words c (x2 ∷ xs) (y2 ∷ ys) h.1 g.1 r.1)

pub all_joined : (P : ℕ → Type 0) (c : ℕ) → P c → (xs : List (List ℕ)) → AllByRecursion (AllByRecursion P) xs → AllByRecursion P (join_with_byte c xs)
all_joined P c p [] h = tt
all_joined P c p (x ∷ []) h = h.0
all_joined P c p (x ∷ (y ∷ ys)) h = All-append P x (c ∷ join_with_byte c (y ∷ ys)) h.0 (p, all_joined P c p (y ∷ ys) h.1)

-- ---- decimal numbers

-- all bytes of a number are digits, from 48 on
pub digits_above : (n : ℕ) → n < 2 ^ 64 → AllByRecursion (λ b. 48 ≤ b) (decimal n)
digits_above n h = decimal_by_steps (λ n ds. AllByRecursion (λ b. 48 ≤ b) ds)
    (λ n l. (omega arith, tt))
    (λ n ds l more. All-append (λ b. 48 ≤ b) ds _ more (omega arith, tt)) n h

pub decimal_word : (n : ℕ) → n < 2 ^ 64 → Word 32 (decimal n)
decimal_word n h = record { some = decimal_nonempty n h; free = All-weaker (λ b. 48 ≤ b) (λ b. b ≢ 32) (λ b l e. omega (arith, e, l)) (decimal n) (digits_above n h) }

pub decimal_words : (row : List ℕ) → AllByRecursion (λ p. p < 2 ^ 64) row → AllByRecursion (Word 32) (map decimal row)
decimal_words row h = All-map (Word 32) decimal row (All-weaker (λ p. p < 2 ^ 64) (λ p. Word 32 (decimal p)) decimal_word row h)

pub same_numbers : (xs ys : List ℕ) → AllByRecursion (λ p. p < 2 ^ 64) xs → AllByRecursion (λ p. p < 2 ^ 64) ys → map decimal xs ≡ map decimal ys → xs ≡ ys
same_numbers [] [] h g e = refl
same_numbers [] (y ∷ ys) h g e = cc
same_numbers (x ∷ xs) [] h g e = cc
same_numbers (x ∷ xs) (y ∷ ys) h g e =
    let first : decimal x ≡ decimal y = cc in
    let others : map decimal xs ≡ map decimal ys = cc in
    ap (λ z. z ∷ xs) (decimal_injective x y h.0 g.0 first) ∙ ap (λ zs. y ∷ zs) (same_numbers xs ys h.1 g.1 others)

-- ---- rows

pub same_rows : (xs ys : List ℕ) → AllByRecursion (λ p. p < 2 ^ 64) xs → AllByRecursion (λ p. p < 2 ^ 64) ys → row_text xs ≡ row_text ys → xs ≡ ys
same_rows xs ys h g e = same_numbers xs ys h g (same_words 32 (map decimal xs) (map decimal ys) (decimal_words xs h) (decimal_words ys g) e)

pub row_without_feed : (row : List ℕ) → AllByRecursion (λ p. p < 2 ^ 64) row → WithoutFeed (row_text row)
row_without_feed row h = all_joined (λ b. b ≢ 10) 32 (λ e. omega (arith, e)) (map decimal row)
    (All-map (AllByRecursion (λ b. b ≢ 10)) decimal row (All-weaker (λ p. p < 2 ^ 64) (λ p. AllByRecursion (λ b. b ≢ 10) (decimal p))
    (λ p l. All-weaker (λ b. 48 ≤ b) (λ b. b ≢ 10) (λ b m e. omega (arith, e, m)) (decimal p) (digits_above p l)) row h))

-- the first place, and then each other with a space before it
pub row_text_more : (p : ℕ) (ps : List ℕ) → row_text (p ∷ ps) ≡ decimal p ++ flat_map spaced ps
row_text_more p [] = sym (append-nil (decimal p))
row_text_more p (q ∷ ps) = ap (λ t. decimal p ++ (32 ∷ t)) (row_text_more q ps)

-- a row of places below 256 takes at most four bytes a place, and one where there is no place
spaced_short : (ps : List ℕ) → AllByRecursion (λ p. p < 256) ps → length (flat_map spaced ps) ≤ 4 * length ps
spaced_short [] h = omega arith
spaced_short (p ∷ ps) h =
    let few : length (decimal p) ≤ 3 = length-decimal-le 3 p (omega arith) (omega (arith, h.0)) (omega (arith, h.0)) in
    simp length-append (omega (arith, few, spaced_short ps h.1))

pub row_line_short : (row : List ℕ) → AllByRecursion (λ p. p < 256) row → length (row_line row) ≤ max 1 (4 * length row)
row_line_short [] h = omega arith
row_line_short (p ∷ ps) h =
    let few : length (decimal p) ≤ 3 = length-decimal-le 3 p (omega arith) (omega (arith, h.0)) (omega (arith, h.0)) in
    let long : length (row_line (p ∷ ps)) ≡ length (decimal p) + length (flat_map spaced ps) + 1 =
    length-append (row_text (p ∷ ps)) (10 ∷ []) ∙ ap (λ t. length t + 1) (row_text_more p ps) ∙ ap (λ n. n + 1) (length-append (decimal p) (flat_map spaced ps)) in
    omega (arith, long, few, spaced_short ps h.1)

-- the same of a row that is cut behind its first place
pub row_text_parts : (row : List ℕ) → 1 ≤ length row → row_text row ≡ decimal (get_or row 0 0) ++ flat_map spaced (take (length row - 1) (drop 1 row))
row_text_parts [] l = absurd (omega arith)
row_text_parts (p ∷ ps) l = row_text_more p ps ∙ ap (λ qs. decimal p ++ flat_map spaced qs) (sym (take_rest (p ∷ ps) 1))

-- one row more of those that are listed
taken_suc : (n : ℕ) (rows others : List (List ℕ)) (row : List ℕ) → drop n rows ≡ row ∷ others → take (suc n) rows ≡ take n rows ++ (row ∷ [])
taken_suc zero [] others row e = cc
taken_suc zero (r ∷ rows) others row e = let same : r ≡ row = cc in ap (λ z. z ∷ []) same
taken_suc (suc n) [] others row e = cc
taken_suc (suc n) (r ∷ rows) others row e = ap (λ z. r ∷ z) (taken_suc n rows others row e)

pub rows_parts : (n : ℕ) (rows others : List (List ℕ)) (row : List ℕ) → drop n rows ≡ row ∷ others → take (n + 1) rows ≡ take n rows ++ (row ∷ [])
rows_parts n rows others row e = ap (λ k. take k rows) (add-one n) ∙ taken_suc n rows others row e
