-- What a listing says of its rows, and how long it is.
use Rattle.std.proofs.Common.{◌≡◌, ℕ, zero, suc, ◌+◌, ◌*◌, ◌^◌, ◌<◌, ◌≤◌, min, max, List, [], ◌∷◌, ◌++◌, map, length, take, drop, get_or, sym, refl, ap, ◌∙◌, subst, add-one, suc-mul, le_trans, mul-le-mul_right, get_or-take, arith, append-nil, length-append, length-take, length-drop}
use Rattle.std.specs.List.{AllByRecursion, flat_map}
use Rattle.std.proofs.ByRecursion.{All-weaker, All-append, All-map, All-take, sum_by_le}
use Rattle.std.proofs.lemmas.List.{length-map, take_at, get_or_append_left, get_or_at, drop_all, drop-drop}
use Rattle.std.proofs.lemmas.List.Concat.{flat_map-append, length-flat_map}
use Rattle.row_laws.specs.Calls.{Shown, leaving}
use Rattle.row_laws.specs.Listing.{row_text, line, row_line, last_text, listing, least_buffer, WithoutFeed, Numbers, Lists}
use Rattle.row_laws.proofs.Texts.{same_lines, same_rows, row_without_feed, row_line_short}

-- ---- the lines of a listing

abbrev pub all_lines : List (List ℕ) → List (List ℕ)
all_lines rows = map row_text (take 100 rows) ++ (last_text (drop 100 rows) ∷ [])

lines_of_rows : (rows : List (List ℕ)) → flat_map row_line rows ≡ flat_map line (map row_text rows)
lines_of_rows [] = refl
lines_of_rows (row ∷ rows) = ap (λ t. row_line row ++ t) (lines_of_rows rows)

pub listing_lines : (rows : List (List ℕ)) → listing rows ≡ flat_map line (all_lines rows)
unfolding listing
listing_lines rows =
    let last = last_text (drop 100 rows) in
    ap (λ t. t ++ line last) (lines_of_rows (take 100 rows))
    ∙ ap (λ t. flat_map line (map row_text (take 100 rows)) ++ t) (sym (append-nil (line last)))
    ∙ sym (flat_map-append line (map row_text (take 100 rows)) (last ∷ []))

last_without_feed : (rows : List (List ℕ)) → WithoutFeed (last_text rows)
last_without_feed [] = (λ e. omega (arith, e), (λ e. omega (arith, e), (λ e. omega (arith, e), tt)))
last_without_feed (row ∷ rows) = (λ e. omega (arith, e), (λ e. omega (arith, e), (λ e. omega (arith, e), (λ e. omega (arith, e), tt))))

pub lines_without_feed : (rows : List (List ℕ)) → Numbers rows → AllByRecursion WithoutFeed (all_lines rows)
lines_without_feed rows h =
    All-append WithoutFeed (map row_text (take 100 rows)) (last_text (drop 100 rows) ∷ [])
    (All-map WithoutFeed row_text (take 100 rows) (All-weaker (AllByRecursion (λ p. p < 2 ^ 64)) (λ row. WithoutFeed (row_text row)) row_without_feed (take 100 rows) (All-take (AllByRecursion (λ p. p < 2 ^ 64)) 100 rows h)))
    (last_without_feed (drop 100 rows), tt)

-- ---- the law

without_last : (xs ys : List (List ℕ)) (a b : List ℕ) → xs ++ (a ∷ []) ≡ ys ++ (b ∷ []) → xs ≡ ys
without_last xs ys a b e =
    let same : length ys ≡ length xs = omega (arith, ap length e, length-append xs (a ∷ []), length-append ys (b ∷ [])) in
    sym (take_at xs (a ∷ []) (length xs) refl) ∙ ap (take (length xs)) e ∙ take_at ys (b ∷ []) (length xs) same

same_texts : (xs ys : List (List ℕ)) → Numbers xs → Numbers ys → map row_text xs ≡ map row_text ys → xs ≡ ys
same_texts [] [] h g e = refl
same_texts [] (y ∷ ys) h g e = absurd (omega (arith, ap length e))
same_texts (x ∷ xs) [] h g e = absurd (omega (arith, ap length e))
same_texts (x ∷ xs) (y ∷ ys) h g e =
    let first : row_text x ≡ row_text y = cc in
    let others : map row_text xs ≡ map row_text ys = cc in
    ap (λ z. z ∷ xs) (same_rows x y h.0 g.0 first) ∙ ap (λ zs. y ∷ zs) (same_texts xs ys h.1 g.1 others)

pub told_apart : (rows others : List (List ℕ)) → Numbers rows → Numbers others → listing others ≡ listing rows → take 100 others ≡ take 100 rows
told_apart rows others h g e =
    let lines : all_lines others ≡ all_lines rows =
    same_lines (all_lines others) (all_lines rows) (lines_without_feed others g) (lines_without_feed rows h) (sym (listing_lines others) ∙ e ∙ listing_lines rows) in
    same_texts (take 100 others) (take 100 rows) (All-take (AllByRecursion (λ p. p < 2 ^ 64)) 100 others g) (All-take (AllByRecursion (λ p. p < 2 ^ 64)) 100 rows h)
    (without_last (map row_text (take 100 others)) (map row_text (take 100 rows)) (last_text (drop 100 others)) (last_text (drop 100 rows)) lines)

text_at : (xs : List (List ℕ)) (k : ℕ) → k < length xs → get_or (map row_text xs) k [] ≡ row_text (get_or xs k [])
text_at [] k l = absurd (omega arith)
text_at (x ∷ xs) zero l = refl
text_at (x ∷ xs) (suc k) l = text_at xs k (omega arith)

more_left : (rows : List (List ℕ)) → 0 < length rows → last_text rows ≡ last_text ([] ∷ [])
more_left [] l = absurd (omega arith)
more_left (row ∷ rows) l = refl

pub lists : (rows : List (List ℕ)) → Numbers rows → Lists rows (listing rows)
lists rows h =
    let texts = map row_text (take 100 rows) in
    let last = last_text (drop 100 rows) in
    let few : length texts ≡ min 100 (length rows) = length-map (take 100 rows) row_text ∙ length-take 100 rows in
    record {
      lines = all_lines rows;
      whole = listing_lines rows;
      single = lines_without_feed rows h;
      count = length-append texts (last ∷ []) ∙ ap (λ n. n + 1) few;
      each = λ k l m.
          let in_texts : k < length texts = omega (arith, few) in
          let in_rows : k < length (take 100 rows) = omega (arith, length-take 100 rows) in
          get_or_append_left texts (last ∷ []) [] k in_texts ∙ text_at (take 100 rows) k in_rows ∙ ap row_text (get_or-take 100 rows k [] l);
      ended = λ l.
          let long : length texts ≡ length rows = omega (arith, few) in
          get_or_at texts last [] [] (length rows) long ∙ ap last_text (drop_all 100 rows l);
      cut = λ l.
          let long : length texts ≡ 100 = omega (arith, few) in
          let left : 0 < length (drop 100 rows) = omega (arith, length-drop 100 rows) in
          get_or_at texts last [] [] 100 long ∙ more_left (drop 100 rows) left;
      told_apart = λ others g e. told_apart rows others h g e;
    }

-- ---- the room that a listing takes

last_short : (rows : List (List ℕ)) → length (line (last_text rows)) ≤ 5
last_short [] = omega arith
last_short (row ∷ rows) = omega arith

line_short : (width : ℕ) (row : List ℕ) → length row ≡ width → AllByRecursion (λ p. p < 256) row → length (row_line row) ≤ max 1 (4 * width)
line_short width row e h = subst (λ w. length (row_line row) ≤ max 1 (4 * w)) e (row_line_short row h)

pub lines_short : (width : ℕ) (rows : List (List ℕ)) → AllByRecursion (λ row. length row ≡ width) rows → AllByRecursion (λ row. AllByRecursion (λ p. p < 256) row) rows
    → AllByRecursion (λ row. length (row_line row) ≤ max 1 (4 * width)) rows
lines_short width [] e h = tt
lines_short width (row ∷ rows) e h = (line_short width row e.0 h.0, lines_short width rows e.1 h.1)

pub rows_short : (most count : ℕ) (rows : List (List ℕ)) → AllByRecursion (λ row. length (row_line row) ≤ most) rows → length (flat_map row_line (take count rows)) ≤ count * most
rows_short most count rows h =
    le_trans (sum_bound (take count rows) (All-take (λ row. length (row_line row) ≤ most) count rows h)) (mul-le-mul_right most (omega (arith, length-take count rows)))
  where
    sum_bound : (xs : List (List ℕ)) → AllByRecursion (λ row. length (row_line row) ≤ most) xs → length (flat_map row_line xs) ≤ length xs * most
    sum_bound xs g = subst (λ n. n ≤ length xs * most) (sym (length-flat_map row_line xs)) (sum_by_le (λ row. length (row_line row)) most xs g)

pub listing_fits : (width : ℕ) (rows : List (List ℕ)) → AllByRecursion (λ row. length row ≡ width) rows → AllByRecursion (λ row. AllByRecursion (λ p. p < 256) row) rows → length (listing rows) ≤ least_buffer width
unfolding listing
listing_fits width rows e h =
    let body = flat_map row_line (take 100 rows) in
    omega (arith, length-append body (line (last_text (drop 100 rows))), rows_short (max 1 (4 * width)) 100 rows (lines_short width rows e h), last_short (drop 100 rows))

pub numbers : (rows : List (List ℕ)) → AllByRecursion (λ row. AllByRecursion (λ p. p < 256) row) rows → Numbers rows
numbers rows h = All-weaker (AllByRecursion (λ p. p < 256)) (AllByRecursion (λ p. p < 2 ^ 64)) (λ row g. All-weaker (λ p. p < 256) (λ p. p < 2 ^ 64) (λ p l. omega (arith, l)) row g) rows h

-- ---- what the code needs

-- the line of the first row ahead
pub first_line : (rows others : List (List ℕ)) (row : List ℕ) → rows ≡ row ∷ others → flat_map row_line (take 1 rows) ≡ row_line row
first_line rows others row e = ap (λ rs. flat_map row_line (take 1 rs)) e ∙ append-nil (row_line row)

pub first_short : (width : ℕ) (rows others : List (List ℕ)) (row : List ℕ) → rows ≡ row ∷ others → AllByRecursion (λ row. length row ≡ width) rows → AllByRecursion (λ row. AllByRecursion (λ p. p < 256) row) rows
    → length (row_line row) ≤ max 1 (4 * width)
first_short width rows others row e h g =
    line_short width row (subst (AllByRecursion (λ row. length row ≡ width)) e h).0 (subst (AllByRecursion (λ row. AllByRecursion (λ p. p < 256) row)) e g).0

take_split : (n : ℕ) (rows : List (List ℕ)) → take n rows ++ take 1 (drop n rows) ≡ take (suc n) rows
take_split zero rows = refl
take_split (suc n) [] = refl
take_split (suc n) (row ∷ rows) = ap (λ z. row ∷ z) (take_split n rows)

pub lines_more : (n : ℕ) (rows : List (List ℕ)) → flat_map row_line (take n rows) ++ flat_map row_line (take 1 (drop n rows)) ≡ flat_map row_line (take (n + 1) rows)
lines_more n rows = sym (flat_map-append row_line (take n rows) (take 1 (drop n rows))) ∙ ap (flat_map row_line) (take_split n rows) ∙ ap (λ k. flat_map row_line (take k rows)) (sym (add-one n))

-- there is room for one more line and the last
pub room_left : (i most room at : ℕ) → i < 100 → at ≤ i * most → 100 * most + 5 ≤ room → at + most + 5 ≤ room
room_left i most room at l h r =
    let more : suc i * most ≤ 100 * most = mul-le-mul_right most (omega arith) in
    omega (arith, more, suc-mul i most)

pub none_left : (v : Shown) → v.ahead ≡ [] → v ≡ leaving 1 v
none_left v e = ap (λ rows. record { ahead = rows; size = v.size; width = v.width; starts = v.starts }) (e ∙ sym (ap (drop 1) e))

pub leaving_more : (n : ℕ) (v : Shown) → leaving 1 (leaving n v) ≡ leaving (n + 1) v
leaving_more n v = ap (λ rows. record { ahead = rows; size = v.size; width = v.width; starts = v.starts }) (drop-drop 1 n v.ahead)

pub last_length : (rows : List (List ℕ)) → length (line (last_text rows)) ≤ 5
last_length rows = last_short rows

pub listing_parts : (rows : List (List ℕ)) → listing rows ≡ flat_map row_line (take 100 rows) ++ line (last_text (drop 100 rows))
unfolding listing
listing_parts rows = refl
