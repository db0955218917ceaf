-- The listing of an enumerator: the text of its first rows ahead, a line each, and a last line that says whether rows are left.
use Rattle.std.specs.Prelude.{◌≡◌, ℕ, ◌+◌, ◌*◌, ◌^◌, ◌<◌, ◌≤◌, min, max, cond, List, [], ◌∷◌, ◌++◌, map, length, take, drop, ◌≢◌, codes, decimal, slice_index_or, Result, Ok, Err, nat_lt}
use Rattle.std.specs.List.{AllByRecursion, flat_map, join_with_byte}
use Rattle.steps.specs.declared.refusal.Refusal.{Refusal}
use Rattle.steps.specs.declared.refusal.Refusal.TheVariants.{ShortBuffer}

-- the most rows that a listing shows
abbrev pub most_listed : ℕ
most_listed = 100

-- the places of a row in decimal, with single spaces between them
abbrev pub row_text : List ℕ → List ℕ
row_text row = join_with_byte 32 (map decimal row)

-- a place that is not the first of its row, with the space before it
abbrev pub spaced : ℕ → List ℕ
spaced place = 32 ∷ decimal place

-- a line, with its line feed
abbrev pub line : List ℕ → List ℕ
line text = text ++ (10 ∷ [])

abbrev pub row_line : List ℕ → List ℕ
row_line row = line (row_text row)

-- what the last line says of the rows that are left
abbrev pub last_text : List (List ℕ) → List ℕ
last_text [] = codes "end"
last_text (row ∷ rows) = codes "more"

unfoldable pub listing : List (List ℕ) → List ℕ
listing rows = flat_map row_line (take most_listed rows) ++ line (last_text (drop most_listed rows))

-- the least buffer, for rows of so many places
abbrev pub least_buffer : ℕ → ℕ
least_buffer width = most_listed * max 1 (4 * width) + 5

-- what a listing of these rows makes of a thing, with a buffer so long: `new` where it is written, `old` where the buffer is short
abbrev pub if_listed : {X : Type 0} → ℕ → ℕ → X → X → X
if_listed width room new old = cond (nat_lt room (least_buffer width)) old new

-- how many bytes it wrote, or refusal 4
abbrev pub answer_of_listing : ℕ → ℕ → List (List ℕ) → Result ℕ Refusal
answer_of_listing width room rows = cond (nat_lt room (least_buffer width)) (Err ShortBuffer) (Ok (length (listing rows)))

-- no line feed stands in a text
abbrev pub WithoutFeed : List ℕ → Type 0
WithoutFeed text = AllByRecursion (λ b. b ≢ 10) text

-- the places of some rows are numbers of 64 bits
abbrev pub Numbers : List (List ℕ) → Type 0
Numbers rows = AllByRecursion (λ row. AllByRecursion (λ p. p < 2 ^ 64) row) rows

-- A text that lists rows consists of lines, each ended by a line feed, which stands nowhere else. Line k is the text of row k, up to a
-- hundred rows, and one line more stands last: `end` where no row is left, `more` where one is. Rows that have the same
-- listing are the same, as far as they are listed.
pub record Lists (rows : List (List ℕ)) (text : List ℕ) : Type 0 where
  pub lines : List (List ℕ)
  pub whole : text ≡ flat_map line lines
  pub single : AllByRecursion WithoutFeed lines
  pub count : length lines ≡ min 100 (length rows) + 1
  pub each : (k : ℕ) → k < 100 → k < length rows → slice_index_or lines k [] ≡ row_text (slice_index_or rows k [])
  pub ended : length rows ≤ 100 → slice_index_or lines (length rows) [] ≡ codes "end"
  pub cut : 100 < length rows → slice_index_or lines 100 [] ≡ codes "more"
  pub told_apart : (others : List (List ℕ)) → Numbers others → listing others ≡ text → take 100 others ≡ take 100 rows
