-- Text at a place of some bytes.
use Rattle.std.specs.Prelude.{ℕ, ◌+◌, ◌-◌, cond, nat_lt, Ok, Err, Result, List, ◌++◌, length, take, drop, replicate, decimal}
use Rattle.steps.specs.declared.refusal.Refusal.{Refusal}
use Rattle.steps.specs.declared.refusal.Refusal.TheVariants.{ShortBuffer}

-- the bytes before the place, the text, and the rest as it was
abbrev pub written : ℕ → List ℕ → List ℕ → List ℕ
written at text bytes = take at bytes ++ (text ++ drop (at + length text) bytes)

-- the place behind a text of this size, or refusal 4 where that is past the end of the bytes
abbrev pub place_behind : ℕ → ℕ → ℕ → Result ℕ Refusal
place_behind at size room = cond (nat_lt room (at + size)) (Err ShortBuffer) (Ok (at + size))

-- the text written where there is room for it, and else the bytes as they were
abbrev pub if_room : ℕ → List ℕ → List ℕ → List ℕ
if_room at text bytes = cond (nat_lt (length bytes) (at + length text)) bytes (written at text bytes)

-- a number with spaces before it up to a width
unfoldable pub padded : ℕ → ℕ → List ℕ
padded width n = replicate (width - length (decimal n)) 32 ++ decimal n
