-- What the words of a scenario spell.
use Rattle.std.specs.Prelude.{ℕ, ◌^◌, ◌<◌, Bool, true, List, [], ◌∷◌, Result, ◌==◌}
use Rattle.std.specs.Result.{OkIff}
use Rattle.std.specs.Str.Parse.{IsNumeral, digits_value}
use Rattle.std.specs.Char.{digit_value}

-- r is the number where the word is of decimal digits alone and so many bits hold it, and else an error
abbrev pub Spelled : {E : Type 0} → ℕ → List ℕ → Result ℕ E → Type 0
Spelled bits word r = OkIff r (IsNumeral 10 word × (digits_value 10 word < 2 ^ bits)) (digits_value 10 word)

-- r is the value of a hexadecimal digit in either case, and of no other byte
abbrev pub HexDigit : {E : Type 0} → ℕ → Result ℕ E → Type 0
HexDigit byte r = OkIff r (digit_value byte < 16) (digit_value byte)

-- a line that is empty or begins with `#`
abbrev pub silent : List ℕ → Bool
silent [] = true
silent (byte ∷ bytes) = byte == 35
