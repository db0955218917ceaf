-- The parts that the lines of an account are made of.
use Rattle.std.specs.Prelude.{ℕ, ◌-◌, ◌/◌, ◌%◌, ◌==◌, cond, List, [], ◌++◌, length, replicate, codes, decimal, nat_lt}
use Rattle.sources.specs.declared.block.Block.{Block}

-- a number with blanks before it up to a width
unfoldable pub padded : ℕ → ℕ → List ℕ
padded width n = replicate (width - length (decimal n)) 32 ++ decimal n

-- a number with a zero before a single digit
abbrev pub two_digits : ℕ → List ℕ
two_digits n = cond (nat_lt n 10) (codes "0" ++ decimal n) (decimal n)

-- a minute of the day, as hh:mm
abbrev pub clock : ℕ → List ℕ
clock minute = two_digits (minute / 60) ++ (codes ":" ++ two_digits (minute % 60))

abbrev pub bay_text : ℕ → List ℕ
bay_text n = codes "bay " ++ padded 5 n

-- the bus of a block, and from when to when it is charged
abbrev pub stay : Block → List ℕ
stay b = codes "bus " ++ (padded 5 b.bus ++ (codes "  " ++ (clock b.start ++ (codes "-" ++ clock b.end))))

-- where the bay is taken longer than to the end of the block that is shown, until when
abbrev pub taken_text : ℕ → ℕ → List ℕ
taken_text end until = cond (end == until) [] (codes " (bay taken until " ++ (clock until ++ codes ")"))
