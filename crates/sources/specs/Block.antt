-- The arithmetic of a block's minutes.
use Rattle.std.specs.Prelude.{ℕ, ◌+◌, ◌-◌, Bool, ◌&&◌, cond, nat_le, nat_lt, Some, None, Option}
use Rattle.sources.specs.declared.block.Block.{Block}

-- the end comes after the start and is at most 1,440, the last minute of the day
abbrev pub right_minutes : Block → Bool
right_minutes b = nat_lt b.start b.end && nat_le b.end 1440

-- the end is at least the start and so many minutes
abbrev pub lasts_at_least : Block → ℕ → Bool
lasts_at_least b minutes = nat_le (b.start + minutes) b.end

-- from the start to the end, or none where the end is not after the start
abbrev pub minutes_of : Block → ℕ
minutes_of b = b.end - b.start

-- from the end of a block to the start of another, where that does not come before it
abbrev pub gap_until : Block → Block → Option ℕ
gap_until b next = cond (nat_le b.end next.start) (Some (next.start - b.end)) None
