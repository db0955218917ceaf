-- What the key kinds mean.
use Rattle.std.specs.Prelude.{ℕ, Bool, ◌&&◌, ◌==◌}
use Rattle.sources.specs.declared.block.Block.{Block}

-- the same block in all four numbers
abbrev pub same_block : Block → Block → Bool
same_block a b = a.bus == b.bus && (a.bay == b.bay && (a.start == b.start && a.end == b.end))

-- a block's bay and bus
abbrev pub bay_and_bus : Block → ℕ × ℕ
bay_and_bus b = (b.bay, b.bus)
