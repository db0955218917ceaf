-- What is counted in a plan.
use Rattle.std.specs.Prelude.{◌+◌, ◌<◌, ◌^◌, Bool, true, false, ◌&&◌, List, length, Option, Some, None, ◌==◌}
use Rattle.steps.specs.Steps.{Step}
use Rattle.laws.specs.Items.{items, faults}
use Rattle.sources.specs.declared.block.Block.{Block}
use Rattle.plan.specs.declared.seam.Seam.{Seam}
use Rattle.plan.specs.declared.seam.Joint.{Joint}
use Rattle.plan.specs.declared.bays.Laid.{Laid}
use Rattle.plan.specs.declared.account.Account.{Account}
use Rattle.plan.specs.Seam.{is_overlap, is_long_gap, one_if, count}
use Rattle.plan.specs.Bays.{pairs, descents, nothing_yet}

abbrev pub account_of : List (Step Block) → Account
account_of steps = record {
  blocks = length (items steps);
  faults = length (faults steps);
  pairs = length (pairs nothing_yet (items steps));
  overlaps = count is_overlap (pairs nothing_yet (items steps));
  out_of_order = length (descents None (items steps));
  long_gaps = count is_long_gap (pairs nothing_yet (items steps));
}

-- nothing was found for which a plan fails
abbrev pub all_clear : Account → Bool
all_clear a = a.faults == 0 && (a.overlaps == 0 && (a.out_of_order == 0 && a.long_gaps == 0))

abbrev pub nothing_counted : Account
nothing_counted = record { blocks = 0; faults = 0; pairs = 0; overlaps = 0; out_of_order = 0; long_gaps = 0 }

abbrev pub is_there : Option Joint → Bool
is_there None = false
is_there (Some j) = true

abbrev pub is_there_with : (Seam → Bool) → Option Joint → Bool
is_there_with p None = false
is_there_with p (Some j) = p j.seam

-- with one more block, and what it was laid beside
abbrev pub one_block : Account → Laid → Account
one_block a l = record {
  blocks = a.blocks + 1;
  faults = a.faults;
  pairs = a.pairs + one_if (is_there l.pair);
  overlaps = a.overlaps + one_if (is_there_with is_overlap l.pair);
  out_of_order = a.out_of_order + one_if (is_there l.descent);
  long_gaps = a.long_gaps + one_if (is_there_with is_long_gap l.pair);
}

-- one more of each can be counted
pub record HasRoom (a : Account) : Type 0 where
  pub blocks : a.blocks + 1 < 2 ^ 64
  pub pairs : a.pairs + 1 < 2 ^ 64
  pub overlaps : a.overlaps + 1 < 2 ^ 64
  pub out_of_order : a.out_of_order + 1 < 2 ^ 64
  pub long_gaps : a.long_gaps + 1 < 2 ^ 64
