-- The text of an account, line by line.
use Rattle.std.specs.Prelude.{ℕ, cond, List, [], ◌++◌, codes, decimal, Some, None, Option, ◌==◌}
use Rattle.std.specs.List.{flat_map}
use Rattle.steps.specs.Steps.{Step}
use Rattle.steps.specs.declared.fault.Fault.{Fault}
use Rattle.laws.specs.Items.{items, faults}
use Rattle.sources.specs.declared.block.Block.{Block}
use Rattle.sources.specs.Cause.{number_text}
use Rattle.plan.specs.declared.seam.Seam.{Seam}
use Rattle.plan.specs.declared.seam.Seam.TheVariants.{BayOutOfOrder, Overlap, Gap}
use Rattle.plan.specs.declared.seam.Joint.{Joint}
use Rattle.plan.specs.declared.bays.Laid.{Laid}
use Rattle.plan.specs.declared.account.Account.{Account}
use Rattle.plan.specs.Columns.{padded, bay_text, stay, taken_text}
use Rattle.plan.specs.Bays.{joints, nothing_yet}

abbrev pub block_line : Block → List ℕ
block_line b = codes "  " ++ (bay_text b.bay ++ (codes "  " ++ (stay b ++ codes "\n")))

abbrev pub fault_line : Fault → List ℕ
fault_line f = codes "  byte " ++ (padded 7 f.place ++ (codes "  cause " ++ (decimal f.cause ++ (codes ": " ++ (number_text f.cause ++ codes "\n")))))

-- what is said of two blocks that were laid side by side
abbrev pub seam_line : Block → Block → ℕ → Seam → List ℕ
seam_line a b until BayOutOfOrder = codes "  " ++ (bay_text a.bay ++ (codes "  is followed by bay " ++ (decimal b.bay ++ codes ": out of order\n")))
seam_line a b until (Overlap m) = codes "  " ++ (bay_text a.bay ++ (codes "  " ++ (stay a ++ (codes "  then " ++ (stay b ++ (codes "  starts " ++ (decimal m ++ (codes " min too early" ++ (taken_text a.end until ++ codes "\n")))))))))
seam_line a b until (Gap m) = codes "  " ++ (bay_text a.bay ++ (codes "  " ++ (stay a ++ (codes "  then " ++ (stay b ++ (codes "  " ++ (padded 4 m ++ (codes " min unassigned" ++ (taken_text a.end until ++ codes "\n")))))))))

abbrev pub joint_line : Joint → List ℕ
joint_line j = seam_line j.first j.second j.until j.seam

abbrev pub line_if : Option Joint → List ℕ
line_if None = []
line_if (Some j) = joint_line j

abbrev pub laid_lines : Laid → List ℕ
laid_lines l = line_if l.descent ++ line_if l.pair

abbrev pub count_line : List ℕ → ℕ → List ℕ
count_line what n = what ++ (decimal n ++ codes "\n")

-- how many blocks there are; a plan without any is told so
abbrev pub blocks_line : ℕ → List ℕ
blocks_line n = cond (n == 0) (codes "no blocks\n") (count_line (codes "blocks: ") n)

abbrev pub blocks_text : List Block → List ℕ
blocks_text bs = flat_map block_line bs

abbrev pub faults_text : List Fault → List ℕ
faults_text fs = flat_map fault_line fs

-- every two neighbouring blocks of a bay, and every bay out of order
abbrev pub joints_text : List Block → List ℕ
joints_text bs = flat_map joint_line (joints None nothing_yet bs)

-- every block, every faulty record and what was laid side by side, each with how many there are
abbrev pub account_text : List (Step Block) → Account → List ℕ
account_text steps a =
    blocks_line a.blocks ++ (blocks_text (items steps)
    ++ (count_line (codes "faulty records: ") a.faults ++ (faults_text (faults steps)
    ++ (codes "neighbours\n" ++ (joints_text (items steps) ++ count_line (codes "pairs: ") a.pairs)))))
