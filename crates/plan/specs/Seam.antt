-- Two blocks of a plan laid side by side.
use Rattle.std.specs.Prelude.{ℕ, ◌+◌, ◌-◌, Bool, true, false, cond, List, [], ◌∷◌, nat_le, nat_lt}
use Rattle.sources.specs.declared.block.Block.{Block}
use Rattle.plan.specs.declared.seam.Seam.{Seam}
use Rattle.plan.specs.declared.seam.Seam.TheVariants.{BayOutOfOrder, Overlap, Gap}
use Rattle.plan.specs.declared.seam.Joint.{Joint}

-- A bay is taken until some minute. A block that starts before it overlaps; else the minutes from there
-- to its start are unassigned.
abbrev pub seam_from : ℕ → Block → Seam
seam_from until b = cond (nat_lt b.start until) (Overlap (until - b.start)) (Gap (b.start - until))

-- what a plan fails for in a bay
abbrev pub is_overlap : Seam → Bool
is_overlap BayOutOfOrder = false
is_overlap (Overlap m) = true
is_overlap (Gap m) = false

abbrev pub is_long_gap : Seam → Bool
is_long_gap BayOutOfOrder = false
is_long_gap (Overlap m) = false
is_long_gap (Gap m) = nat_le 10 m

abbrev pub one_if : Bool → ℕ
one_if true = 1
one_if false = 0

-- how many joints have such a seam
abbrev pub count : (Seam → Bool) → List Joint → ℕ
count p [] = 0
count p (j ∷ js) = one_if (p j.seam) + count p js
