-- The blocks of each bay laid side by side, whatever lies between them in the plan.
use Rattle.std.specs.Prelude.{ℕ, cond, List, [], ◌∷◌, Some, None, Option, ◌==◌, max, nat_lt}
use Rattle.sources.specs.declared.block.Block.{Block}
use Rattle.plan.specs.declared.seam.Seam.TheVariants.{BayOutOfOrder}
use Rattle.plan.specs.declared.seam.Joint.{Joint}
use Rattle.plan.specs.declared.bays.Standing.{Standing}
use Rattle.plan.specs.declared.bays.Laid.{Laid}
use Rattle.plan.specs.Seam.{seam_from}

abbrev pub later : ℕ → ℕ → ℕ
later m n = cond (nat_lt m n) n m

-- how a bay stands with one more block
abbrev pub after : Option Standing → Block → Standing
after None b = record { last = b; until = b.end }
after (Some s) b = record { last = b; until = later s.until b.end }

-- a block beside the one before it of its bay
abbrev pub beside : Option Standing → Block → Option Joint
beside None b = None
beside (Some s) b = Some (record { first = s.last; second = b; until = s.until; seam = seam_from s.until b })

-- a block beside the one before it in the plan, where that is at a higher bay
abbrev pub descent : Option Block → Block → Option Joint
descent None b = None
descent (Some a) b = cond (nat_lt b.bay a.bay) (Some (record { first = a; second = b; until = a.end; seam = BayOutOfOrder })) None

-- the joints of one more block
abbrev pub laid_of : Option Block → Option Standing → Block → Laid
laid_of last standing b = record { descent = descent last b; pair = beside standing b }

abbrev pub with_one : Option Joint → List Joint → List Joint
with_one None js = js
with_one (Some j) js = j ∷ js

abbrev pub nothing_yet : ℕ → Option Standing
nothing_yet bay = None

abbrev pub one_further : (ℕ → Option Standing) → Block → ℕ → Option Standing
one_further bays b bay = cond (b.bay == bay) (Some (after (bays b.bay) b)) (bays bay)

-- each block beside the one before it of its bay, in the order of the plan
abbrev pub pairs : (ℕ → Option Standing) → List Block → List Joint
pairs bays [] = []
pairs bays (b ∷ bs) = with_one (beside (bays b.bay) b) (pairs (one_further bays b) bs)

-- each block at a lower bay than the block before it in the plan
abbrev pub descents : Option Block → List Block → List Joint
descents last [] = []
descents last (b ∷ bs) = with_one (descent last b) (descents (Some b) bs)

-- both, in the order of the plan by the second block
abbrev pub joints : Option Block → (ℕ → Option Standing) → List Block → List Joint
joints last bays [] = []
joints last bays (b ∷ bs) = with_one (descent last b) (with_one (beside (bays b.bay) b) (joints (Some b) (one_further bays b) bs))

-- the blocks of one bay, in the order of the plan
abbrev pub of_bay : ℕ → List Block → List Block
of_bay bay [] = []
of_bay bay (b ∷ bs) = cond (b.bay == bay) (b ∷ of_bay bay bs) (of_bay bay bs)

-- the latest end of some blocks
abbrev pub latest : List Block → ℕ
latest [] = 0
latest (b ∷ bs) = max b.end (latest bs)
