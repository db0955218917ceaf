-- When a plan passes.
use Rattle.std.specs.Prelude.{◌≡◌, ℕ, ◌-◌, ◌+◌, ◌<◌, ◌≤◌, Bool, true, false, cond, ◌&&◌, List, [], ◌∷◌, Some, None, Option, Ok, Err, nat_lt}
use Rattle.std.specs.List.{slice_get}
use Rattle.steps.specs.Steps.{Step}
use Rattle.laws.specs.Items.{items, faults}
use Rattle.sources.specs.declared.block.Block.{Block}
use Rattle.plan.specs.Bays.{of_bay}

-- a fact of every two neighbours in a list
abbrev pub EveryTwo : {A : Type 0} → (A → A → Type 0) → List A → Type 0
EveryTwo {A} P xs = (k : ℕ) (a b : A) → slice_get xs k ≡ Some a → slice_get xs (k + 1) ≡ Some b → P a b

-- the second starts when the first has ended, and in less than ten minutes
abbrev pub Close : Block → Block → Type 0
Close a b = (a.end ≤ b.start) × (b.start < a.end + 10)

-- bays rise, and in every bay every two neighbouring blocks are close
abbrev pub Sound : List Block → Type 0
Sound blocks = EveryTwo (λ a b. a.bay ≤ b.bay) blocks × ((bay : ℕ) → EveryTwo Close (of_bay bay blocks))

-- a plan passes if no record is faulty and its blocks are sound
abbrev pub Passes : List (Step Block) → Type 0
Passes steps = (faults steps ≡ []) × Sound (items steps)

-- some minute of the ten from m on is one of the block's
abbrev pub Meets : ℕ → Block → Type 0
Meets m b = (b.start < m + 10) × (m < b.end)

-- From the start of any block of a bay to the end of any block of it every ten minutes in a row meet a block of that bay.
abbrev pub NoTenMinutes : List Block → Type 0
NoTenMinutes blocks =
    (i j m : ℕ) (a z : Block) → slice_get blocks i ≡ Some a → slice_get blocks j ≡ Some z → a.bay ≡ z.bay → a.start ≤ m → m + 10 ≤ z.end →
    (k : ℕ) × (b : Block) × (slice_get blocks k ≡ Some b) × (b.bay ≡ a.bay) × Meets m b

-- the second may stand behind the first
abbrev pub goes_on : Block → Block → Bool
goes_on a b =
    cond (nat_lt b.bay a.bay) false
    (cond (nat_lt a.bay b.bay) true
    (cond (nat_lt b.start a.end) false (nat_lt (b.start - a.end) 10)))

abbrev pub may_follow : Option Block → Block → Bool
may_follow None b = true
may_follow (Some a) b = goes_on a b

-- each of the steps is a block that may stand behind the one before it
abbrev pub all_follow : Option Block → List (Step Block) → Bool
all_follow o [] = true
all_follow o (Ok b ∷ ss) = may_follow o b && all_follow (Some b) ss
all_follow o (Err f ∷ ss) = false
