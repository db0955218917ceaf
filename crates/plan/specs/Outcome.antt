-- All that the plan checker says of a plan, and what it means.
use Rattle.std.specs.Prelude.{◌≡◌, ◌↔◌, ℕ, zero, suc, ◌+◌, ◌-◌, ◌<◌, ◌≤◌, Bool, true, false, cond, List, [], ◌∷◌, ◌++◌, length, take, replicate, codes, decimal, Some, ◌==◌}
use Rattle.std.specs.Borrow.{Bor}
use Rattle.std.specs.List.{list_all, slice_get}
use Rattle.steps.specs.declared.fault.Fault.{Fault}
use Rattle.laws.specs.Items.{items, faults}
use Rattle.sources.specs.Records.{records_from}
use Rattle.sources.specs.declared.block.Block.{Block}
use Rattle.sources.specs.Cause.{number_text}
use Rattle.plan.specs.declared.account.Account.{Account}
use Rattle.plan.specs.Bays.{latest, of_bay}
use Rattle.plan.specs.Pass.{Passes, NoTenMinutes}
use Rattle.plan.specs.Account.{account_of, all_clear}
use Rattle.plan.specs.Columns.{bay_text, stay, taken_text}
use Rattle.plan.specs.Text.{account_text}

-- one more reason, behind a colon if it is the first and else behind a comma; none where nothing was found
abbrev pub mark : List ℕ → List ℕ
mark line = cond (length line == 11) (codes ": ") (codes ", ")

abbrev pub with_reason : List ℕ → ℕ → List ℕ → List ℕ
with_reason line n reason = cond (n == 0) line (line ++ (mark line ++ (reason ++ (codes " " ++ decimal n))))

-- the same of a count beside its reason
abbrev pub and_reason : List ℕ → ℕ × Bor (List ℕ) → List ℕ
and_reason line r = with_reason line r.0 r.1.now

unfoldable pub failed_line : Account → List ℕ
failed_line a =
    with_reason (with_reason (with_reason (with_reason (codes "plan failed")
    a.faults (codes "faulty records"))
    a.overlaps (codes "overlaps"))
    a.out_of_order (codes "bays out of order"))
    a.long_gaps (codes "gaps of ten minutes or more")

abbrev pub verdict_line : Account → List ℕ
verdict_line a = cond (all_clear a) (codes "plan passed") (failed_line a)

-- the line that names the plan, and says how many bytes it has
abbrev pub name_line : List ℕ → ℕ → List ℕ
name_line name size = codes "plan: " ++ (name ++ (codes ", " ++ (decimal size ++ codes " bytes\n")))

-- the whole report
unfoldable pub report_text : List ℕ → List ℕ → List ℕ
report_text name bytes =
    name_line name (length bytes)
    ++ (account_text (records_from bytes 0) (account_of (records_from bytes 0))
    ++ (verdict_line (account_of (records_from bytes 0)) ++ codes "\n"))

-- Lines of a text

abbrev pub in_line : ℕ → Bool
in_line c = cond (c == 10) false true

-- there is no line feed in it
abbrev pub OneLine : List ℕ → Type 0
OneLine line = list_all in_line line ≡ true

-- a line may begin behind it: it is empty, or its last byte is a line feed
abbrev pub WholeLines : List ℕ → Type 0
WholeLines [] = Unit {0}
WholeLines (c ∷ []) = c ≡ 10
WholeLines (c ∷ (d ∷ more)) = WholeLines (d ∷ more)

-- The text ends in this line and its line feed: the line begins behind a line feed or at the start, and has none inside.
pub record LastLine (text line : List ℕ) : Type 0 where
  pub before : List ℕ
  pub parts : text ≡ before ++ (line ++ codes "\n")
  pub begins : WholeLines before
  pub single : OneLine line

-- one of the text's lines is so
abbrev pub HasLine : List ℕ → List ℕ → Type 0
HasLine text line = (before : List ℕ) × (more : List ℕ) × (text ≡ before ++ (line ++ (codes "\n" ++ more))) × WholeLines before

-- What the report says of a plan

-- two blocks of a bay, the second behind the first
abbrev pub front : Block → Block → List ℕ
front a b = codes "  " ++ (bay_text a.bay ++ (codes "  " ++ (stay a ++ (codes "  then " ++ stay b))))

-- the minutes are written out in full, with nothing but blanks before them
abbrev pub PairTold : ℕ → Block → Block → List ℕ → Type 0
PairTold until a b text =
    (b.start < until → HasLine text (front a b ++ (codes "  starts " ++ (decimal (until - b.start) ++ (codes " min too early" ++ taken_text a.end until)))))
    × (until ≤ b.start → (blanks : ℕ) × HasLine text (front a b ++ (codes "  " ++ (replicate blanks 32 ++ (decimal (b.start - until) ++ (codes " min unassigned" ++ taken_text a.end until))))))

-- In every bay the k-th block and the next one have a line, with the minutes from the latest end of the blocks up to the k-th.
abbrev pub TellsPairs : List Block → List ℕ → Type 0
TellsPairs blocks text =
    (bay k : ℕ) (a b : Block) → slice_get (of_bay bay blocks) k ≡ Some a → slice_get (of_bay bay blocks) (k + 1) ≡ Some b →
    PairTold (latest (take (k + 1) (of_bay bay blocks))) a b text

-- a block at a lower bay than the block before it in the plan has a line
abbrev pub TellsOrder : List Block → List ℕ → Type 0
TellsOrder blocks text =
    (k : ℕ) (a b : Block) → slice_get blocks k ≡ Some a → slice_get blocks (k + 1) ≡ Some b → b.bay < a.bay →
    HasLine text (codes "  " ++ (bay_text a.bay ++ (codes "  is followed by bay " ++ (decimal b.bay ++ codes ": out of order"))))

abbrev pub TellsBlocks : List Block → List ℕ → Type 0
TellsBlocks blocks text =
    (k : ℕ) (b : Block) → slice_get blocks k ≡ Some b → HasLine text (codes "  " ++ (bay_text b.bay ++ (codes "  " ++ stay b)))

-- a faulty record has a line that tells its byte, written out in full, and its cause
abbrev pub TellsFaults : List Fault → List ℕ → Type 0
TellsFaults fs text =
    (k : ℕ) (f : Fault) → slice_get fs k ≡ Some f →
    (blanks : ℕ) × HasLine text (codes "  byte " ++ (replicate blanks 32 ++ (decimal f.place ++ (codes "  cause " ++ (decimal f.cause ++ (codes ": " ++ number_text f.cause))))))

-- the sum over all bays below a number
abbrev pub over_bays : (ℕ → ℕ) → ℕ → ℕ
over_bays f zero = 0
over_bays f (suc n) = f n + over_bays f n

-- the number behind `pairs:` is, over the bays, one fewer than the blocks of each
abbrev pub TellsPairCount : List Block → List ℕ → Type 0
TellsPairCount blocks text =
    (bays : ℕ) → ((k : ℕ) (b : Block) → slice_get blocks k ≡ Some b → b.bay < bays) →
    HasLine text (codes "pairs: " ++ decimal (over_bays (λ bay. length (of_bay bay blocks) - 1) bays))

-- What the report says of record bytes. Its last line is `plan passed` just where the plan passes, and begins with `plan failed`
-- just where it does not; and where it says so, every ten minutes in a row between a bay's blocks meet one of them.
pub record Tells (name bytes text : List ℕ) : Type 0 where
  pub named : (more : List ℕ) × (text ≡ (codes "plan: " ++ (name ++ (codes ", " ++ (decimal (length bytes) ++ codes " bytes")))) ++ (codes "\n" ++ more))
  pub no_blocks : items (records_from bytes 0) ≡ [] → HasLine text (codes "no blocks")
  pub block_count : 0 < length (items (records_from bytes 0)) → HasLine text (codes "blocks: " ++ decimal (length (items (records_from bytes 0))))
  pub blocks : TellsBlocks (items (records_from bytes 0)) text
  pub fault_count : HasLine text (codes "faulty records: " ++ decimal (length (faults (records_from bytes 0))))
  pub broken : TellsFaults (faults (records_from bytes 0)) text
  pub pairs : TellsPairs (items (records_from bytes 0)) text
  pub order : TellsOrder (items (records_from bytes 0)) text
  pub pair_count : TellsPairCount (items (records_from bytes 0)) text
  pub passed : LastLine text (codes "plan passed") ↔ Passes (records_from bytes 0)
  pub failed : ((why : List ℕ) × LastLine text (codes "plan failed" ++ why)) ↔ (Passes (records_from bytes 0) → ⊥)
  pub one : (line other : List ℕ) → LastLine text line → LastLine text other → line ≡ other
  pub minutes : LastLine text (codes "plan passed") → NoTenMinutes (items (records_from bytes 0))
