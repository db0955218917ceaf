-- The lines that answers are written as.
use Rattle.std.specs.Prelude.{ℕ, zero, suc, Bool, true, false, List, [], ◌∷◌, ◌++◌, Some, None, Ok, Err, vec_items, codes, decimal, encode_utf8, cond, ◌==◌, Option, Result}
use Rattle.steps.specs.Steps.{Step}
use Rattle.std.specs.List.{flat_map, list_all}
use Rattle.steps.specs.declared.answer.Answer.{Answer}
use Rattle.steps.specs.declared.answer.Answer.TheVariants.{Item as answer_item, End}
use Rattle.steps.specs.declared.fault.Fault.{Fault}
use Rattle.steps.specs.declared.refusal.Refusal.{Refusal}
use Rattle.steps.specs.declared.call_error.CallError.{CallError}
use Rattle.steps.specs.declared.call_error.CallError.TheVariants.{Refused, Broken}
use Rattle.steps.specs.Refusals.{refusal_number}
use Rattle.sources.specs.declared.block.Block.{Block}
use Rattle.enumerators.specs.declared.history.Call.{Call}
use Rattle.tee.specs.declared.history.Told.{Told as TeeTold}
use Rattle.tee.specs.declared.history.Told.TheVariants.{Stepped, Copied}
use Rattle.groups.specs.declared.history.Told.{Told as GroupsTold}
use Rattle.groups.specs.declared.history.Told.TheVariants.{Opened, Given}

abbrev pub item_line : ℕ → List ℕ
item_line n = codes "item " ++ (decimal n ++ codes "\n")

abbrev pub pair_line : ℕ × ℕ → List ℕ
pair_line p = codes "item " ++ (decimal p.0 ++ (codes " " ++ (decimal p.1 ++ codes "\n")))

abbrev pub block_line : Block → List ℕ
block_line b = codes "block " ++ (decimal b.bus ++ (codes " " ++ (decimal b.bay ++ (codes " " ++ (decimal b.start ++ (codes " " ++ (decimal b.end ++ codes "\n")))))))

abbrev pub fault_line : Fault → List ℕ
fault_line f = codes "fault " ++ (decimal f.origin ++ (codes " " ++ (decimal f.cause ++ (codes " " ++ (decimal f.place ++ codes "\n")))))

abbrev pub refused_line : ℕ → List ℕ
refused_line n = codes "refused " ++ (decimal n ++ codes "\n")

abbrev pub left_line : ℕ → List ℕ
left_line n = codes "left " ++ (decimal n ++ codes "\n")

abbrev pub both_left_line : ℕ → ℕ → List ℕ
both_left_line m n = codes "left " ++ (decimal m ++ (codes " " ++ (decimal n ++ codes "\n")))

-- the text of each item in turn
abbrev pub each : {A : Type 0} → (A → List ℕ) → List A → List ℕ
each text xs = flat_map text xs

-- a number behind a space
abbrev pub spaced : ℕ → List ℕ
spaced n = codes " " ++ decimal n

-- the word for an answer of an enumerator, and none for a call that was not made
abbrev pub row_word : Option (Result (Answer (Unit {0})) Refusal) → List ℕ
row_word None = []
row_word (Some (Ok (answer_item u))) = codes "row"
row_word (Some (Ok End)) = codes "end"
row_word (Some (Err refusal)) = codes "refused " ++ decimal (refusal_number refusal)

-- the line of a call: its answer, and the numbers in both buffers
abbrev pub call_line : Call ℕ → List ℕ
call_line call = row_word call.answer ++ (codes " places" ++ (each spaced (vec_items call.places) ++ (codes " elements" ++ (each spaced (vec_items call.elements) ++ codes "\n"))))

abbrev pub end_line : List ℕ
end_line = codes "end\n"

-- the line of what is given where no fault is met
abbrev pub given_line : {A : Type 0} → (A → List ℕ) → Answer A → List ℕ
given_line line (answer_item a) = line a
given_line line End = end_line

-- the line of why a call gave no answer
abbrev pub error_line : CallError → List ℕ
error_line (Refused refusal) = refused_line (refusal_number refusal)
error_line (Broken fault) = fault_line fault

abbrev pub result_line : {A E : Type 0} → (A → List ℕ) → (E → List ℕ) → Result A E → List ℕ
result_line line other (Ok a) = line a
result_line line other (Err e) = other e

-- a group, by its key and its number
abbrev pub group_line : ℕ × ℕ → List ℕ
group_line g = codes "group " ++ (decimal g.0 ++ (codes " " ++ (decimal g.1 ++ codes "\n")))

abbrev pub branch_line : ℕ → List ℕ
branch_line n = codes "branch " ++ (decimal n ++ codes "\n")

abbrev pub listed_line : ℕ → List ℕ
listed_line n = codes "listed " ++ (decimal n ++ codes "\n")

-- a mark where a line begins, and nothing elsewhere
abbrev pub mark : Bool → List ℕ
mark true = codes "| "
mark false = []

-- text with a mark before each of its lines, where a line begins or is gone on with
abbrev pub marked : Bool → List ℕ → List ℕ
marked begins [] = []
marked begins (byte ∷ bytes) = mark begins ++ (encode_utf8 byte ++ marked (byte == 10) bytes)

-- whether each byte is the one that was there before
abbrev pub rest_line : List ℕ → List ℕ
rest_line rest = cond (list_all (λ byte. byte == 42) rest) (codes "rest kept\n") (codes "rest changed\n")

-- the numbers in a store
abbrev pub store_line : List ℕ → List ℕ
store_line places = codes "store" ++ (each spaced places ++ codes "\n")

-- the line of an answer
abbrev pub answer_line : {A : Type 0} → (A → List ℕ) → Result (Answer A) Fault → List ℕ
answer_line line r = result_line (given_line line) fault_line r

-- the line of a call on a tee, and none for a call that was not made
abbrev pub tee_line : Option (TeeTold ℕ) → List ℕ
tee_line None = []
tee_line (Some (Stepped r)) = result_line (given_line item_line) error_line r
tee_line (Some (Copied r)) = result_line branch_line (λ n. refused_line (refusal_number n)) r

-- the line of a call on groups, and none for a call that was not made
abbrev pub groups_line : Option (GroupsTold ℕ ℕ) → List ℕ
groups_line None = []
groups_line (Some (Opened r)) = result_line (given_line group_line) error_line r
groups_line (Some (Given r)) = answer_line item_line r

abbrev pub says_end : {A : Type 0} → Result (Answer A) Fault → Bool
says_end (Ok (answer_item a)) = false
says_end (Ok End) = true
says_end (Err f) = false

-- as many ends as there are to come
abbrev pub end_lines : ℕ → List ℕ
end_lines zero = []
end_lines (suc n) = end_line ++ end_lines n

-- a line for each step ahead and then the ends, n of them
abbrev pub transcript : {A : Type 0} → (A → List ℕ) → ℕ → List (Step A) → List ℕ
transcript line n [] = end_lines n
transcript line n (Ok a ∷ ss) = line a ++ transcript line n ss
transcript line n (Err f ∷ ss) = fault_line f ++ transcript line n ss
