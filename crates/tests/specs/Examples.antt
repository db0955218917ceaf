-- Worked examples of the definitions, as one table.
use Rattle.std.specs.Prelude.{◌≡◌, ℕ, zero, suc, Bool, true, false, List, [], ◌∷◌, ◌++◌, map, take, Some, None, Ok, Result, Err, nat_eq, codes}
use Rattle.steps.specs.declared.fault.Fault.{Fault}
use Rattle.laws.specs.Islice.{bounds, until, slices, slice_end}
use Rattle.laws.specs.Chain.{until_fault}
use Rattle.laws.specs.TakeWhile.{taken}
use Rattle.laws.specs.DropWhile.{dropped}
use Rattle.laws.specs.Compress.{compressed, compress_end}
use Rattle.laws.specs.Accumulate.{from_initial}
use Rattle.laws.specs.Pairwise.{unpaired}
use Rattle.laws.specs.ZipLongest.{zipped}
use Rattle.row_laws.specs.Lists.{product_rows, combination_rows, replacement_rows, permutation_rows}
use Rattle.row_laws.specs.Calls.{answer_of_call, first_row, other_rows, controller, refusal_of_making, refusal_number_of_making, refusal_of_call, refusal_number_of_call}
use Rattle.steps.specs.declared.refusal.Refusal.{Refusal}
use Rattle.steps.specs.declared.refusal.Refusal.TheVariants.{PoolTooLong, RowTooLong, OtherPool, ShortBuffer, SliceArguments, StoreFull, TooManyGroups, NoBranch, OtherStore}
use Rattle.steps.specs.Refusals.{refusal_number}
use Rattle.steps.specs.declared.answer.Answer.{Answer}
use Rattle.steps.specs.declared.answer.Answer.TheVariants.{Item, End}
use Rattle.steps.specs.declared.call_error.CallError.{CallError}
use Rattle.steps.specs.declared.call_error.CallError.TheVariants.{Refused, Broken}
use Rattle.laws.specs.Tee.{Marks, asked_for, fresh, stepped, step_number, copy_answer, copy_marks}
use Rattle.steps.specs.Steps.{Step, first, rest}
use Rattle.laws.specs.Runs.{Runs}
use Rattle.laws.specs.GroupBy.{Grouping, unbegun, number_earned, Ask, GroupCall, ItemCall, Told, Opened, Given, called, items_of}
use Rattle.sources.specs.Range.{numbers}
use Rattle.sources.specs.declared.block.Block.{Block}
use Rattle.sources.specs.Frame.{broken}
use Rattle.sources.specs.Records.{records_from}
use Rattle.rules.specs.Joining.{larger, sum}
use Rattle.rules.specs.Predicate.{below, at_least, non_zero, same_as, lasts}
use Rattle.rules.specs.Combined.{turned, both, either}
use Rattle.rules.specs.Key.{bay_and_bus}
use Rattle.sources.specs.Block.{minutes_of, gap_until}
use Rattle.sources.specs.Cause.{record_fault_text}
use Rattle.steps.specs.Fault.{fault_text as text_of_fault}
use Rattle.steps.specs.Refusals.{refusal_text as text_of_refusal}
use Rattle.steps.specs.CallError.{call_error_text}
use Rattle.text.specs.Writer.{place_behind, if_room}
use Rattle.plan.specs.Account.{account_of, all_clear}
use Rattle.row_laws.specs.Listing.{listing}
use Rattle.jobs.specs.Job.{answer_text, fault_text, refusal_text}

-- yes to every number but 0
abbrev pub nonzero : ℕ → Result Bool Fault
nonzero zero = Ok false
nonzero (suc n) = Ok true

-- some fault of a source
abbrev pub broke : Fault
broke = broken 3 40

abbrev pub one_block : List ℕ
one_block = 8 ∷ (0 ∷ (16 ∷ (0 ∷ (7 ∷ (0 ∷ (2 ∷ (0 ∷ (104 ∷ (1 ∷ (114 ∷ (1 ∷ [])))))))))))

-- what steps of these branches of a tee tell, one after another
abbrev pub stepping : Marks → List (Result ℕ Fault) → List ℕ → List ℕ → List (Result (Answer ℕ) CallError)
stepping m ss store [] = []
stepping m ss store (b ∷ branches) =
    (stepped m b ss store).answer ∷ stepping (stepped m b ss store).marks (stepped m b ss store).ahead (stepped m b ss store).store branches

-- where its branches stand then
abbrev pub marks_behind : Marks → List (Result ℕ Fault) → List ℕ → List ℕ → Marks
marks_behind m ss store [] = m
marks_behind m ss store (b ∷ branches) = marks_behind (stepped m b ss store).marks (stepped m b ss store).ahead (stepped m b ss store).store branches

-- what so many calls of a source answer, one after another, and what is ahead behind them
abbrev pub calling : {A : Type 0} → ℕ → List (Step A) → List (Result (Answer A) Fault)
calling zero ss = []
calling (suc n) ss = first ss ∷ calling n (rest ss)

-- what so many next calls that are not refused answer, one after another, and the row that each gives
abbrev pub stepping_rows : ℕ → List (List ℕ) → List (Result (Answer (Unit {0})) Refusal × List ℕ)
stepping_rows zero rows = []
stepping_rows (suc n) rows = (answer_of_call None rows, first_row rows) ∷ stepping_rows n (other_rows rows)

abbrev pub a_row : List ℕ → Result (Answer (Unit {0})) Refusal × List ℕ
a_row row = (Ok (Item tt), row)

abbrev pub no_row : Result (Answer (Unit {0})) Refusal × List ℕ
no_row = (Ok End, [])

abbrev pub stay : ℕ → ℕ → Block
stay start end = record { bus = 7; bay = 2; start = start; end = end }

abbrev pub block : ℕ → ℕ → Step Block
block start end = Ok (stay start end)

-- a groupby over these steps, by the item itself, before its first call
abbrev pub grouping : List (Step ℕ) → Grouping ℕ ℕ
grouping ss = record { key = λ a. Ok a; standing = unbegun; ahead = ss }

-- what some calls tell, one after another
abbrev pub told_by : List Ask → Grouping ℕ ℕ → List (Told ℕ ℕ)
told_by [] g = []
told_by (c ∷ cs) g = (called nat_eq c g).told ∷ told_by cs (called nat_eq c g).left

-- and what they leave
abbrev pub left_by : List Ask → Grouping ℕ ℕ → Grouping ℕ ℕ
left_by [] g = g
left_by (c ∷ cs) g = left_by cs (called nat_eq c g).left

abbrev pub opened : ℕ → ℕ → Told ℕ ℕ
opened q n = Opened (Ok (Item (q, n)))

abbrev pub gave : ℕ → Told ℕ ℕ
gave a = Given (Ok (Item a))

abbrev pub five_five_six_five : List (Step ℕ)
five_five_six_five = map Ok (5 ∷ (5 ∷ (6 ∷ (5 ∷ []))))

pub record WorkedExamples : Type 0 where
  -- islice 0, 5, 3 over 0 to 9 gives 0 and 3, and has drawn five
  pub every_third : bounds (Some 0 ∷ (Some 5 ∷ (Some 3 ∷ []))) ≡ Some (record { start = 0; stop = Some 5; step = 3 })
  pub every_third_gives : slices (until 0 (Some 5)) 3 (Some 0) 0 (numbers 0 10) ≡ Ok 0 ∷ (Ok 3 ∷ [])
  pub every_third_leaves : slice_end (until 0 (Some 5)) 3 (Some 0) 0 (numbers 0 10) ≡ numbers 5 10
  -- islice 3, 1 over 0 to 9 gives nothing, and has drawn three
  pub start_past_stop_gives : slices (until 3 (Some 1)) 1 (Some 3) 0 (numbers 0 10) ≡ []
  pub start_past_stop_leaves : slice_end (until 3 (Some 1)) 1 (Some 3) 0 (numbers 0 10) ≡ numbers 3 10
  -- compress 7 8 9 by 1 0 gives 7, and has drawn all three data
  pub selected : compressed {A = ℕ} {B = ℕ} nonzero (map Ok (7 ∷ (8 ∷ (9 ∷ [])))) (map Ok (1 ∷ (0 ∷ []))) ≡ Ok 7 ∷ []
  pub selected_leaves : compress_end {A = ℕ} {B = ℕ} (map Ok (7 ∷ (8 ∷ (9 ∷ [])))) (map Ok (1 ∷ (0 ∷ []))) ≡ record { data_left = []; selectors_left = [] }
  -- pairwise: a fault before any pair loses an item, a later one loses none
  pub fault_before_a_pair : unpaired {A = ℕ} (Ok 1 ∷ (Err broke ∷ (Ok 2 ∷ (Ok 3 ∷ [])))) ≡ Err broke ∷ (Ok (2, 3) ∷ [])
  pub fault_after_a_pair : unpaired {A = ℕ} (Ok 1 ∷ (Ok 2 ∷ (Err broke ∷ (Ok 3 ∷ [])))) ≡ Ok (1, 2) ∷ (Err broke ∷ (Ok (2, 3) ∷ []))
  -- zip_longest: a left fault draws nothing on the right, so the pairs shift
  pub left_fault : zipped {A = ℕ} {B = ℕ} 0 0 (Ok 1 ∷ (Err broke ∷ (Ok 2 ∷ []))) (Ok 5 ∷ (Ok 6 ∷ [])) ≡ Ok (1, 5) ∷ (Err broke ∷ (Ok (2, 6) ∷ []))
  -- chain is cut after the first fault
  pub chain_cut : until_fault {A = ℕ} ((Ok 1 ∷ (Err broke ∷ (Ok 2 ∷ []))) ++ (Ok 3 ∷ [])) ≡ Ok 1 ∷ (Err broke ∷ [])
  -- takewhile and dropwhile go on after a source's fault, and end or start at the first denied item
  pub taken_over_a_fault : taken nonzero (Ok 1 ∷ (Err broke ∷ (Ok 2 ∷ (Ok 0 ∷ (Ok 3 ∷ []))))) ≡ Ok 1 ∷ (Err broke ∷ (Ok 2 ∷ []))
  pub dropped_over_a_fault : dropped nonzero (Ok 1 ∷ (Err broke ∷ (Ok 0 ∷ (Ok 2 ∷ [])))) ≡ Err broke ∷ (Ok 0 ∷ (Ok 2 ∷ []))
  -- compress: a data fault leaves the selector for the next datum, a selector's fault loses its datum
  pub data_fault : compressed {A = ℕ} {B = ℕ} nonzero (Err broke ∷ (Ok 7 ∷ [])) (Ok 1 ∷ []) ≡ Err broke ∷ (Ok 7 ∷ [])
  pub selector_fault : compressed {A = ℕ} {B = ℕ} nonzero (Ok 7 ∷ (Ok 8 ∷ [])) (Err broke ∷ (Ok 1 ∷ [])) ≡ Err broke ∷ (Ok 8 ∷ [])
  -- record bytes: a header and a payload cut short, another kind, another length, and an end that is not after its start
  pub header_cut : records_from (8 ∷ (0 ∷ (16 ∷ []))) 0 ≡ Err (broken 1 0) ∷ []
  pub payload_cut : records_from (8 ∷ (0 ∷ (16 ∷ (0 ∷ (7 ∷ []))))) 0 ≡ Err (broken 2 0) ∷ []
  pub other_kind_and_length : records_from (0 ∷ (0 ∷ (17 ∷ (0 ∷ (0 ∷ (0 ∷ (16 ∷ (0 ∷ [])))))))) 0 ≡ Err (broken 3 0) ∷ (Err (broken 4 4) ∷ [])
  pub no_minutes : records_from (8 ∷ (0 ∷ (16 ∷ (0 ∷ (7 ∷ (0 ∷ (2 ∷ (0 ∷ (104 ∷ (1 ∷ (104 ∷ (1 ∷ [])))))))))))) 0 ≡ Err (broken 5 0) ∷ []
  -- the bytes of one block: bus 7 at bay 2 from minute 360 to 370
  pub block_bytes : records_from one_block 0 ≡ Ok (stay 360 370) ∷ []
  -- product of lengths 2 and 2, of no pools, of 3 and 0, of one pool of 2 twice over, and a repeat of 0 beside an empty pool
  pub product_of_two : product_rows (2 ∷ (2 ∷ [])) 1 ≡ (0 ∷ (0 ∷ [])) ∷ ((0 ∷ (1 ∷ [])) ∷ ((1 ∷ (0 ∷ [])) ∷ ((1 ∷ (1 ∷ [])) ∷ [])))
  pub product_of_none : product_rows [] 1 ≡ [] ∷ []
  pub product_with_empty : product_rows (3 ∷ (0 ∷ [])) 1 ≡ []
  pub product_repeated : product_rows (2 ∷ []) 2 ≡ product_rows (2 ∷ (2 ∷ [])) 1
  pub product_repeated_never : product_rows (0 ∷ []) 0 ≡ [] ∷ []
  -- combinations of 2 from 3, and of 3 from 2
  pub combinations_3_2 : combination_rows 3 2 ≡ (0 ∷ (1 ∷ [])) ∷ ((0 ∷ (2 ∷ [])) ∷ ((1 ∷ (2 ∷ [])) ∷ []))
  pub combinations_2_3 : combination_rows 2 3 ≡ []
  -- with replacement, 2 from 2, and 1 from none
  pub replacement_2_2 : replacement_rows 2 2 ≡ (0 ∷ (0 ∷ [])) ∷ ((0 ∷ (1 ∷ [])) ∷ ((1 ∷ (1 ∷ [])) ∷ []))
  pub replacement_0_1 : replacement_rows 0 1 ≡ []
  -- permutations of 2 from 3, and of none from none
  pub permutations_3_2 : permutation_rows 3 2 ≡ (0 ∷ (1 ∷ [])) ∷ ((0 ∷ (2 ∷ [])) ∷ ((1 ∷ (0 ∷ [])) ∷ ((1 ∷ (2 ∷ [])) ∷ ((2 ∷ (0 ∷ [])) ∷ ((2 ∷ (1 ∷ [])) ∷ [])))))
  pub permutations_0_0 : permutation_rows 0 0 ≡ [] ∷ []
  -- makings: 256 elements and 64 places pass; a pool too long is told before a row too long
  pub most : refusal_of_making controller (256 ∷ []) 64 ≡ None
  pub one_element_more : refusal_of_making controller (257 ∷ []) 65 ≡ Some PoolTooLong
  pub one_place_more : refusal_of_making controller (256 ∷ []) 65 ≡ Some RowTooLong
  -- next calls, on a pool of 3 with rows of 2: the pool is looked at before the buffers, both buffers are
  pub fits_exactly : refusal_of_call 3 2 3 2 2 ≡ None
  pub other_pool : refusal_of_call 3 2 4 1 1 ≡ Some OtherPool
  pub short_places : refusal_of_call 3 2 3 1 2 ≡ Some ShortBuffer
  pub short_elements : refusal_of_call 3 2 3 2 1 ≡ Some ShortBuffer
  -- the numbers of these refusals
  pub numbers_of_makings : (refusal_number_of_making controller (257 ∷ []) 65 ≡ Some 1) × (refusal_number_of_making controller (256 ∷ []) 65 ≡ Some 2)
  pub numbers_of_calls : (refusal_number_of_call 3 2 4 1 1 ≡ Some 3) × (refusal_number_of_call 3 2 3 1 2 ≡ Some 4)
  pub refusal_numbers : map refusal_number (PoolTooLong ∷ (RowTooLong ∷ (OtherPool ∷ (ShortBuffer ∷ [])))) ≡ 1 ∷ (2 ∷ (3 ∷ (4 ∷ [])))
  -- tee: a store of 2 over 1 2 3, and a store of no places
  pub tee_of_two : stepping (fresh 2 2) (Ok 1 ∷ (Ok 2 ∷ (Ok 3 ∷ []))) (9 ∷ (9 ∷ [])) (0 ∷ (0 ∷ (0 ∷ (1 ∷ []))))
      ≡ Ok (Item 1) ∷ (Ok (Item 2) ∷ (Err (Refused StoreFull) ∷ (Ok (Item 1) ∷ [])))
  pub tee_of_no_place : stepping (fresh 1 0) (Ok 1 ∷ []) [] (0 ∷ []) ≡ Err (Refused StoreFull) ∷ []
  -- with a place left it says end; a fault takes no place, and goes to the branch that drew it
  pub tee_to_the_end : stepping (fresh 1 2) (Ok 1 ∷ []) (9 ∷ (9 ∷ [])) (0 ∷ (0 ∷ (0 ∷ []))) ≡ Ok (Item 1) ∷ (Ok End ∷ (Ok End ∷ []))
  pub tee_over_a_fault : stepping (fresh 2 2) (Ok 1 ∷ (Err broke ∷ (Ok 2 ∷ []))) (9 ∷ (9 ∷ [])) (0 ∷ (0 ∷ (1 ∷ (1 ∷ (0 ∷ [])))))
      ≡ Ok (Item 1) ∷ (Err (Broken broke) ∷ (Ok (Item 1) ∷ (Ok (Item 2) ∷ (Ok (Item 2) ∷ []))))
  pub tee_over_a_later_fault : stepping (fresh 2 4) (Ok 1 ∷ (Ok 2 ∷ (Err broke ∷ (Ok 3 ∷ []))))
      (9 ∷ (9 ∷ (9 ∷ (9 ∷ [])))) (0 ∷ (0 ∷ (0 ∷ (1 ∷ (1 ∷ (0 ∷ []))))))
      ≡ Ok (Item 1) ∷ (Ok (Item 2) ∷ (Err (Broken broke) ∷ (Ok (Item 1) ∷ (Ok (Item 2) ∷ (Ok (Item 3) ∷ [])))))
  -- the store is looked at before the branch, the branch before the place
  pub tee_refusals : (step_number (fresh 2 1) 7 2 ≡ Some 9) × (step_number (fresh 2 0) 7 0 ≡ Some 8) × (step_number (fresh 2 0) 1 0 ≡ Some 6) × (step_number (fresh 2 1) 1 1 ≡ None)
  -- copies: the next number, standing where the original stands; none of a branch that is not there, none beyond 16
  pub tee_copies : (copy_answer (fresh 2 2) 1 ≡ Ok 2) × (copy_answer (fresh 2 2) 2 ≡ Err NoBranch) × (copy_answer (fresh 15 2) 0 ≡ Ok 15) × (copy_answer (fresh 16 2) 0 ≡ Err NoBranch)
  pub tee_copied : take 3 (copy_marks (marks_behind (fresh 2 2) (Ok 1 ∷ []) (9 ∷ (9 ∷ [])) (0 ∷ [])) 0).positions ≡ 1 ∷ (0 ∷ (1 ∷ []))
  -- makings: two branches where the number is absent
  pub tee_branches : (asked_for None ≡ 2) × (asked_for (Some 0) ≡ 0)
  -- groups of 5 5 6 5 by the item itself are 5, 6, 5
  pub groups_of_itself : told_by (GroupCall ∷ (GroupCall ∷ (GroupCall ∷ (GroupCall ∷ [])))) (grouping five_five_six_five)
      ≡ opened 5 1 ∷ (opened 6 2 ∷ (opened 5 3 ∷ (Opened (Ok End) ∷ [])))
  -- a number that is not current says end, and the item that meets the next run waits
  pub items_of_a_group : told_by (GroupCall ∷ (ItemCall 1 ∷ (ItemCall 2 ∷ (ItemCall 1 ∷ (ItemCall 1 ∷ (GroupCall ∷ (ItemCall 1 ∷ (ItemCall 2 ∷ [])))))))) (grouping five_five_six_five)
      ≡ opened 5 1 ∷ (gave 5 ∷ (Given (Ok End) ∷ (gave 5 ∷ (Given (Ok End) ∷ (opened 6 2 ∷ (Given (Ok End) ∷ (gave 6 ∷ [])))))))
  -- the group call has drawn the first item of its run alone, and a pairwise over the group pairs its items
  pub group_draws_one : (left_by (GroupCall ∷ []) (grouping five_five_six_five)).ahead ≡ map Ok (5 ∷ (6 ∷ (5 ∷ [])))
  pub pairs_of_a_group : unpaired (items_of nat_eq (left_by (GroupCall ∷ []) (grouping five_five_six_five)) 1) ≡ Ok (5, 5) ∷ []
  -- a fault in an item call leaves its number; one in a group call gives none, and the old number is stale
  pub fault_of_an_item : told_by (GroupCall ∷ (ItemCall 1 ∷ (ItemCall 1 ∷ (ItemCall 1 ∷ [])))) (grouping (Ok 5 ∷ (Err broke ∷ (Ok 5 ∷ []))))
      ≡ opened 5 1 ∷ (gave 5 ∷ (Given (Err broke) ∷ (gave 5 ∷ [])))
  pub fault_of_a_group : told_by (GroupCall ∷ (GroupCall ∷ (ItemCall 1 ∷ (GroupCall ∷ [])))) (grouping (Ok 5 ∷ (Err broke ∷ (Ok 5 ∷ (Ok 6 ∷ [])))))
      ≡ opened 5 1 ∷ (Opened (Err (Broken broke)) ∷ (Given (Ok End) ∷ (opened 6 2 ∷ [])))
  -- and the same once more groups were given: the group call behind the fault goes on skipping the old run, numbers go on
  pub fault_of_a_later_group : told_by (GroupCall ∷ (GroupCall ∷ (GroupCall ∷ (GroupCall ∷ []))))
      (grouping (Ok 4 ∷ (Ok 5 ∷ (Err broke ∷ (Ok 5 ∷ (Ok 6 ∷ []))))))
      ≡ opened 4 1 ∷ (opened 5 2 ∷ (Opened (Err (Broken broke)) ∷ (opened 6 3 ∷ [])))
  pub group_behind_a_fault : told_by (GroupCall ∷ (ItemCall 1 ∷ (ItemCall 1 ∷ (GroupCall ∷ []))))
      (grouping (Ok 5 ∷ (Err broke ∷ (Ok 5 ∷ (Ok 6 ∷ [])))))
      ≡ opened 5 1 ∷ (gave 5 ∷ (Given (Err broke) ∷ (opened 6 2 ∷ [])))
  -- 4,294,967,295 groups are given, and a call for one more is refused
  pub most_groups_given : (number_earned 4294967294 ≡ None) × (number_earned 4294967295 ≡ Some 7)
  -- the runs of 5 5 6 5
  pub three_runs : Runs (λ (a : ℕ). Ok a) nat_eq (5 ∷ (5 ∷ (6 ∷ (5 ∷ []))))
      (record { key = 5; first = 5; more = 5 ∷ [] } ∷ (record { key = 6; first = 6; more = [] } ∷ (record { key = 5; first = 5; more = [] } ∷ [])))
  -- the same with their ends, call by call
  pub every_third_calls : calling 3 (slices (until 0 (Some 5)) 3 (Some 0) 0 (numbers 0 10)) ≡ Ok (Item 0) ∷ (Ok (Item 3) ∷ (Ok End ∷ []))
  pub start_past_stop_calls : calling 1 (slices (until 3 (Some 1)) 1 (Some 3) 0 (numbers 0 10)) ≡ Ok End ∷ []
  pub selected_calls : calling 2 (compressed {A = ℕ} {B = ℕ} nonzero (map Ok (7 ∷ (8 ∷ (9 ∷ [])))) (map Ok (1 ∷ (0 ∷ [])))) ≡ Ok (Item 7) ∷ (Ok End ∷ [])
  pub product_of_two_calls : stepping_rows 5 (product_rows (2 ∷ (2 ∷ [])) 1)
      ≡ a_row (0 ∷ (0 ∷ [])) ∷ (a_row (0 ∷ (1 ∷ [])) ∷ (a_row (1 ∷ (0 ∷ [])) ∷ (a_row (1 ∷ (1 ∷ [])) ∷ (no_row ∷ []))))
  pub product_of_none_calls : stepping_rows 2 (product_rows [] 1) ≡ a_row [] ∷ (no_row ∷ [])
  pub product_with_empty_calls : stepping_rows 1 (product_rows (3 ∷ (0 ∷ [])) 1) ≡ no_row ∷ []
  pub combinations_calls : stepping_rows 4 (combination_rows 3 2) ≡ a_row (0 ∷ (1 ∷ [])) ∷ (a_row (0 ∷ (2 ∷ [])) ∷ (a_row (1 ∷ (2 ∷ [])) ∷ (no_row ∷ [])))
  pub combinations_none_calls : stepping_rows 1 (combination_rows 2 3) ≡ no_row ∷ []
  pub replacement_calls : stepping_rows 4 (replacement_rows 2 2) ≡ a_row (0 ∷ (0 ∷ [])) ∷ (a_row (0 ∷ (1 ∷ [])) ∷ (a_row (1 ∷ (1 ∷ [])) ∷ (no_row ∷ [])))
  pub replacement_none_calls : stepping_rows 1 (replacement_rows 0 1) ≡ no_row ∷ []
  pub permutations_calls : stepping_rows 7 (permutation_rows 3 2)
      ≡ a_row (0 ∷ (1 ∷ [])) ∷ (a_row (0 ∷ (2 ∷ [])) ∷ (a_row (1 ∷ (0 ∷ [])) ∷ (a_row (1 ∷ (2 ∷ [])) ∷ (a_row (2 ∷ (0 ∷ [])) ∷ (a_row (2 ∷ (1 ∷ [])) ∷ (no_row ∷ []))))))
  pub permutations_none_calls : stepping_rows 2 (permutation_rows 0 0) ≡ a_row [] ∷ (no_row ∷ [])
  -- islice: a fault met on the way is given and not counted, one behind the stop is left
  pub slice_over_a_fault : slices {A = ℕ} (until 0 (Some 2)) 1 (Some 0) 0 (Ok 5 ∷ (Err broke ∷ (Ok 6 ∷ (Err broke ∷ [])))) ≡ Ok 5 ∷ (Err broke ∷ (Ok 6 ∷ []))
  pub slice_leaves_a_fault : slice_end {A = ℕ} (until 0 (Some 2)) 1 (Some 0) 0 (Ok 5 ∷ (Err broke ∷ (Ok 6 ∷ (Err broke ∷ [])))) ≡ Err broke ∷ []
  -- islice refuses a step of 0, no argument and four, and 2^63; 2^63 - 1 passes
  pub slice_refusals : (bounds (None ∷ (None ∷ (Some 0 ∷ []))) ≡ None) × (bounds [] ≡ None) × (bounds (None ∷ (None ∷ (None ∷ (None ∷ [])))) ≡ None)
      × (bounds (Some 9223372036854775808 ∷ []) ≡ None) × (bounds (Some 9223372036854775807 ∷ []) ≡ Some (record { start = 0; stop = Some 9223372036854775807; step = 1 }))
  -- accumulate: sums from the first item, and the larger from an initial value
  pub sums : from_initial sum None (map Ok (1 ∷ (2 ∷ (3 ∷ [])))) ≡ map Ok (1 ∷ (3 ∷ (6 ∷ [])))
  pub larger_from_four : from_initial larger (Some 4) (map Ok (1 ∷ (9 ∷ (3 ∷ [])))) ≡ map Ok (4 ∷ (4 ∷ (9 ∷ (9 ∷ []))))
  -- a plan with nine minutes between two blocks of a bay passes, one with ten fails
  pub nine_minutes : all_clear (account_of (block 360 370 ∷ (block 379 480 ∷ []))) ≡ true
  pub ten_minutes : all_clear (account_of (block 360 370 ∷ (block 380 480 ∷ []))) ≡ false
  -- the numbers of all nine refusals
  pub all_refusals : map refusal_number (PoolTooLong ∷ (RowTooLong ∷ (OtherPool ∷ (ShortBuffer ∷ (SliceArguments ∷ (StoreFull ∷ (TooManyGroups ∷ (NoBranch ∷ (OtherStore ∷ [])))))))))
      ≡ 1 ∷ (2 ∷ (3 ∷ (4 ∷ (5 ∷ (6 ∷ (7 ∷ (8 ∷ (9 ∷ []))))))))
  -- a job: the bytes 04 00 02 00 03 00 02 00 list the combinations of 2 from 3; no bytes are cause 1, and 257 elements refusal 1
  pub job_listed : answer_text (4 ∷ (0 ∷ (2 ∷ (0 ∷ (3 ∷ (0 ∷ (2 ∷ (0 ∷ [])))))))) ≡ listing (combination_rows 3 2)
  pub job_faulty : answer_text [] ≡ fault_text 1
  pub job_refused : answer_text (4 ∷ (0 ∷ (2 ∷ (0 ∷ (1 ∷ (1 ∷ (2 ∷ (0 ∷ [])))))))) ≡ refusal_text 1
  -- the predicates at their edges: below 8 is 7, at least 8 is 8, 0 is no number but every other is, 360 to 370 lasts 10 minutes and not 11
  pub predicates_at_their_edges : (below 8 7 ≡ Ok true) × (below 8 8 ≡ Ok false) × (at_least 8 8 ≡ Ok true) × (at_least 8 7 ≡ Ok false)
      × (non_zero 1 ≡ Ok true) × (non_zero 0 ≡ Ok false) × (same_as nat_eq 7 7 ≡ Ok true) × (same_as nat_eq 7 8 ≡ Ok false)
      × (lasts 10 (stay 360 370) ≡ Ok true) × (lasts 11 (stay 360 370) ≡ Ok false)
  -- predicates made of others: the second is asked only where it matters, and a fault stays
  pub predicates_of_others : (turned (Ok true) ≡ Ok false) × (turned (Ok false) ≡ Ok true) × (turned (Err broke) ≡ Err broke)
      × (both (Ok true) (Ok false) ≡ Ok false) × (both (Ok true) (Ok true) ≡ Ok true) × (both (Ok false) (Err broke) ≡ Ok false) × (both (Err broke) (Ok true) ≡ Err broke)
      × (either (Ok false) (Ok true) ≡ Ok true) × (either (Ok false) (Ok false) ≡ Ok false) × (either (Ok true) (Err broke) ≡ Ok true) × (either (Err broke) (Ok true) ≡ Err broke)
  -- keys and minutes of a block: bus 7 at bay 2 from 360 to 370, and 9 minutes to a block from 379
  pub block_measured : (bay_and_bus (stay 360 370) ≡ (2, 7)) × (minutes_of (stay 360 370) ≡ 10)
      × (gap_until (stay 360 370) (stay 379 480) ≡ Some 9) × (gap_until (stay 360 370) (stay 370 480) ≡ Some 0) × (gap_until (stay 360 370) (stay 369 480) ≡ None)
  -- what faults print
  pub faults_in_words : (text_of_fault broke ≡ codes "fault of a source, cause 3, at byte 40")
      × (text_of_fault (record { origin = 2; cause = 7; place = 0 }) ≡ codes "fault of a predicate, cause 7")
      × (text_of_fault (record { origin = 3; cause = 7; place = 5 }) ≡ codes "fault of a key kind, cause 7, at byte 5")
      × (text_of_fault (record { origin = 4; cause = 1; place = 0 }) ≡ codes "fault of a joining, cause 1")
      × (text_of_fault (record { origin = 9; cause = 0; place = 0 }) ≡ codes "fault of origin 9, cause 0")
  -- what a record's faults print, by each cause and by none
  pub records_in_words : (record_fault_text (broken 1 40) ≡ codes "record at byte 40, cause 1: fewer than four bytes left")
      × (record_fault_text (broken 2 0) ≡ codes "record at byte 0, cause 2: payload cut short")
      × (record_fault_text broke ≡ codes "record at byte 40, cause 3: another kind of record")
      × (record_fault_text (broken 4 12) ≡ codes "record at byte 12, cause 4: payload not of eight bytes")
      × (record_fault_text (broken 5 24) ≡ codes "record at byte 24, cause 5: end not after start, or after midnight")
      × (record_fault_text (broken 6 24) ≡ codes "record at byte 24, cause 6: unknown")
      × (record_fault_text (record { origin = 4; cause = 1; place = 0 }) ≡ codes "fault of a joining, cause 1")
  -- what refusals print, and a call's error of either kind
  pub refusals_in_words : (text_of_refusal PoolTooLong ≡ codes "refused (1): a pool above 256 elements")
      × (text_of_refusal RowTooLong ≡ codes "refused (2): more than 64 pools, or a row above 64 places")
      × (text_of_refusal OtherPool ≡ codes "refused (3): a lent pool not as long as at the making")
      × (text_of_refusal ShortBuffer ≡ codes "refused (4): a lent buffer shorter than a row, a listing or a text needs")
      × (text_of_refusal SliceArguments ≡ codes "refused (5): islice: not one to three arguments, a step of 0, or a number above 2^63 - 1")
      × (text_of_refusal StoreFull ≡ codes "refused (6): a tee's step needs a draw and its store is full")
      × (text_of_refusal TooManyGroups ≡ codes "refused (7): a group call where 4,294,967,295 groups were given")
      × (text_of_refusal NoBranch ≡ codes "refused (8): no such branch of a tee, or more than 16 branches")
      × (text_of_refusal OtherStore ≡ codes "refused (9): a tee's store not as long as at the making")
      × (call_error_text (Refused StoreFull) ≡ text_of_refusal StoreFull) × (call_error_text (Broken broke) ≡ text_of_fault broke)
  -- a text at a place: where it fits, and where it is refused
  pub text_at_a_place : (place_behind 1 3 4 ≡ Ok 4) × (place_behind 1 3 3 ≡ Err ShortBuffer)
      × (if_room 1 (7 ∷ (8 ∷ [])) (0 ∷ (1 ∷ (2 ∷ (3 ∷ [])))) ≡ 0 ∷ (7 ∷ (8 ∷ (3 ∷ []))))
      × (if_room 3 (7 ∷ (8 ∷ [])) (0 ∷ (1 ∷ (2 ∷ (3 ∷ [])))) ≡ 0 ∷ (1 ∷ (2 ∷ (3 ∷ []))))
