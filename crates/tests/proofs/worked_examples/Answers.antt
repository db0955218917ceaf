use Rattle.std.proofs.Common.{refl, [], ◌∷◌}
use Rattle.std.specs.Fmt.{digits}
use Rattle.row_laws.specs.Lists.{product_rows, combination_rows, replacement_rows, permutation_rows, tuples, headed}
use Rattle.tests.proofs.worked_examples.Goals as goal

pub returns : goal.returns
unfolding product_rows combination_rows replacement_rows permutation_rows tuples headed digits
returns c = record {
  result = refl;
  law = record {
    every_third = refl;
    every_third_gives = refl;
    every_third_leaves = refl;
    start_past_stop_gives = refl;
    start_past_stop_leaves = refl;
    selected = refl;
    selected_leaves = refl;
    fault_before_a_pair = refl;
    fault_after_a_pair = refl;
    left_fault = refl;
    chain_cut = refl;
    taken_over_a_fault = refl;
    dropped_over_a_fault = refl;
    data_fault = refl;
    selector_fault = refl;
    header_cut = refl;
    payload_cut = refl;
    other_kind_and_length = refl;
    no_minutes = refl;
    block_bytes = refl;
    product_of_two = refl;
    product_of_none = refl;
    product_with_empty = refl;
    product_repeated = refl;
    product_repeated_never = refl;
    combinations_3_2 = refl;
    combinations_2_3 = refl;
    replacement_2_2 = refl;
    replacement_0_1 = refl;
    permutations_3_2 = refl;
    permutations_0_0 = refl;
    most = refl;
    one_element_more = refl;
    one_place_more = refl;
    fits_exactly = refl;
    other_pool = refl;
    short_places = refl;
    short_elements = refl;
    numbers_of_makings = (refl, refl);
    numbers_of_calls = (refl, refl);
    refusal_numbers = refl;
    tee_of_two = refl;
    tee_of_no_place = refl;
    tee_to_the_end = refl;
    tee_over_a_fault = refl;
    tee_over_a_later_fault = refl;
    tee_refusals = (refl, refl, refl, refl);
    tee_copies = (refl, refl, refl, refl);
    tee_copied = refl;
    tee_branches = (refl, refl);
    groups_of_itself = refl;
    items_of_a_group = refl;
    group_draws_one = refl;
    pairs_of_a_group = refl;
    fault_of_an_item = refl;
    fault_of_a_group = refl;
    fault_of_a_later_group = refl;
    group_behind_a_fault = refl;
    most_groups_given = (refl, refl);
    three_runs = (
      6 ∷ (5 ∷ []),
      refl,
      record { first_key = refl; equal = (record { its = 5; is = refl; equal = refl }, tt); longest = record { its = 6; is = refl; unequal = refl } },
      (
        5 ∷ [],
        refl,
        record { first_key = refl; equal = tt; longest = record { its = 5; is = refl; unequal = refl } },
        ([], refl, record { first_key = refl; equal = tt; longest = tt }, refl),
      ),
    );
    every_third_calls = refl;
    start_past_stop_calls = refl;
    selected_calls = refl;
    product_of_two_calls = refl;
    product_of_none_calls = refl;
    product_with_empty_calls = refl;
    combinations_calls = refl;
    combinations_none_calls = refl;
    replacement_calls = refl;
    replacement_none_calls = refl;
    permutations_calls = refl;
    permutations_none_calls = refl;
    slice_over_a_fault = refl;
    slice_leaves_a_fault = refl;
    slice_refusals = (refl, refl, refl, refl, refl);
    sums = refl;
    larger_from_four = refl;
    nine_minutes = refl;
    ten_minutes = refl;
    all_refusals = refl;
    job_listed = refl;
    job_faulty = refl;
    job_refused = refl;
    predicates_at_their_edges = (refl, refl, refl, refl, refl, refl, refl, refl, refl, refl);
    predicates_of_others = (refl, refl, refl, refl, refl, refl, refl, refl, refl, refl, refl);
    block_measured = (refl, refl, refl, refl, refl);
    faults_in_words = (refl, refl, refl, refl, refl);
    records_in_words = (refl, refl, refl, refl, refl, refl, refl);
    refusals_in_words = (refl, refl, refl, refl, refl, refl, refl, refl, refl, refl, refl);
    text_at_a_place = (refl, refl, refl, refl);
  };
}
