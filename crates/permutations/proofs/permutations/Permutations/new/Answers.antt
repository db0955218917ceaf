use Rattle.std.proofs.Common.{◌≡◌, ℕ, ◌-◌, ◌<◌, ◌≤◌, ◌∷◌, [], length, get_or, Option, Some, None, MatchOption, option_map, ◌∙◌, ap, subst, arith}
use Rattle.row_laws.specs.Lawful.{PermutationRow}
use Rattle.row_laws.specs.Lists.{permutation_rows}
use Rattle.row_laws.specs.Successor.{First}
use Rattle.row_laws.specs.Calls.{Shown, refusal_of_making, controller}
use Rattle.row_laws.specs.Makings.{Made, permutation_making}
use Rattle.row_laws.specs.Standing.{one_pool}
use Rattle.row_laws.specs.Cycles.{row_length}
use Rattle.row_laws.proofs.Families.{permutations_listed}
use Rattle.row_laws.proofs.Cycles.{cycling_start, cycling_first, row_length_is}
use Rattle.row_laws.proofs.Choosing.{permutations_none}
use Rattle.row_laws.proofs.Standing.{made_one}
use Rattle.permutations.specs.declared.cycles.Cycles.{Cycles}
use Rattle.permutations.proofs.permutations.Permutations.new.Goals as goal

pub invariant_of-result : goal.invariant_of-result
invariant_of-result c =
    let n = c.in_ok-choice.choice.n in
    let r = c.in_ok-choice.choice.r in
    record {
      fitting = λ t is. (rw is at c.first.ensures).0;
      cycling = λ t is.
          let h = rw is at c.first.ensures in
          cycling_start n r t.indices t.cycles h.0 (omega (arith, t.whole, c.in_ok-choice.choice.few)) (λ k k<. h.1 k (omega (arith, c.in_ok-choice.choice.few)))
          (λ k k<. h.2 k (omega (arith, c.in_ok-choice.choice.short)));
    }

begins : (n r : ℕ) (at : Option Cycles) → r ≤ controller.places → n ≤ controller.elements
    → MatchOption at (n < r) (λ t. (r ≤ n) × ((k : ℕ) → k < controller.elements → get_or t.indices k 0 ≡ k) × ((k : ℕ) → k < controller.places → get_or t.cycles k 0 ≡ n - k))
    → MatchOption (option_map (λ t. t.indices) at) (permutation_rows n r ≡ []) (λ xs. (r ≤ length xs) × First (PermutationRow n r) r xs)
begins n r None short few h = permutations_none n r h
begins n r (Some t) short few h = (omega (arith, t.whole), cycling_first n r t.indices h.0 (λ k k<. h.1 k (omega arith)))

pub returns : goal.returns
returns c =
    let choice = c.in_ok-choice.choice in
    let n = choice.n in
    let r = choice.r in
    let made = c.in_ok-choice.ensures in
    let places : c.unwrap_or.result ≡ row_length c.args.n c.args.r = c.unwrap_or.ensures ∙ row_length_is c.args.n c.args.r in
    let at = option_map (λ t. t.indices) c.first.result in
    let v : Shown = one_pool (permutation_rows n r) n r at in
    let makable : refusal_of_making controller (n ∷ []) r ≡ None = ap (λ z. refusal_of_making controller (z ∷ []) r) made.1 ∙ ap (refusal_of_making controller (c.args.n ∷ [])) made.2 ∙ made.0 in
    let all : Made controller (PermutationRow n r) (permutation_making n r 0) v =
    made_one (PermutationRow n r) r (permutation_rows n r) (permutations_listed n r) controller n at makable (begins n r c.first.result choice.short choice.few c.first.ensures) in
    subst (λ z. Made controller (PermutationRow c.args.n z) (permutation_making c.args.n z 0) v) (made.2 ∙ places)
    (subst (λ z. Made controller (PermutationRow z r) (permutation_making z r 0) v) made.1 all)
