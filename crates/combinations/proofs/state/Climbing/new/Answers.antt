use Rattle.std.proofs.Common.{◌≡◌, ◌∙◌, ap, ◌∷◌, ℕ, ◌-◌, ◌<◌, ◌≤◌, List, [], length, get_or, Option, Some, None, MatchOption, subst, arith, rules}
use Rattle.std.specs.Option.{ForSome}
use Rattle.std.proofs.lemmas.Option.{same_Some}
use Rattle.row_laws.specs.Calls.{Shown, refusal_of_making, controller}
use Rattle.row_laws.specs.Makings.{Made, one_pool_making}
use Rattle.row_laws.specs.Standing.{one_pool}
use Rattle.row_laws.specs.Successor.{First}
use Rattle.row_laws.specs.Climbs.{ClimbingRow}
use Rattle.row_laws.proofs.Climbing.{low_first, no_row}
use Rattle.row_laws.specs.Listed.{Listed}
use Rattle.row_laws.proofs.Standing.{made_one}
use Rattle.combinations.proofs.state.Climbing.new.Goals as goal

-- what `first_row` answers, where there are `most` places in all
module _ (n r : ℕ) (above : ℕ → ℕ) (most : ℕ) (short : r ≤ most) where
  abbrev Lowest : Option (List ℕ) → Type 0
  Lowest at = MatchOption at ((0 < r) × (n ≤ above (r - 1))) (λ xs. (0 < r → above (r - 1) < n) × (length xs ≡ most) × ((k : ℕ) → k < most → get_or xs k 0 ≡ above k))

  begins : {rows : List (List ℕ)} {Law : List ℕ → Type 0} → Listed Law r rows → ((y : List ℕ) → Law y → ClimbingRow n r above y) → above 0 ≡ 0
      → (at : Option (List ℕ)) → Lowest at → MatchOption at (rows ≡ []) (λ xs. (r ≤ length xs) × First Law r xs)
  begins {rows} {Law} listed climbs zero None h = no_row n r above Law climbs rows listed zero h.0 h.1
  begins {rows} {Law} listed climbs zero (Some xs) h = (omega (arith, h.1), low_first n r above Law climbs zero xs (λ k k<. h.2 k (omega arith)))

  climbs_first : ((i k : ℕ) → i ≤ k → above i ≤ above k) → (at : Option (List ℕ)) → Lowest at → ForSome at (λ xs. ClimbingRow n r above xs)
  climbs_first mono None h = λ ys e. search rules
  climbs_first mono (Some xs) h = λ ys e. subst (ClimbingRow n r above) (same_Some xs ys e) (record {
    below = λ k k<. omega (arith, h.2 k (omega arith), mono k (r - 1) (omega arith), h.0 (omega arith));
    apart = λ i k i≤k k<. omega (arith, h.2 i (omega arith), h.2 k (omega arith));
  })

pub returns : goal.returns
returns g c =
    let choice = c.in_ok-choice.choice in
    let n = choice.n in
    let r = choice.r in
    let K = g.K.Climb in
    let met = g.met.K.Climb in
    let made = c.in_ok-choice.ensures in
    let at = c.first_row.result in
    let v : Shown = one_pool (K.rows n r) n r at in
    let makable : refusal_of_making controller (n ∷ []) r ≡ None = ap (λ z. refusal_of_making controller (z ∷ []) r) made.1 ∙ ap (refusal_of_making controller (c.args.n ∷ [])) made.2 ∙ made.0 in
    let all : Made controller (K.lawful n r) (one_pool_making (K.rows n r) n r 0) v =
    made_one (K.lawful n r) r (K.rows n r) (met.listed n r) controller n at makable (begins n r K.above controller.places choice.short (met.listed n r) (met.climbs n r) met.from_zero at c.first_row.ensures) in (
      climbs_first n r K.above controller.places choice.short met.unfalling at c.first_row.ensures,
      subst (λ z. Made controller (K.lawful c.args.n z) (one_pool_making (K.rows c.args.n z) c.args.n z 0) v) made.2
          (subst (λ z. Made controller (K.lawful z r) (one_pool_making (K.rows z r) z r 0) v) made.1 all),
    )
