-- What a making is asked for, and what it makes.
use Rattle.std.specs.Prelude.{◌≡◌, ℕ, ◌*◌, ◌<◌, List, [], ◌∷◌, length, drop, sum, None}
use Rattle.row_laws.specs.Lawful.{AllInOrder}
use Rattle.row_laws.specs.Lists.{product_rows, combination_rows, replacement_rows, permutation_rows}
use Rattle.row_laws.specs.Calls.{Shown, Limits, refusal_of_making, at_front_of_pool}
use Rattle.row_laws.specs.Carries.{pool_start}

-- the pools' lengths, and what an enumerator is to show that begins at row number `first` of the list `all`
pub record Making : Type 0 where
  pub lengths : List ℕ
  pub size : ℕ
  pub width : ℕ
  pub starts : ℕ → ℕ
  pub all : List (List ℕ)
  pub first : ℕ

-- the pools of a product, q times over, lie one after another in one list
abbrev pub product_making : List ℕ → ℕ → ℕ → Making
product_making lengths q first = record {
  lengths = lengths;
  size = sum lengths;
  width = length lengths * q;
  starts = pool_start lengths;
  all = product_rows lengths q;
  first = first;
}

-- rows of r places from one pool of n elements
abbrev pub one_pool_making : List (List ℕ) → ℕ → ℕ → ℕ → Making
one_pool_making all n r first =
    record { lengths = n ∷ []; size = n; width = r; starts = at_front_of_pool; all = all; first = first }

abbrev pub combination_making : ℕ → ℕ → ℕ → Making
combination_making n r first = one_pool_making (combination_rows n r) n r first

abbrev pub replacement_making : ℕ → ℕ → ℕ → Making
replacement_making n r first = one_pool_making (replacement_rows n r) n r first

abbrev pub permutation_making : ℕ → ℕ → ℕ → Making
permutation_making n r first = one_pool_making (permutation_rows n r) n r first

-- what an enumerator is to show that was made so
abbrev pub wanted : Making → Shown
wanted m = record { ahead = drop m.first m.all; size = m.size; width = m.width; starts = m.starts }

-- a making that was accepted: within the limits, and the enumerator shows what is wanted, of all lawful rows in order
pub record Made (limits : Limits) (Lawful : List ℕ → Type 0) (m : Making) (v : Shown) : Type 0 where
  pub makable : refusal_of_making limits m.lengths m.width ≡ None
  pub size : v.size ≡ m.size
  pub width : v.width ≡ m.width
  pub starts : (k : ℕ) → k < m.width → v.starts k ≡ m.starts k
  pub ahead : v.ahead ≡ drop m.first m.all
  pub in_order : AllInOrder Lawful m.all
