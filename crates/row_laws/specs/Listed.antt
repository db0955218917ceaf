-- A list of rows that holds all rows of a law in ascending order, by the lexicographic order as a test.
use Rattle.std.specs.Prelude.{◌≡◌, ℕ, true, List, [], ◌∷◌, length, ◌⊎◌}
use Rattle.std.specs.List.{AllByRecursion}
use Rattle.row_laws.specs.Lists.{less}

infixl 20 ◌≺◌
abbrev pub ◌≺◌ : List ℕ → List ℕ → Type 0
xs ≺ ys = less xs ys ≡ true

abbrev pub Asc : List (List ℕ) → Type 0
Asc [] = Unit {0}
Asc (x ∷ xs) = AllByRecursion (λ y. x ≺ y) xs × Asc xs

abbrev pub In : List ℕ → List (List ℕ) → Type 0
In x [] = ⊥
In x (y ∷ ys) = (x ≡ y) ⊎ In x ys

-- the rows of a law: in ascending order, lawful, of r places, and all of them
pub record Listed (Law : List ℕ → Type 0) (r : ℕ) (rows : List (List ℕ)) : Type 0 where
  pub sized : (y : List ℕ) → Law y → length y ≡ r
  pub asc : Asc rows
  pub laws : AllByRecursion Law rows
  pub every : (y : List ℕ) → Law y → In y rows
