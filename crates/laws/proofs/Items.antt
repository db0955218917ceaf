-- Items of a list of steps.
use Rattle.std.proofs.Common.{◌≡◌, List, [], ◌∷◌, map, refl, ap, Ok}
use Rattle.laws.specs.Items.{items}

pub items_ok : {A : Type 0} (xs : List A) → items (map Ok xs) ≡ xs
items_ok [] = refl
items_ok (x ∷ xs) = ap (λ us. x ∷ us) (items_ok xs)
