-- Where the elements of a product lie.
use Rattle.std.proofs.Common.{◌≡◌, ℕ, zero, suc, ◌+◌, ◌%◌, ◌<◌, List, [], ◌∷◌, ◌++◌, map, length, get_or, take, drop, sum, sym, refl, ap, ◌∙◌, add_assoc, zero-add, arith, length-drop}
use Rattle.std.specs.List.{flat_map}
use Rattle.std.proofs.lemmas.List.{drop-append-le, take-append-le, drop-drop, drop_at, length-map}
use Rattle.std.proofs.lemmas.List.Sums.{sum_by-cons}
use Rattle.row_laws.specs.Calls.{one_at}
use Rattle.row_laws.specs.Carries.{PoolByPool}

in_first : {T : Type 0} (xs ys : List T) (p : ℕ) → p < length xs → one_at (xs ++ ys) p ≡ one_at xs p
in_first xs ys p l =
    ap (take 1) (drop-append-le p xs ys (omega arith)) ∙ take-append-le 1 (drop p xs) ys (omega (arith, length-drop p xs))

in_later : {T : Type 0} (xs ys : List T) (p : ℕ) → one_at (xs ++ ys) (length xs + p) ≡ one_at ys p
in_later xs ys p = ap (take 1) (sym (drop-drop p (length xs) (xs ++ ys)) ∙ ap (drop p) (drop_at xs ys (length xs) refl))

in_pool : {T : Type 0} (pools : List (List T)) (m p : ℕ) → p < length (get_or pools m []) → one_at (flat_map (λ pool. pool) pools) (sum (take m (map length pools)) + p) ≡ one_at (get_or pools m []) p
in_pool [] m p l = absurd (omega arith)
in_pool (pool ∷ pools) zero p l = ap (one_at (pool ++ flat_map (λ z. z) pools)) (zero-add p) ∙ in_first pool (flat_map (λ z. z) pools) p l
in_pool (pool ∷ pools) (suc m) p l =
    let rest : ℕ = sum (take m (map length pools)) in
    let more : sum (length pool ∷ take m (map length pools)) + p ≡ length pool + (rest + p) =
    ap (λ z. z + p) (sum_by-cons (λ x. x) (length pool) (take m (map length pools))) ∙ add_assoc (length pool) rest p in
    ap (one_at (pool ++ flat_map (λ z. z) pools)) more ∙ in_later pool (flat_map (λ z. z) pools) (rest + p) ∙ in_pool pools m p l

pub pool_by_pool : (T : Type 0) → PoolByPool T
pool_by_pool T pools k p l =
    let same : length (map length pools) ≡ length pools = length-map pools length in
    ap (λ z. one_at (flat_map (λ pool. pool) pools) (sum (take (k % z) (map length pools)) + p)) same ∙ in_pool pools (k % length pools) p l
