-- What holds of the bytes that were read holds of those that the reader had left.
use Rattle.std.proofs.Common.{◌≡◌, ℕ, List, Option, Some, None, IfSome, subst}

pub of_known : (known : Option (List ℕ)) (read : List ℕ) (P : List ℕ → Type 0) → IfSome known (λ bytes. read ≡ bytes) → P read → IfSome known P
of_known None read P e p = tt
of_known (Some bytes) read P e p = subst P e p
