-- What a consume says over plain lists.
use Rattle.std.proofs.Common.{◌≡◌, MatchResult, ℕ, Bool, true, false, cond, List, [], ◌∷◌, Some, None, Option, Ok, Err, Result, ap, ◌∙◌, arith}
use Rattle.steps.specs.declared.fault.Fault.{Fault}
use Rattle.steps.specs.Steps.{Step}
use Rattle.laws.specs.Items.{past}
use Rattle.laws.specs.Islice.{Bounds, Consumed, larger}
use Rattle.laws.proofs.Islice.{cond_same}

-- arguments that are read are those that were given
read_of : (b : Bool) (r read : Bounds) → cond b (Some r) None ≡ Some read → read ≡ r
read_of true r read e = cc
read_of false r read e = let z : ◌≡◌ {A = ℕ} 0 1 = cc in absurd (omega arith)

pub consumed_past : {A : Type 0} (n : ℕ) (ss left : List (Step A)) (met : Option Fault) → Consumed (Some n ∷ (Some n ∷ [])) ss left met → left ≡ past n ss
consumed_past n ss left met c =
    let r : c.read ≡ record { start = n; stop = Some n; step = 1 } = read_of _ _ _ c.from_arguments in
    let stop = ap (λ (b : Bounds). b.stop) r in
    let start = ap (λ (b : Bounds). b.start) r in
    c.drawn.0 n stop ∙ ap (λ m. past (larger m n) ss) start ∙ ap (λ m. past m ss) (cond_same _ n)

-- what follows of each outcome follows of the result
pub match_on : {T E : Type 0} (r : Result T E) (P P' : T → Type 0) (Q Q' : E → Type 0) → ((x : T) → P x → P' x) → ((e : E) → Q e → Q' e) → MatchResult r P Q → MatchResult r P' Q'
match_on (Ok x) P P' Q Q' f g m = f x m
match_on (Err e) P P' Q Q' f g m = g e m
