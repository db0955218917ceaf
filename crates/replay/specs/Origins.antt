-- The faults of a guarded rule have the origin of the rule.
use Rattle.std.specs.Prelude.{◌≡◌, ℕ, Bool, true, false, cond, Some, None, Err, Option, Result, ◌==◌, refl}
use Rattle.std.proofs.Common.{subst}
use Rattle.steps.specs.declared.fault.Fault.{Fault}
use Rattle.replay.specs.Guards.{no_answer, guarded}

abbrev IsFrom : ℕ → Fault → Type 0
IsFrom from f = (f.origin ≡ from) × (f.place ≡ 0)

chosen : {A : Type 0} (from : ℕ) (b : Bool) (said : Result A Fault) (f : Fault) → (said ≡ Err f → IsFrom from f) → cond b (Err (no_answer from)) said ≡ Err f → IsFrom from f
chosen from true said f h e = let same : no_answer from ≡ f = cc in subst (IsFrom from) same (refl, refl)
chosen from false said f h e = h e

pub guarded_origin : {A : Type 0} (from : ℕ) (bad : Option ℕ) (n : ℕ) (said : Result A Fault) (f : Fault) → (said ≡ Err f → IsFrom from f) → guarded from bad n said ≡ Err f → IsFrom from f
guarded_origin from None n said f h e = h e
guarded_origin from (Some bad) n said f h e = chosen from (bad == n) said f h e
