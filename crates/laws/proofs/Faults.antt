-- Faults woven together.
use Rattle.std.proofs.Common.{List, [], ◌∷◌, refl, inl, inr}
use Rattle.steps.specs.declared.fault.Fault.{Fault}
use Rattle.laws.specs.Faults.{Woven}

pub woven_left : (O : Fault → Type 0) (fs : List Fault) → Woven O fs [] fs
woven_left O [] = (refl, refl)
woven_left O (f ∷ fs) = inr (inl (fs, refl, woven_left O fs))
