-- A key kind that meets a fault at one item.
use Rattle.std.specs.Prelude.{◌≡◌, ℕ, Bool, true, false, cond, Ok, Err, Result, ◌==◌}
use Rattle.std.proofs.Common.{refl, subst, arith}
use Rattle.steps.specs.declared.fault.Fault.{Fault}

abbrev pub no_key : Fault
no_key = record { origin = 3; cause = 1; place = 0 }

-- the item itself is the key, but for the bad item
abbrev pub key_unless : ℕ → ℕ → Result ℕ Fault
key_unless bad n = cond (bad == n) (Err no_key) (Ok n)

abbrev OfKey : Fault → Type 0
OfKey f = (f.origin ≡ 3) × (f.place ≡ 0)

by_test : (b : Bool) (n : ℕ) (f : Fault) → cond b (Err no_key) (Ok n) ≡ Err f → OfKey f
by_test true n f e = let same : no_key ≡ f = cc in subst OfKey same (refl, refl)
by_test false n f e = let z : ◌≡◌ {A = ℕ} 0 1 = cc in absurd (omega arith)

pub key_unless_origin : (bad n : ℕ) (f : Fault) → key_unless bad n ≡ Err f → OfKey f
key_unless_origin bad n f e = by_test (bad == n) n f e
