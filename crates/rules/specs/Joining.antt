-- What the joinings mean.
use Rattle.std.specs.Prelude.{ℕ, ◌+◌, ◌^◌, cond, Ok, Err, Result, nat_lt}
use Rattle.steps.specs.declared.fault.Fault.{Fault}
use Rattle.steps.specs.declared.fault.TheConstants.Fault.{JOINING}

-- the larger of two
abbrev pub larger : ℕ → ℕ → Result ℕ Fault
larger a b = Ok (cond (nat_lt a b) b a)

-- the sum, where 64 bits hold it; else cause 1
abbrev pub sum : ℕ → ℕ → Result ℕ Fault
sum a b = cond (nat_lt (a + b) (2 ^ 64)) (Ok (a + b)) (Err (record { origin = JOINING; cause = 1; place = 0 }))
