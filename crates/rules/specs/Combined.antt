-- What predicates mean that are made of others, by what those say of the same item.
use Rattle.std.specs.Prelude.{Bool, true, false, not, Ok, Err, Result}
use Rattle.steps.specs.declared.fault.Fault.{Fault}

-- yes for no and no for yes
abbrev pub turned : Result Bool Fault → Result Bool Fault
turned (Ok b) = Ok (not b)
turned (Err f) = Err f

-- what the first says, and the second where that is yes
abbrev pub both : Result Bool Fault → Result Bool Fault → Result Bool Fault
both (Ok true) second = second
both (Ok false) second = Ok false
both (Err f) second = Err f

-- what the first says, and the second where that is no
abbrev pub either : Result Bool Fault → Result Bool Fault → Result Bool Fault
either (Ok true) second = Ok true
either (Ok false) second = second
either (Err f) second = Err f
