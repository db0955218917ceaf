-- Whose fault it is, by the numbers that `Fault` has, and how it is told. A source tells the place of the record that it met;
-- the others tell none.
use Rattle.std.specs.Prelude.{◌≡◌, ◌⊎◌, ℕ, ◌<◌, ◌^◌, cond, List, [], ◌++◌, codes, decimal, ◌==◌}
use Rattle.steps.specs.declared.fault.Fault.{Fault}
use Rattle.steps.specs.declared.fault.TheConstants.Fault.{SOURCE, PREDICATE, KEY, JOINING}

abbrev pub OfSource : Fault → Type 0
OfSource f = f.origin ≡ SOURCE

abbrev pub OfPredicate : Fault → Type 0
OfPredicate f = (f.origin ≡ PREDICATE) × (f.place ≡ 0)

abbrev pub OfKey : Fault → Type 0
OfKey f = (f.origin ≡ KEY) × (f.place ≡ 0)

abbrev pub OfJoining : Fault → Type 0
OfJoining f = (f.origin ≡ JOINING) × (f.place ≡ 0)

-- a predicate's, a key kind's or a joining's; no other fault is an adapter's own
abbrev pub OwnFault : Fault → Type 0
OwnFault f = ((f.origin ≡ PREDICATE) ⊎ ((f.origin ≡ KEY) ⊎ (f.origin ≡ JOINING))) × (f.place ≡ 0)

-- who met it; an origin that is none of the four is told by its number
abbrev pub origin_text : ℕ → List ℕ
origin_text origin =
    cond (origin == SOURCE) (codes "a source")
    (cond (origin == PREDICATE) (codes "a predicate")
    (cond (origin == KEY) (codes "a key kind")
    (cond (origin == JOINING) (codes "a joining") (codes "origin " ++ decimal origin))))

-- where; nothing is told of 0, unless a source met it
abbrev pub place_text : ℕ → ℕ → List ℕ
place_text origin place =
    cond (origin == SOURCE) (codes ", at byte " ++ decimal place)
    (cond (place == 0) [] (codes ", at byte " ++ decimal place))

-- who met it, its cause and its place
abbrev pub fault_text : Fault → List ℕ
fault_text f = codes "fault of " ++ (origin_text f.origin ++ (codes ", cause " ++ (decimal f.cause ++ place_text f.origin f.place)))

-- the three numbers are of 8, 16 and 64 bits
abbrev pub Fits : Fault → Type 0
Fits f = (f.origin < 2 ^ 8) × (f.cause < 2 ^ 16) × (f.place < 2 ^ 64)

-- two faults that differ are told by different texts: nothing of a fault is lost
abbrev pub ToldApart : Type 0
ToldApart = (f g : Fault) → Fits f → Fits g → fault_text f ≡ fault_text g → f ≡ g
