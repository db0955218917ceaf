-- Calls that draw, one after another and beside one another.
use Rattle.std.proofs.Common.{inl, inr, ◌≡◌, ℕ, zero, suc, ◌⊎◌, ⊎_elim, List, [], ◌∷◌, map, Some, None, Option, Result, sym, refl, ap, subst, arith, Ok, Err}
use Rattle.steps.specs.declared.answer.Answer.{Answer}
use Rattle.steps.specs.declared.fault.Fault.{Fault}
use Rattle.steps.specs.Steps.{Step, first, rest}
use Rattle.steps.specs.Fault.{OwnFault, OfPredicate, OfKey, OfJoining, OfSource}
use Rattle.steps.specs.Below.{mark, Below, Two, lone, ItemsDrawn, Quiet, fault_of, DrewItems, DrewFault, Drew}

no_some : (f : Fault) → ◌≡◌ {A = Option Fault} None (Some f) → ⊥
no_some f e = let z : ◌≡◌ {A = ℕ} 0 1 = cc in omega arith

pub quiet_same : (b : Below) → Quiet b b
quiet_same b = record { count = 0; drawn = refl }

append_drawn : (n : ℕ) (a b c : Below) → ItemsDrawn n a b → Quiet b c → Quiet a c
append_drawn zero a b c e q = subst (λ x. Quiet x c) (sym e) q
append_drawn (suc n) a b c e q = let r = append_drawn n e.0 b c e.2 q in record { count = suc r.count; drawn = (e.0, e.1, r.drawn) }

pub quiet_on : (a b c : Below) → Quiet a b → Quiet b c → Quiet a c
quiet_on a b c p q = append_drawn p.count a b c p.drawn q

-- a call that answered no fault drew items alone
pub drew_quiet : (b c : Below) → Drew b c None → Quiet b c
drew_quiet b c d = ⊎_elim (λ (i : DrewItems b c None). i.items) (λ (m : DrewFault b c None). absurd (no_some m.fault m.answers)) d.which

-- after items
pub drew_on : (a b c : Below) (o : Option Fault) → Quiet a b → Drew b c o → Drew a c o
drew_on a b c o q d =
    ⊎_elim
    (λ (i : DrewItems b c o). record { which = inl (record { items = quiet_on a b c q i.items; own = i.own }) })
    (λ (m : DrewFault b c o). record { which = inr (record { fault = m.fault; before = m.before; items = quiet_on a b m.before q m.items; last = m.last; answers = m.answers }) })
    d.which

-- items, and then an answer without a fault, or with the adapter's own
pub drew_none : (b c : Below) → Quiet b c → Drew b c None
drew_none b c q = record { which = inl (record { items = q; own = tt }) }

pub drew_own : (b c : Below) (f : Fault) → Quiet b c → OwnFault f → Drew b c (Some f)
drew_own b c f q o = record { which = inl (record { items = q; own = o }) }

-- a bottom source itself
lone_on : {A : Type 0} (ss : List (Step A)) → Drew (lone ss) (lone (rest ss)) (fault_of (first ss))
lone_on [] = drew_none _ _ (quiet_same _)
lone_on (Ok a ∷ ss) = drew_none _ _ (record { count = 1; drawn = (lone ss, (map mark ss, refl, refl), refl) })
lone_on (Err f ∷ ss) = record { which = inr (record { fault = f; before = lone (Err f ∷ ss); items = quiet_same _; last = (map mark ss, refl, refl); answers = refl }) }

pub lone_drew : {A : Type 0} (ss ss' : List (Step A)) (r : Result (Answer A) Fault) → r ≡ first ss → ss' ≡ rest ss → Drew (lone ss) (lone ss') (fault_of r)
lone_drew ss ss' r e f = subst (λ x. Drew (lone ss) (lone x) (fault_of r)) (sym f) (subst (λ x. Drew (lone ss) (lone (rest ss)) (fault_of x)) (sym e) (lone_on ss))

-- beside another
items_left : (n : ℕ) (a a' b : Below) → ItemsDrawn n a a' → ItemsDrawn n (Two a b) (Two a' b)
items_left zero a a' b e = ap (λ x. Two x b) e
items_left (suc n) a a' b e = (Two e.0 b, inl (e.0, refl, e.1), items_left n e.0 a' b e.2)

items_right : (n : ℕ) (a b b' : Below) → ItemsDrawn n b b' → ItemsDrawn n (Two a b) (Two a b')
items_right zero a b b' e = ap (λ x. Two a x) e
items_right (suc n) a b b' e = (Two a e.0, inr (e.0, refl, e.1), items_right n a e.0 b' e.2)

pub drew_left : (a a' b : Below) (o : Option Fault) → Drew a a' o → Drew (Two a b) (Two a' b) o
drew_left a a' b o d =
    ⊎_elim
    (λ (i : DrewItems a a' o). record { which = inl (record { items = record { count = i.items.count; drawn = items_left i.items.count a a' b i.items.drawn }; own = i.own }) })
    (λ (m : DrewFault a a' o). record { which = inr (record { fault = m.fault; before = Two m.before b; items = record { count = m.items.count; drawn = items_left m.items.count a m.before b m.items.drawn }; last = inl (a', refl, m.last); answers = m.answers }) })
    d.which

pub drew_right : (a b b' : Below) (o : Option Fault) → Drew b b' o → Drew (Two a b) (Two a b') o
drew_right a b b' o d =
    ⊎_elim
    (λ (i : DrewItems b b' o). record { which = inl (record { items = record { count = i.items.count; drawn = items_right i.items.count a b b' i.items.drawn }; own = i.own }) })
    (λ (m : DrewFault b b' o). record { which = inr (record { fault = m.fault; before = Two a m.before; items = record { count = m.items.count; drawn = items_right m.items.count a b m.before m.items.drawn }; last = inr (b', refl, m.last); answers = m.answers }) })
    d.which

-- a predicate's fault, a key kind's, a joining's
pub drew_predicate : (b c : Below) (f : Fault) → Drew b c None → OfPredicate f → Drew b c (Some f)
drew_predicate b c f d o = drew_own b c f (drew_quiet b c d) (inl o.0, o.1)

pub drew_key : (b c : Below) (f : Fault) → Drew b c None → OfKey f → Drew b c (Some f)
drew_key b c f d o = drew_own b c f (drew_quiet b c d) (inr (inl o.0), o.1)

pub drew_joining : (b c : Below) (f : Fault) → Drew b c None → OfJoining f → Drew b c (Some f)
drew_joining b c f d o = drew_own b c f (drew_quiet b c d) (inr (inr o.0), o.1)

pub drew_still : (b : Below) → Drew b b None
drew_still b = drew_none b b (quiet_same b)

pub drew_then : (a b c : Below) (o : Option Fault) → Drew a b None → Drew b c o → Drew a c o
drew_then a b c o d e = drew_on a b c o (drew_quiet a b d) e

pub drew_as : (b c : Below) (o p : Option Fault) → Drew b c o → p ≡ o → Drew b c p
drew_as b c o p d e = subst (λ x. Drew b c x) (sym e) d

pub drew_at : (b c d : Below) (o : Option Fault) → Drew b c o → d ≡ c → Drew b d o
drew_at b c d o m e = subst (λ x. Drew b x o) (sym e) m

one_not_two : (f : Fault) → f.origin ≡ 1 → f.origin ≡ 2 → ⊥
one_not_two f o e = omega arith

one_not_three : (f : Fault) → f.origin ≡ 1 → f.origin ≡ 3 → ⊥
one_not_three f o e = omega arith

one_not_four : (f : Fault) → f.origin ≡ 1 → f.origin ≡ 4 → ⊥
one_not_four f o e = omega arith

-- a fault of a source, by its origin, was drawn at the bottom, with its numbers, last of all
pub source_fault : (b c : Below) (f : Fault) → OfSource f → Drew b c (Some f) → DrewFault b c (Some f)
source_fault b c f o d =
    ⊎_elim
    (λ (i : DrewItems b c (Some f)).
    let w = i.own.0 in
    absurd (⊎_elim (λ (e : f.origin ≡ 2). one_not_two f o e) (λ (r : (f.origin ≡ 3) ⊎ (f.origin ≡ 4)). ⊎_elim (λ (e : f.origin ≡ 3). one_not_three f o e) (λ (e : f.origin ≡ 4). one_not_four f o e) r) w))
    (λ (m : DrewFault b c (Some f)). m)
    d.which
