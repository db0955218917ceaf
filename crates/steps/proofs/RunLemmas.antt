-- Runs of calls, one call further.
use Rattle.std.proofs.Common.{inl, inr, ◌≡◌, ℕ, zero, suc, ⊎_elim, List, [], ◌∷◌, ◌++◌, map, Some, None, Option, Result, sym, refl, ap, ◌∙◌, subst, Ok, Err}
use Rattle.std.proofs.lemmas.List.{map-append, append_assoc}
use Rattle.steps.specs.declared.answer.Answer.{Answer}
use Rattle.steps.specs.declared.answer.Answer.TheVariants.{Item, End}
use Rattle.steps.specs.declared.fault.Fault.{Fault}
use Rattle.steps.specs.Steps.{Step, answer, first, rest, answered}
use Rattle.steps.specs.Fault.{OwnFault}
use Rattle.steps.specs.Below.{mark, Below, ItemsDrawn, NoneFromBelow, fault_of, DrewItems, DrewFault, Drew, Drawn, marked, Among, Ran, mark_there}

append_none : {A : Type 0} (xs : List A) → xs ++ [] ≡ xs
append_none [] = refl
append_none (x ∷ xs) = ap (λ ys. x ∷ ys) (append_none xs)

drawn_append : (ms ns : List (Option Fault)) (a b c : Below) → Drawn ms a b → Drawn ns b c → Drawn (ms ++ ns) a c
drawn_append [] ns a b c p q = subst (λ x. Drawn ns x c) (sym p) q
drawn_append (m ∷ ms) ns a b c p q = (p.0, p.1, drawn_append ms ns p.0 b c p.2 q)

items_marks : (n : ℕ) (a b : Below) → ItemsDrawn n a b → (ms : List (Option Fault)) × Drawn ms a b × (marked ms ≡ [])
items_marks zero a b p = ([], p, refl)
items_marks (suc n) a b p = let r = items_marks n p.0 b p.2 in (None ∷ r.0, (p.0, p.1, r.1), r.2)

marked_append : (ms ns : List (Option Fault)) → marked (ms ++ ns) ≡ marked ms ++ marked ns
marked_append [] ns = refl
marked_append (None ∷ ms) ns = marked_append ms ns
marked_append (Some f ∷ ms) ns = ap (λ fs. f ∷ fs) (marked_append ms ns)

among_own : (us gs : List Fault) (f : Fault) → Among us gs → OwnFault f → Among us (gs ++ f ∷ [])
among_own us [] f a o = inl (o, a)
among_own us (g ∷ gs) f a o =
    ⊎_elim
    (λ (i : OwnFault g × Among us gs). inl (i.0, among_own us gs f i.1 o))
    (λ (m : (more : List Fault) × (us ≡ g ∷ more) × Among more gs). inr (m.0, m.1, among_own m.0 gs f m.2 o))
    a

among_met : (us gs : List Fault) (f : Fault) → Among us gs → Among (us ++ f ∷ []) (gs ++ f ∷ [])
among_met us [] f a = inr ([], ap (λ vs. vs ++ f ∷ []) a, refl)
among_met us (g ∷ gs) f a =
    ⊎_elim
    (λ (i : OwnFault g × Among us gs). inl (i.0, among_met us gs f i.1))
    (λ (m : (more : List Fault) × (us ≡ g ∷ more) × Among more gs). inr (m.0 ++ f ∷ [], ap (λ vs. vs ++ f ∷ []) m.1, among_met m.0 gs f m.2))
    a

among_none : (us gs : List Fault) (o : Option Fault) → Among us gs → NoneFromBelow o → Among us (gs ++ marked (o ∷ []))
among_none us gs None a o = subst (λ x. Among us x) (sym (append_none gs)) a
among_none us gs (Some f) a o = among_own us gs f a o

-- one call more
pub ran_marks : (ms : List (Option Fault)) (gs : List Fault) (a b c : Below) (o : Option Fault) → Drawn ms a b → Among (marked ms) gs → Drew b c o →
    (ns : List (Option Fault)) × Drawn ns a c × Among (marked ns) (gs ++ marked (o ∷ []))
ran_marks ms gs a b c o p w d =
    ⊎_elim
    (λ (i : DrewItems b c o).
    let q = items_marks i.items.count b c i.items.drawn in (
      ms ++ q.0,
      drawn_append ms q.0 a b c p q.1,
      subst (λ x. Among x (gs ++ marked (o ∷ []))) (sym (marked_append ms q.0 ∙ ap (λ x. marked ms ++ x) q.2 ∙ append_none (marked ms))) (among_none (marked ms) gs o w i.own),
    ))
    (λ (m : DrewFault b c o).
    let q = items_marks m.items.count b m.before m.items.drawn in
    let l : Drawn (Some m.fault ∷ []) m.before c = (c, m.last, refl) in (
      ms ++ (q.0 ++ Some m.fault ∷ []),
      drawn_append ms (q.0 ++ Some m.fault ∷ []) a b c p (drawn_append q.0 (Some m.fault ∷ []) b m.before c q.1 l),
      subst (λ x. Among (marked (ms ++ (q.0 ++ Some m.fault ∷ []))) (gs ++ marked (x ∷ []))) (sym m.answers)
          (subst (λ x. Among x (gs ++ m.fault ∷ []))
          (sym (marked_append ms (q.0 ++ Some m.fault ∷ []) ∙ ap (λ x. marked ms ++ x) (marked_append q.0 (Some m.fault ∷ []) ∙ ap (λ x. x ++ m.fault ∷ []) q.2)))
          (among_met (marked ms) gs m.fault w)),
    ))
    d.which

-- a run so far and one call more that answered a step
pub ran_more : {A : Type 0} (a b c : Below) (xs : List (Step A)) (s : Step A) (o : Option Fault) → Ran a b xs → Drew b c o → o ≡ mark s → Ran a c (xs ++ s ∷ [])
ran_more a b c xs s o r d e =
    let q = ran_marks r.marks (marked (map mark xs)) a b c o r.drawn r.among d in
    record {
      marks = q.0;
      drawn = q.1;
      among = subst (λ x. Among (marked q.0) x) (ap (λ y. marked (map mark xs) ++ marked (y ∷ [])) e ∙ sym (marked_append (map mark xs) (mark s ∷ [])) ∙ ap marked (sym (map-append mark xs (s ∷ [])))) q.2;
    }

pub ran_end : {A : Type 0} (a b c : Below) (xs : List (Step A)) → Ran a b xs → Drew b c None → Ran a c xs
ran_end a b c xs r d =
    let q = ran_marks r.marks (marked (map mark xs)) a b c None r.drawn r.among d in
    record { marks = q.0; drawn = q.1; among = subst (λ x. Among (marked q.0) x) (append_none (marked (map mark xs))) q.2 }

pub ran_none : {A : Type 0} (a : Below) → Ran {A = A} a a []
ran_none a = record { marks = []; drawn = refl; among = refl }

pub fault_answered : {A : Type 0} (r : Result (Answer A) Fault) → fault_of r ≡ mark_there (answered r)
fault_answered (Ok (Item a)) = refl
fault_answered (Ok End) = refl
fault_answered (Err f) = refl

-- a run under way: what calls have answered and what is still ahead make up what was ahead
pub record RanTo {A : Type 0} (b c : Below) (all ahead : List (Step A)) : Type 0 where
  pub answers : List (Step A)
  pub made : all ≡ answers ++ ahead
  pub ran : Ran b c answers

pub ran_start : {A : Type 0} (b : Below) (all : List (Step A)) → RanTo b b all all
ran_start b all = record { answers = []; made = refl; ran = ran_none b }

fault_step : {A : Type 0} (s : Step A) → fault_of (answer s) ≡ mark s
fault_step (Ok a) = refl
fault_step (Err f) = refl

-- one call more
pub ran_on : {A : Type 0} (b c d : Below) (all ahead : List (Step A)) (r : Result (Answer A) Fault) → RanTo b c all ahead → r ≡ first ahead → Drew c d (fault_of r) → RanTo b d all (rest ahead)
ran_on b c d all [] r t e w = record { answers = t.answers; made = t.made; ran = ran_end b c d t.answers t.ran (subst (λ u. Drew c d (fault_of u)) e w) }
ran_on b c d all (s ∷ more) r t e w = record {
  answers = t.answers ++ s ∷ [];
  made = t.made ∙ sym (append_assoc t.answers (s ∷ []) more);
  ran = ran_more b c d t.answers s (fault_of r) t.ran w (ap fault_of e ∙ fault_step s);
}

pub ran_all : {A : Type 0} (b c : Below) (all ahead : List (Step A)) → RanTo b c all ahead → ahead ≡ [] → Ran b c all
ran_all b c all ahead t e = subst (λ us. Ran b c us) (sym (t.made ∙ ap (λ us. t.answers ++ us) e ∙ append_none t.answers)) t.ran

-- the same, told by what was left
pub ran_next : {A : Type 0} (b c d : Below) (all ahead later : List (Step A)) (r : Result (Answer A) Fault) → RanTo b c all ahead → r ≡ first ahead → Drew c d (fault_of r) →
    later ≡ rest ahead → RanTo b d all later
ran_next b c d all ahead later r t e w f = subst (λ us. RanTo b d all us) (sym f) (ran_on b c d all ahead r t e w)

pub ran_as : {A : Type 0} (b b' c : Below) (all all' : List (Step A)) → Ran b c all → b ≡ b' → all ≡ all' → Ran b' c all'
ran_as b b' c all all' r e f = subst (λ us. Ran b' c us) f (subst (λ u. Ran u c all) e r)
