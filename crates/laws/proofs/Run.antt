-- Steps drawn from the front of a source, one further.
use Rattle.std.proofs.Common.{◌≡◌, ℕ, suc, ◌+◌, Bool, true, false, cond, List, [], ◌∷◌, ◌++◌, length, drop, Result, subst, refl, ap, sym, ◌∙◌, arith, Ok, Err}
use Rattle.steps.specs.Steps.{Step}
use Rattle.steps.specs.declared.fault.Fault.{Fault}
use Rattle.steps.specs.declared.answer.Answer.{Answer}
use Rattle.laws.specs.Run.{Call, CallOf, Follows, OneStepEach, ItemsDrawn}

pub none_drawn : {A : Type 0} (ss : List (Step A)) → ItemsDrawn 0 ss ss
none_drawn ss = record { front = []; all = refl; counted = refl }

pub item_drawn : {A : Type 0} (n : ℕ) (a : A) (ss left : List (Step A)) → ItemsDrawn n ss left → ItemsDrawn (suc n) (Ok a ∷ ss) left
item_drawn n a ss left d = record { front = Ok a ∷ d.front; all = ap (λ us. Ok a ∷ us) d.all; counted = ap suc d.counted }

pub fault_drawn : {A : Type 0} (n : ℕ) (f : Fault) (ss left : List (Step A)) → ItemsDrawn n ss left → ItemsDrawn n (Err f ∷ ss) left
fault_drawn n f ss left d = record { front = Err f ∷ d.front; all = ap (λ us. Err f ∷ us) d.all; counted = d.counted }

-- no run is both over and not
pub not_over : {A L : Type 0} (front : List (Call A L)) (c : Call A L) (more : List (Call A L)) → [] ≡ front ++ c ∷ more → ⊥
not_over [] c more e = let z : ◌≡◌ {A = ℕ} 0 1 = cc in omega arith
not_over (d ∷ front) c more e = let z : ◌≡◌ {A = ℕ} 0 1 = cc in omega arith

pub cond_four : {A B C D : Type 0} (P : A → B → C → D → Type 0) (t : Bool) (a a' : A) (b b' : B) (c c' : C) (d d' : D) →
    (t ≡ true → P a b c d) → (t ≡ false → P a' b' c' d') → P (cond t a a') (cond t b b') (cond t c c') (cond t d d')
cond_four P true a a' b b' c c' d d' s f = s refl
cond_four P false a a' b b' c c' d d' s f = f refl

pub one_none : {A B : Type 0} (ss : List (Step A)) → OneStepEach {A = A} {B = B} ss []
one_none ss before after c e = absurd (not_over before c after e)

pub one_more : {A B : Type 0} (s : Step A) (g : Step B) (ss : List (Step A)) (run : List (Call B (List (Step A)))) → OneStepEach ss run →
    OneStepEach (s ∷ ss) (record { step = g; left = ss } ∷ run)
one_more {A} {B} s g ss run h [] after c e =
    let same : c ≡ record { step = g; left = ss } = cc in ap (λ (d : Call B (List (Step A))). d.left) same
one_more s g ss run h (d ∷ before) after c e =
    let more : run ≡ before ++ c ∷ after = cc in
    let n : suc (length before + 1) ≡ suc (length before) + 1 = omega arith in
    h before after c more ∙ ap (λ k. drop k (s ∷ ss)) n

-- a call of a run, told by what it left
pub follows_at : {A L : Type 0} (run : List (Call A L)) (end : L) (r r' : Result (Answer A) Fault) (left left' : L) (later later' : List (Call A L)) (at at' : L) →
    CallOf run end r left later at → r' ≡ r → left' ≡ left → later' ≡ later → at' ≡ at → Follows run end r' left' later' at'
follows_at run end r r' left left' later later' at at' c e f g h =
    record {
      call = subst (λ u. CallOf run end u left' later' at') (sym e)
          (subst (λ u. CallOf run end r u later' at') (sym f) (subst (λ u. CallOf run end r left u at') (sym g) (subst (λ u. CallOf run end r left later u) (sym h) c)));
    }
