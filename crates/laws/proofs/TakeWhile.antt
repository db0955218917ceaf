-- The longest front that a predicate accepts, and what is behind it.
use Rattle.std.proofs.Common.{◌≡◌, ℕ, Bool, true, false, inl, inr, List, [], ◌∷◌, ◌++◌, map, Result, refl, sym, ap, ◌∙◌, ⊎_elim, arith, Ok, Err}
use Rattle.steps.specs.Steps.{Step, first}
use Rattle.steps.specs.declared.fault.Fault.{Fault}
use Rattle.steps.specs.declared.answer.Answer.{Answer}
use Rattle.laws.specs.Items.{items, Accepted, Denied, Decided}
use Rattle.laws.specs.Run.{Follows, Call, CallOf}
use Rattle.laws.specs.TakeWhile.{take_stop, take_end, takes, takes_left, takes_stopped, denied, takes_end, take_call, taken_run, takes_run, DeniedLast, take_on, taken, LongestFront}
use Rattle.laws.specs.Faults.{Handed}
use Rattle.laws.proofs.Run.{one_none, one_more, follows_at}

-- every list of items that are accepted or denied is such a front and what is behind it
pub split : {A : Type 0} (p : A → Result Bool Fault) (xs : List A) → Decided p xs →
    (front : List A) × (behind : List A) × (xs ≡ front ++ behind) × Accepted p front × Denied p behind
split p [] d = ([], [], refl, tt, tt)
split p (x ∷ xs) d =
    ⊎_elim
    (λ y. let r = split p xs d.1 in (x ∷ r.0, r.1, ap (λ ys. x ∷ ys) r.2, (y, r.3), r.4))
    (λ n. ([], x ∷ xs, refl, tt, n))
    d.0

pub taken_front : {A : Type 0} (p : A → Result Bool Fault) (front behind : List A) → Accepted p front → Denied p behind → taken p (map Ok (front ++ behind)) ≡ map Ok front
taken_front p [] [] a d = refl
taken_front p [] (x ∷ xs) a d = ap (λ r. take_on r x (taken p (map Ok xs))) d
taken_front p (x ∷ front) behind a d =
    ap (λ r. take_on r x (taken p (map Ok (front ++ behind)))) a.0 ∙ ap (λ more. Ok x ∷ more) (taken_front p front behind a.1 d)

pub longest_front : {A : Type 0} (p : A → Result Bool Fault) (ss : List (Step A)) → LongestFront p ss (taken p ss)
longest_front p ss xs e d =
    let s = split p xs d in
    (s.0, s.1, s.2, s.3, s.4, ap (taken p) (e ∙ ap (map Ok) s.2) ∙ taken_front p s.0 s.1 s.3 s.4)

-- one call of a run
abbrev CallFollows : {A : Type 0} → (A → Result Bool Fault) → List (Call A (List (Step A))) → List (Step A) → List (Step A) → List (Step A) → Bool → Type 0
CallFollows p run end gives left stopped = CallOf run end (first gives) left (takes_run p stopped left) (takes_end p stopped left)

take_follows : {A : Type 0} (p : A → Result Bool Fault) (r : Result Bool Fault) (a : A) (ss : List (Step A)) →
    CallFollows p (take_call r a ss (taken_run p ss)) (take_stop r ss (take_end p ss)) (take_on r a (taken p ss)) ss (denied r)
take_follows p (Ok true) a ss = (refl, refl, refl, refl)
take_follows p (Ok false) a ss = (refl, refl, refl, refl)
take_follows p (Err f) a ss = (refl, refl, refl, refl)

pub takes_follows : {A : Type 0} (p : A → Result Bool Fault) (stopped : Bool) (ss : List (Step A)) →
    CallFollows p (takes_run p stopped ss) (takes_end p stopped ss) (takes p stopped ss) (takes_left stopped ss) (takes_stopped p stopped ss)
takes_follows p true ss = (refl, refl, refl, refl)
takes_follows p false [] = (refl, refl, refl, refl)
takes_follows p false (Ok a ∷ ss) = take_follows p (p a) a ss
takes_follows p false (Err f ∷ ss) = (refl, refl, refl, refl)

ok_false : ◌≡◌ {A = Result Bool Fault} (Ok true) (Ok false) → ⊥
ok_false e = let z : ◌≡◌ {A = ℕ} 0 1 = cc in omega arith

err_false : (f : Fault) → ◌≡◌ {A = Result Bool Fault} (Err f) (Ok false) → ⊥
err_false f e = let z : ◌≡◌ {A = ℕ} 0 1 = cc in omega arith

denied_fault : {A : Type 0} (p : A → Result Bool Fault) (f : Fault) (ss : List (Step A)) (run : List (Call A (List (Step A)))) (end : List (Step A)) → DeniedLast p ss run end →
    DeniedLast p (Err f ∷ ss) (record { step = Err f; left = ss } ∷ run) end
denied_fault {A} p f ss run end d = record {
  each = one_more (Err f) (Err f) ss run d.each;
  front = Err f ∷ d.front;
  passed = d.passed;
  by_the_end = ⊎_elim (λ (e : (ss ≡ d.front) × (end ≡ [])). inl (ap (λ us. Err f ∷ us) e.0, e.1))
      (λ (e : (a : A) × (ss ≡ d.front ++ Ok a ∷ end) × (p a ≡ Ok false)). inr (e.0, ap (λ us. Err f ∷ us) e.1, e.2)) d.by_the_end;
}

denied_item : {A : Type 0} (p : A → Result Bool Fault) (a : A) (g : Step A) (ss : List (Step A)) (run : List (Call A (List (Step A)))) (end : List (Step A)) → (p a ≡ Ok false → ⊥) → DeniedLast p ss run end →
    DeniedLast p (Ok a ∷ ss) (record { step = g; left = ss } ∷ run) end
denied_item {A} p a g ss run end n d = record {
  each = one_more (Ok a) g ss run d.each;
  front = Ok a ∷ d.front;
  passed = (n, d.passed);
  by_the_end = ⊎_elim (λ (e : (ss ≡ d.front) × (end ≡ [])). inl (ap (λ us. Ok a ∷ us) e.0, e.1))
      (λ (e : (b : A) × (ss ≡ d.front ++ Ok b ∷ end) × (p b ≡ Ok false)). inr (e.0, ap (λ us. Ok a ∷ us) e.1, e.2)) d.by_the_end;
}

denied_on : {A : Type 0} (p : A → Result Bool Fault) (a : A) (r : Result Bool Fault) (ss : List (Step A)) → p a ≡ r → DeniedLast p ss (taken_run p ss) (take_end p ss) →
    DeniedLast p (Ok a ∷ ss) (take_call r a ss (taken_run p ss)) (take_stop r ss (take_end p ss))
denied_on p a (Ok true) ss e d = denied_item p a (Ok a) ss _ _ (λ q. ok_false (sym e ∙ q)) d
denied_on p a (Ok false) ss e d = record { each = one_none (Ok a ∷ ss); front = []; passed = tt; by_the_end = inr (a, refl, e) }
denied_on p a (Err f) ss e d = denied_item p a (Err f) ss _ _ (λ q. err_false f (sym e ∙ q)) d

pub denied_last : {A : Type 0} (p : A → Result Bool Fault) (ss : List (Step A)) → DeniedLast p ss (taken_run p ss) (take_end p ss)
denied_last p [] = record { each = one_none []; front = []; passed = tt; by_the_end = inl (refl, refl) }
denied_last p (Ok a ∷ ss) = denied_on p a (p a) ss refl (denied_last p ss)
denied_last p (Err f ∷ ss) = denied_fault p f ss _ _ (denied_last p ss)

pub takes_call : {A : Type 0} (p q : A → Result Bool Fault) (stopped stops : Bool) (ss left : List (Step A)) (r : Result (Answer A) Fault) →
    r ≡ first (takes p stopped ss) → left ≡ takes_left stopped ss → stops ≡ takes_stopped p stopped ss → q ≡ p →
    Follows (takes_run p stopped ss) (takes_end p stopped ss) r left (takes_run q stops left) (takes_end q stops left)
takes_call p q stopped stops ss left r e f g h =
    let later : takes_run q stops left ≡ takes_run p (takes_stopped p stopped ss) (takes_left stopped ss) = cc in
    let at : takes_end q stops left ≡ takes_end p (takes_stopped p stopped ss) (takes_left stopped ss) = cc in
    follows_at _ _ _ r _ left _ _ _ _ (takes_follows p stopped ss) e f later at

-- takewhile: the items given are those given over the same list without its faults
take_on_items : {A : Type 0} (r : Result Bool Fault) (a : A) (more less : List (Step A)) → items more ≡ items less → items (take_on r a more) ≡ items (take_on r a less)
take_on_items (Ok true) a more less e = ap (λ xs. a ∷ xs) e
take_on_items (Ok false) a more less e = refl
take_on_items (Err f) a more less e = e

pub takewhile_items : {A : Type 0} (p : A → Result Bool Fault) (ss : List (Step A)) → items (taken p ss) ≡ items (taken p (map Ok (items ss)))
takewhile_items p [] = refl
takewhile_items p (Ok a ∷ ss) = take_on_items (p a) a _ _ (takewhile_items p ss)
takewhile_items p (Err f ∷ ss) = takewhile_items p ss

-- takewhile
take_on_handed : {A : Type 0} (O : Fault → Type 0) (r : Result Bool Fault) (a : A) (ss left more : List (Step A)) →
    ((f : Fault) → r ≡ Err f → O f) → Handed O ss left more → Handed O ss (take_stop r ss left) (take_on r a more)
take_on_handed O (Ok true) a ss left more own h = h
take_on_handed O (Ok false) a ss left more own h = ([], refl, (refl, refl))
take_on_handed O (Err f) a ss left more own h = (h.0, h.1, inl (own f refl, h.2))

pub takewhile_handed : {A : Type 0} (O : Fault → Type 0) (p : A → Result Bool Fault) (own : (a : A) (f : Fault) → p a ≡ Err f → O f) (ss : List (Step A)) →
    Handed O ss (take_end p ss) (taken p ss)
takewhile_handed O p own [] = ([], refl, (refl, refl))
takewhile_handed O p own (Ok a ∷ ss) = take_on_handed O (p a) a ss _ _ (own a) (takewhile_handed O p own ss)
takewhile_handed O p own (Err f ∷ ss) =
    let h = takewhile_handed O p own ss in
    (f ∷ h.0, ap (λ fs. f ∷ fs) h.1, inr (inl (h.0, refl, h.2)))
