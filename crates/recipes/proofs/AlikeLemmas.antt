-- Two group calls tell whether all items are equal.
use Rattle.std.proofs.Common.{◌≡◌, ℕ, ◌⊎◌, inl, inr, ⊎_elim, Bool, true, false, cond, is_some, not, List, [], ◌∷◌, ◌++◌, map, Some, Ok, Err, Result, refl, ap, ◌∙◌}
use Rattle.std.proofs.lemmas.Bool.{cond-true, cond-false}
use Rattle.steps.specs.declared.answer.Answer.{Answer}
use Rattle.steps.specs.declared.answer.Answer.TheVariants.{Item, End}
use Rattle.steps.specs.declared.call_error.CallError.{CallError}
use Rattle.steps.specs.declared.call_error.CallError.TheVariants.{Broken}
use Rattle.steps.specs.declared.fault.Fault.{Fault}
use Rattle.steps.specs.Steps.{Step, item_of}
use Rattle.laws.specs.GroupBy.{Standing, Found, unbegun, begun, skipped, Opening, group_call, opens_run}
use Rattle.recipes.specs.Answers.{alike_from, alike_of, AllAlike, OneDiffers}

-- all are equal where a call gives no group
abbrev pub judged : {B : Type 0} → Result (Answer B) CallError → Result Bool CallError → Result Bool CallError
judged (Ok End) later = Ok true
judged (Ok (Item x)) later = later
judged (Err e) later = Err e

pub judged_by : {B : Type 0} (r : Result (Answer B) CallError) (a : Answer B) (b : Bool) (later : Result Bool CallError) → r ≡ Ok a → is_some (item_of a) ≡ not b →
    judged r later ≡ cond b (Ok true) later
judged_by r End true later e n = ap (λ q. judged q later) e
judged_by r End false later e n = cc
judged_by r (Item x) true later e n = cc
judged_by r (Item x) false later e n = ap (λ q. judged q later) e

module _ {A : Type 0} (same : A → A → Bool) where
  skips_on : (s : Standing A A) (b : A) (ss : List (Step A)) (later : Found A A) (r : Result Bool CallError) (t : Bool) → judged (opens_run s later).answer (Ok false) ≡ r →
      judged (opens_run s (cond t later (record { answer = Ok (Item (b, b)); left = ss }))).answer (Ok false) ≡ cond t r (Ok false)
  skips_on s b ss later r true h = h
  skips_on s b ss later r false h = refl

  skips : (s : Standing A A) (a : A) (ss : List (Step A)) → judged (opens_run s (skipped (λ b. Ok b) same a ss)).answer (Ok false) ≡ alike_from same a ss
  skips s a [] = refl
  skips s a (Err f ∷ ss) = refl
  skips s a (Ok b ∷ ss) = skips_on s b ss (skipped (λ b. Ok b) same a ss) _ (same b a) (skips s a ss)

  both_calls : (ss : List (Step A)) → let one = group_call (λ b. Ok b) same unbegun ss in
      judged one.answer (judged (group_call (λ b. Ok b) same one.standing one.left).answer (Ok false)) ≡ alike_of same ss
  both_calls [] = refl
  both_calls (Err g ∷ ss) = refl
  both_calls (Ok a ∷ ss) = skips (begun (Some a) a 1) a ss

  abbrev call : Standing A A → List (Step A) → Opening A A
  call = group_call (λ b. Ok b) same

  pub both_told : (ss l0 l1 : List (Step A)) (s0 s1 : Standing A A) (r1 r2 : Result (Answer (A × ℕ)) CallError) → s0 ≡ unbegun → l0 ≡ ss →
      r1 ≡ (group_call (λ b. Ok b) same s0 l0).answer → s1 ≡ (group_call (λ b. Ok b) same s0 l0).standing → l1 ≡ (group_call (λ b. Ok b) same s0 l0).left →
      r2 ≡ (group_call (λ b. Ok b) same s1 l1).answer → judged r1 (judged r2 (Ok false)) ≡ alike_of same ss
  both_told ss l0 l1 s0 s1 r1 r2 a b c d e f =
      let w : call s0 l0 ≡ call unbegun ss = ap (λ s. call s l0) a ∙ ap (λ l. call unbegun l) b in
      let v : call s1 l1 ≡ call (call unbegun ss).standing (call unbegun ss).left =
      ap (λ s. call s l1) d ∙ ap (λ l. call (call s0 l0).standing l) e ∙ ap (λ (o : Opening A A). call o.standing o.left) w in
      ap (λ r. judged r (judged r2 (Ok false))) (c ∙ ap (λ (o : Opening A A). o.answer) w)
      ∙ ap (λ r. judged (call unbegun ss).answer (judged r (Ok false))) (f ∙ ap (λ (o : Opening A A). o.answer) v)
      ∙ both_calls ss

  abbrev Told : A → List A → Type 0
  Told a xs = (AllAlike same a xs × (alike_from same a (map Ok xs) ≡ Ok true)) ⊎ (OneDiffers same a xs × (alike_from same a (map Ok xs) ≡ Ok false))

  alike_on : (a b : A) (xs : List A) (t : Bool) → same b a ≡ t → Told a xs → Told a (b ∷ xs)
  alike_on a b xs true e k = ⊎_elim
      (λ h. inl ((e, h.0), cond-true _ _ _ e ∙ h.1))
      (λ h. inr ((b ∷ h.0.0, h.0.1, h.0.2, ap (λ us. b ∷ us) h.0.3, h.0.4), cond-true _ _ _ e ∙ h.1))
      k
  alike_on a b xs false e k = inr (([], b, xs, refl, e), cond-false _ _ _ e)

  alike_there : (a : A) (xs : List A) → Told a xs
  alike_there a [] = inl (tt, refl)
  alike_there a (b ∷ xs) = alike_on a b xs (same b a) refl (alike_there a xs)

pub each_alike : {A : Type 0} (same : A → A → Bool) (a : A) (xs : List A) →
    (AllAlike same a xs × (alike_of same (map Ok (a ∷ xs)) ≡ Ok true)) ⊎ (OneDiffers same a xs × (alike_of same (map Ok (a ∷ xs)) ≡ Ok false))
each_alike same a xs = alike_there same a xs

pub ok_bool : (b : Bool) → ◌≡◌ {A = Result Bool CallError} (Ok b) (cond b (Ok true) (Ok false))
ok_bool true = refl
ok_bool false = refl

pub alike_met : {A : Type 0} (same : A → A → Bool) (a : A) (front : List A) (f : Fault) (more : List (Step A)) → AllAlike same a front →
    alike_of same (Ok a ∷ (map Ok front ++ Err f ∷ more)) ≡ Err (Broken f)
alike_met same a [] f more h = refl
alike_met same a (b ∷ xs) f more h = cond-true _ _ _ h.0 ∙ alike_met same a xs f more h.1
