-- Every history of calls of mixed kinds is lawful.
use Rattle.std.proofs.Common.{◌≡◌, ℕ, List, [], ◌∷◌, ◌++◌, map, length, take, drop, Ok, Err, Some, Result, sym, refl, ap, ◌∙◌, subst}
use Rattle.std.proofs.lemmas.List.{map-append, length-map, take-map, drop-map}
use Rattle.steps.specs.declared.answer.Answer.{Answer}
use Rattle.steps.specs.declared.answer.Answer.TheVariants.{Item, End}
use Rattle.steps.specs.declared.refusal.Refusal.{Refusal}
use Rattle.row_laws.specs.Calls.{Shown, leaving, next_elements, refusal_of_call, answer_of_call, if_given, UnlessGiven, first_row, at_front, one_at, picked, positions}
use Rattle.row_laws.specs.History.{Memory, refusal_due, Transition, EveryMixedHistory, erased}
use Rattle.row_laws.proofs.History.{next_call_any, every_history}

map_given : {X Y : Type 0} (f : X → Y) (r : Result (Answer (Unit {0})) Refusal) (new old : X) → f (if_given r new old) ≡ if_given r (f new) (f old)
map_given f (Ok (Item u)) new old = refl
map_given f (Ok End) new old = refl
map_given f (Err refusal) new old = refl

map_picked : {X Y : Type 0} (f : X → Y) (pool : List X) (ps : List ℕ) → map f (picked pool ps) ≡ picked (map f pool) ps
map_picked f pool [] = refl
map_picked f pool (p ∷ ps) =
    map-append f (one_at pool p) (picked pool ps)
    ∙ ap (λ z. z ++ map f (picked pool ps)) (sym (take-map f 1 (drop p pool)) ∙ ap (take 1) (sym (drop-map f p pool)))
    ∙ ap (λ z. one_at (map f pool) p ++ z) (map_picked f pool ps)

map_front : {X Y : Type 0} (f : X → Y) (xs buffer : List X) → map f (at_front xs buffer) ≡ at_front (map f xs) (map f buffer)
map_front f xs buffer =
    map-append f xs (drop (length xs) buffer)
    ∙ ap (λ z. map f xs ++ z) (sym (drop-map f (length xs) buffer) ∙ ap (λ n. drop n (map f buffer)) (sym (length-map xs f)))

module _ {S T : Type 0} (shown : S → Shown) where
  same : (s : S) (m : Memory T) → refusal_due (shown s) m ≡ refusal_due (shown s) (erased m)
  same s m =
      ap (λ n. refusal_of_call (shown s).size (shown s).width n (length m.places) (length m.elements)) (sym (length-map m.pool (λ x. tt)))
      ∙ ap (λ n. refusal_of_call (shown s).size (shown s).width (length (map (λ x. tt) m.pool)) (length m.places) n) (sym (length-map m.elements (λ x. tt)))

  erases : (s t : S) (b a : Memory T) → Transition shown s b a t → Transition shown s (erased b) (erased a) t
  erases s t b a h =
      let e = same s b in
      let v = shown s in
      let f : T → Unit {0} = λ x. tt in
      let read : List T = next_elements v b.pool in
      let r : Result (Answer (Unit {0})) Refusal = answer_of_call (refusal_due v b) v.ahead in
      record {
        lent = ap (map f) h.lent;
        answer = h.answer ∙ ap (λ o. Some (answer_of_call o v.ahead)) e;
        places = h.places ∙ ap (λ o. if_given (answer_of_call o v.ahead) (at_front (first_row v.ahead) b.places) b.places) e;
        elements = ap (map f) h.elements ∙ map_given (map f) r (at_front read b.elements) b.elements
            ∙ ap (λ z. if_given r z (map f b.elements)) (map_front f read b.elements ∙ ap (λ z. at_front z (map f b.elements)) (map_picked f b.pool (positions v.starts (first_row v.ahead))))
            ∙ ap (λ o. if_given (answer_of_call o v.ahead) (at_front (next_elements v (map f b.pool)) (map f b.elements)) (map f b.elements)) e;
        shows = h.shows ∙ ap (λ o. if_given (answer_of_call o v.ahead) (leaving 1 v) v) e;
        rests = subst (λ o. UnlessGiven (answer_of_call o v.ahead) (t ≡ s)) e h.rests;
      }

  pub every_mixed_history : EveryMixedHistory shown T
  every_mixed_history = record { erases = erases; lawful = next_call_any shown; leaves = every_history shown }
