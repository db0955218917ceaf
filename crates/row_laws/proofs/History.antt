-- Every history of next calls is lawful.
use Rattle.std.proofs.Common.{◌≡◌, ℕ, ◌+◌, ◌-◌, ◌<◌, ◌≤◌, Bool, true, false, cond, ◌||◌, eqb, ltb, List, [], ◌∷◌, length, get_or, take, drop, Some, None, Ok, Err, Option, refl, ap, ◌∙◌, subst, arith, length-drop}
use Rattle.std.proofs.ByRecursion.{All-get_or}
use Rattle.std.proofs.lemmas.Bool.{ne_eqb, eq-eqb, lt-ltb, le-ltb, or_left, or_right}
use Rattle.std.proofs.lemmas.List.{get_or-drop, drop-drop}
use Rattle.steps.specs.Trace.{Trace, total}
use Rattle.steps.proofs.Trace.{trace_lengths, trace_at, trace_counts}
use Rattle.steps.specs.declared.answer.Answer.TheVariants.{Item, End}
use Rattle.steps.specs.declared.refusal.Refusal.{Refusal}
use Rattle.steps.specs.Refusals.{refusal_number}
use Rattle.steps.specs.declared.refusal.Refusal.TheVariants.{OtherPool, ShortBuffer}
use Rattle.row_laws.specs.Calls.{Shown, Fitting, Limits, leaving, next_elements, refusal_of_call, refusal_number_of_call, answer_of_call, row_or_end, if_given, UnlessGiven, first_row, at_front, positions, picked}
use Rattle.row_laws.specs.Makings.{Making, wanted, Made}
use Rattle.row_laws.specs.History.{Memory, refusal_due, counts, one_unless_refused, counted, CallLaw, RefusalLaw, refusal_number_due, HistoryLaw, Transition, EveryHistory, Life}
use Rattle.row_laws.proofs.Writing.{same_positions}

-- what one call leaves
left_one : (o : Option Refusal) (v : Shown) → if_given (answer_of_call o v.ahead) (leaving 1 v) v ≡ leaving (one_unless_refused o) v
left_one (Some refusal) v = refl
left_one None v = by v.ahead
  where
    by : (rows : List (List ℕ)) → if_given (Ok (row_or_end rows)) (leaving 1 (record { ahead = rows; size = v.size; width = v.width; starts = v.starts })) (record { ahead = rows; size = v.size; width = v.width; starts = v.starts })
        ≡ leaving 1 (record { ahead = rows; size = v.size; width = v.width; starts = v.starts })
    by [] = refl
    by (row ∷ rows) = refl

-- a call that is refused leaves the state cs it was
unmoved : (o : Option Refusal) (rows : List (List ℕ)) (P : Type 0) → UnlessGiven (answer_of_call o rows) P → one_unless_refused o ≡ 0 → P
unmoved (Some refusal) rows P h z = h
unmoved None rows P h z = absurd (omega arith)

-- the number of a refusal, if there is one
abbrev number_of : Option Refusal → Option ℕ
number_of None = None
number_of (Some refusal) = Some (refusal_number refusal)

refusal_numbered : (size width pool places elements : ℕ) → number_of (refusal_of_call size width pool places elements) ≡ refusal_number_of_call size width pool places elements
refusal_numbered size width pool places elements = by (eqb pool size) (ltb places width || ltb elements width)
  where
    by : (a b : Bool) → number_of (cond a (cond b (Some ShortBuffer) None) (Some OtherPool)) ≡ cond a (cond b (Some 4) None) (Some 3)
    by true true = refl
    by true false = refl
    by false b = refl

-- which calls are refused, in words
pub refusal_law : {T : Type 0} (v : Shown) (m : Memory T) → RefusalLaw v m
refusal_law {T} v m = record {
  other_pool = λ ne. numbers false (ltb (length m.places) v.width || ltb (length m.elements) v.width) (ne_eqb (length m.pool) v.size ne) refl;
  short_places = λ e l. numbers true true (eq-eqb (length m.pool) v.size e) (or_left (ltb (length m.places) v.width) (ltb (length m.elements) v.width) (lt-ltb (length m.places) v.width l));
  short_elements = λ e l. numbers true true (eq-eqb (length m.pool) v.size e) (or_right (ltb (length m.places) v.width) (ltb (length m.elements) v.width) (lt-ltb (length m.elements) v.width l));
  no_other = λ e p q. rw (eq-eqb (length m.pool) v.size e, le-ltb (length m.places) v.width p, le-ltb (length m.elements) v.width q) refl;
}
  where
    numbers : (a b : Bool) → eqb (length m.pool) v.size ≡ a → (ltb (length m.places) v.width || ltb (length m.elements) v.width) ≡ b
        → refusal_number_due v m ≡ cond a (cond b (Some 4) None) (Some 3)
    numbers a b p q = rw (p, q) refl

-- one call, by why it is refused
pub one_call : {S T : Type 0} (shown : S → Shown) (s t : S) (b a : Memory T) → Transition shown s b a t → CallLaw (shown s) 0 b a
one_call {S} {T} shown s t b a h = record {
  lent = h.lent;
  refused = λ refusal e. (h.answer ∙ ap (λ o. Some (answer_of_call o (shown s).ahead)) e, h.places ∙ ap (λ o. if_given (answer_of_call o (shown s).ahead) (at_front (first_row (shown s).ahead) b.places) b.places) e, h.elements ∙ ap (λ o. if_given (answer_of_call o (shown s).ahead) (at_front (next_elements (shown s) b.pool) b.elements) b.elements) e);
  due = refusal_law (shown s) b;
  numbered = λ number e. by_number (refusal_due (shown s) b) number (refusal_numbered (shown s).size (shown s).width (length b.pool) (length b.places) (length b.elements) ∙ e) (shown s).ahead h.answer;
  given = λ e l. given_by (shown s).ahead l
      (h.answer ∙ ap (λ o. Some (answer_of_call o (shown s).ahead)) e)
      (h.places ∙ ap (λ o. if_given (answer_of_call o (shown s).ahead) (at_front (first_row (shown s).ahead) b.places) b.places) e)
      (h.elements ∙ ap (λ o. if_given (answer_of_call o (shown s).ahead) (at_front (next_elements (shown s) b.pool) b.elements) b.elements) e);
  ended = λ e l. ended_by (shown s).ahead l
      (h.answer ∙ ap (λ o. Some (answer_of_call o (shown s).ahead)) e)
      (h.places ∙ ap (λ o. if_given (answer_of_call o (shown s).ahead) (at_front (first_row (shown s).ahead) b.places) b.places) e)
      (h.elements ∙ ap (λ o. if_given (answer_of_call o (shown s).ahead) (at_front (next_elements (shown s) b.pool) b.elements) b.elements) e);
}
  where
    by_number : (o : Option Refusal) (number : ℕ) → number_of o ≡ Some number → (rows : List (List ℕ)) → a.answer ≡ Some (answer_of_call o rows)
        → (refusal : Refusal) × (a.answer ≡ Some (Err refusal)) × (refusal_number refusal ≡ number)
    by_number None number e rows p = let z : ◌≡◌ {A = ℕ} 0 1 = cc in absurd (omega arith)
    by_number (Some refusal) number e rows p = (refusal, p, cc)

    given_by : (rows : List (List ℕ)) → 0 < length rows → a.answer ≡ Some (Ok (row_or_end rows))
        → a.places ≡ if_given (Ok (row_or_end rows)) (at_front (first_row rows) b.places) b.places
        → a.elements ≡ if_given (Ok (row_or_end rows)) (at_front (picked b.pool (positions (shown s).starts (first_row rows))) b.elements) b.elements
        → (a.answer ≡ Some (Ok (Item tt))) × (a.places ≡ at_front (get_or rows 0 []) b.places) × (a.elements ≡ at_front (picked b.pool (positions (shown s).starts (get_or rows 0 []))) b.elements)
    given_by [] l p q r = absurd (omega arith)
    given_by (row ∷ rows) l p q r = (p, q, r)

    ended_by : (rows : List (List ℕ)) → length rows ≤ 0 → a.answer ≡ Some (Ok (row_or_end rows))
        → a.places ≡ if_given (Ok (row_or_end rows)) (at_front (first_row rows) b.places) b.places
        → a.elements ≡ if_given (Ok (row_or_end rows)) (at_front (picked b.pool (positions (shown s).starts (first_row rows))) b.elements) b.elements
        → (a.answer ≡ Some (Ok End)) × (a.places ≡ b.places) × (a.elements ≡ b.elements)
    ended_by [] l p q r = (p, q, r)
    ended_by (row ∷ rows) l p q r = absurd (omega arith)

-- a call later in a history, by the rows that those before it left
later_call : {T : Type 0} (v : Shown) (d : ℕ) (b a : Memory T) → CallLaw (leaving d v) 0 b a → CallLaw v d b a
later_call v d b a h =
    let len : length (drop d v.ahead) ≡ length v.ahead - d = length-drop d v.ahead in
    let none_more : d + 0 ≡ d = omega arith in
    record {
      lent = h.lent;
      refused = h.refused;
      numbered = h.numbered;
      due = refusal_law v b;
      given = λ e l. subst (λ row. (a.answer ≡ Some (Ok (Item tt))) × (a.places ≡ at_front row b.places) × (a.elements ≡ at_front (picked b.pool (positions v.starts row)) b.elements))
          (get_or-drop d v.ahead 0 [] ∙ ap (λ k. get_or v.ahead k []) none_more) (h.given e (omega arith));
      ended = λ e l. h.ended e (omega arith);
    }

-- what is kept of the first state after n calls that count
abbrev Kept : {S : Type 0} → (S → Shown) → S → ℕ → S → Type 0
Kept shown s n t = (shown t ≡ leaving n (shown s)) × (n ≡ 0 → t ≡ s)

module _ {S T : Type 0} (shown : S → Shown) where
  kept_more : (s : S) (n : ℕ) (u t : S) (b a : Memory T) → Kept shown s n u → Transition shown u b a t → Kept shown s (counts (shown s) b + n) t
  kept_more s n u t b a k h =
      let same : refusal_due (shown u) b ≡ refusal_due (shown s) b = ap (λ v. refusal_due v b) k.0 in
      let d : ℕ = one_unless_refused (refusal_due (shown s) b) in (
        h.shows ∙ left_one (refusal_due (shown u) b) (shown u) ∙ ap (λ o. leaving (one_unless_refused o) (shown u)) same ∙ ap (leaving d) k.0
            ∙ ap (λ rows. record { ahead = rows; size = (shown s).size; width = (shown s).width; starts = (shown s).starts }) (drop-drop d n (shown s).ahead ∙ ap (λ z. drop z (shown s).ahead) (omega arith)),
        λ z. unmoved (refusal_due (shown u) b) (shown u).ahead (t ≡ u) h.rests (ap one_unless_refused same ∙ omega arith) ∙ k.1 (omega arith),
      )

  kept : (s t : S) (bs cs : List (Memory T)) → Trace (Transition shown) s bs cs t → Kept shown s (counted (shown s) bs) t
  kept s t bs cs l =
      subst (λ n. Kept shown s n t) (omega arith) (trace_counts (Transition shown) (counts (shown s)) (Kept shown s) (λ n u w b a. kept_more s n u w b a) 0 s t bs cs (refl, λ z. refl) l)

-- a call of any kind of element, whatever calls of another kind went before
pub next_call_any : {S T U : Type 0} (shown : S → Shown) (s u t : S) (bs cs : List (Memory U)) (b a : Memory T) → Trace (Transition shown) s bs cs u → Transition shown u b a t
    → CallLaw (shown s) (counted (shown s) bs) b a
next_call_any {S} {T} {U} shown s u t bs cs b a l h =
    later_call (shown s) (counted (shown s) bs) b a (subst (λ v. CallLaw v 0 b a) (kept shown s u bs cs l).0 (one_call shown u t b a h))

module _ {S T : Type 0} (shown : S → Shown) where
  pub every_history : EveryHistory shown T
  every_history s t bs cs l =
      let k = kept shown s t bs cs l in
      record {
        history = record {
          each_made = trace_lengths (Transition shown) s t bs cs l;
          lawful = λ j b a p q.
              let at = trace_at (Transition shown) s t bs cs l j b a p q in
              next_call_any shown s at.found at.left (take j bs) (take j cs) b a at.earlier at.call;
        };
        shows = k.0;
        rests = k.1;
      }

-- ---- since the making

module _ {T : Type 0} (limits : Limits) (Lawful : List ℕ → Type 0) (m : Making) (v : Shown) (made : Made limits Lawful m v) {most : Limits} (fitting : Fitting most v) where
  since_call : (k : ℕ) (b a : Memory T) → CallLaw v k b a → CallLaw (wanted m) k b a
  since_call k b a h =
      let sized : refusal_due v b ≡ refusal_due (wanted m) b = ap (λ z. refusal_of_call z v.width (length b.pool) (length b.places) (length b.elements)) made.size
      ∙ ap (λ z. refusal_of_call m.size z (length b.pool) (length b.places) (length b.elements)) made.width in
      let numbered : refusal_number_of_call v.size v.width (length b.pool) (length b.places) (length b.elements) ≡ refusal_number_of_call m.size m.width (length b.pool) (length b.places) (length b.elements) =
      ap (λ z. refusal_number_of_call z v.width (length b.pool) (length b.places) (length b.elements)) made.size ∙ ap (λ z. refusal_number_of_call m.size z (length b.pool) (length b.places) (length b.elements)) made.width in
      let long : length v.ahead ≡ length (drop m.first m.all) = ap length made.ahead in
      record {
        lent = h.lent;
        refused = λ refusal e. h.refused refusal (sized ∙ e);
        numbered = λ number e. h.numbered number (numbered ∙ e);
        due = refusal_law (wanted m) b;
        given = λ e l.
            let k< : k < length v.ahead = omega arith in
            let wide : length (get_or v.ahead k []) ≡ v.width = All-get_or (λ row. length row ≡ v.width) v.ahead k [] k< fitting.uniform in
            let g = h.given (sized ∙ e) k< in
            let same : get_or v.ahead k [] ≡ get_or (drop m.first m.all) k [] = ap (λ rows. get_or rows k []) made.ahead in (
              g.0,
              g.1 ∙ ap (λ row. at_front row b.places) same,
              g.2 ∙ ap (λ ps. at_front (picked b.pool ps) b.elements)
                  (same_positions v.starts m.starts (get_or v.ahead k []) (λ i l. made.starts i (omega (arith, made.width))) ∙ ap (positions m.starts) same),
            );
        ended = λ e l. h.ended (sized ∙ e) (omega arith);
      }

  same_count : (ms : List (Memory T)) → counted v ms ≡ counted (wanted m) ms
  same_count ms = ap (λ z. total (λ c. one_unless_refused (refusal_of_call z v.width (length c.pool) (length c.places) (length c.elements))) ms) made.size
      ∙ ap (λ z. total (λ c. one_unless_refused (refusal_of_call m.size z (length c.pool) (length c.places) (length c.elements))) ms) made.width

  pub since : (bs cs : List (Memory T)) (count : ℕ) → count ≡ length bs → HistoryLaw v bs cs → Life limits Lawful m bs cs count
  since bs cs count is h = record {
    makable = made.makable;
    made = is;
    in_order = made.in_order;
    history = record {
      each_made = h.each_made;
      lawful = λ j b a p q. subst (λ n. CallLaw (wanted m) n b a) (same_count (take j bs)) (since_call (counted v (take j bs)) b a (h.lawful j b a p q));
    };
  }
