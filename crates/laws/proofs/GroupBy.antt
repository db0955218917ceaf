-- Every history of group calls and item calls is lawful.
use Rattle.std.proofs.Common.{◌≡◌, ℕ, zero, suc, ◌+◌, ◌-◌, ◌<◌, ◌≤◌, Bool, true, false, cond, eqb, ltb, List, [], ◌∷◌, ◌++◌, map, length, take, drop, Some, None, Ok, Err, Option, Result, sym, refl, ap, ◌∙◌, subst, ⊎_elim, add-one, arith, length-drop}
use Rattle.std.specs.List.{slice_get}
use Rattle.std.proofs.lemmas.Bool.{cond_both, cond-true, cond-false, cases_Bool, both_ways, ltb-true, ltb-false, eqb-true, eqb-false, eq-eqb}
use Rattle.std.proofs.lemmas.List.{drop_all}
use Rattle.std.proofs.lemmas.Option.{slice_get_past}
use Rattle.steps.specs.Steps.{Step, first, rest, answer}
use Rattle.steps.specs.Trace.{Trace}
use Rattle.steps.proofs.Trace.{trace_lengths, trace_at, trace_gathers, trace_without}
use Rattle.steps.specs.declared.answer.Answer.{Answer}
use Rattle.steps.specs.declared.answer.Answer.TheVariants.{Item, End}
use Rattle.steps.specs.declared.fault.Fault.{Fault}
use Rattle.steps.specs.declared.refusal.Refusal.TheVariants.{TooManyGroups}
use Rattle.laws.specs.Runs.{Run, members, AllEqual, Stops, IsRun, Runs, HasKeys, place}
use Rattle.laws.proofs.Runs.{one_division, place_next}
use Rattle.laws.specs.GroupBy.{Standing, unbegun, most_groups, with_key, sought, skipped, started, Opening, begun, stale, opens_at, opens_run, opens, group_call, Taking, takes_keyed, takes_next, takes, is_number, item_call, goes_by, goes, of_run, group_ahead, Ask, GroupCall, ItemCall, Told, Opened, Memory, Progress, nothing_yet, no_number, after_group, after_item, after_told, progress, GroupLaw, GivesNext, ItemLaw, AskLaw, ItemsLaw, Grouping, items_of, called, Idle, Transition, Moment, HistoryLaw, not_refused, was_answered, EveryHistory, Life}

-- ---- places in lists

pub nth_drop : {X : Type 0} (xs : List X) (k : ℕ) (x : X) (ys : List X) → drop k xs ≡ x ∷ ys → slice_get xs k ≡ Some x
nth_drop [] zero x ys e = let z : ◌≡◌ {A = ℕ} 0 1 = cc in absurd (omega arith)
nth_drop [] (suc k) x ys e = let z : ◌≡◌ {A = ℕ} 0 1 = cc in absurd (omega arith)
nth_drop (y ∷ xs) zero x ys e = let z : y ≡ x = cc in ap Some z
nth_drop (y ∷ xs) (suc k) x ys e = nth_drop xs k x ys e

pub drop_next : {X : Type 0} (xs : List X) (k : ℕ) (x : X) (ys : List X) → drop k xs ≡ x ∷ ys → drop (suc k) xs ≡ ys
drop_next [] zero x ys e = let z : ◌≡◌ {A = ℕ} 0 1 = cc in absurd (omega arith)
drop_next [] (suc k) x ys e = let z : ◌≡◌ {A = ℕ} 0 1 = cc in absurd (omega arith)
drop_next (y ∷ xs) zero x ys e = let z : xs ≡ ys = cc in z
drop_next (y ∷ xs) (suc k) x ys e = drop_next xs k x ys e

pub drop_end : {X : Type 0} (xs : List X) (k : ℕ) → drop k xs ≡ [] → length xs ≤ k
drop_end [] k e = omega arith
drop_end (y ∷ xs) zero e = let z : ◌≡◌ {A = ℕ} 0 1 = cc in absurd (omega arith)
drop_end (y ∷ xs) (suc k) e = omega (arith, drop_end xs k e)

pub drop_within : {X : Type 0} (xs : List X) (k : ℕ) (x : X) (ys : List X) → drop k xs ≡ x ∷ ys → k < length xs
drop_within [] zero x ys e = let z : ◌≡◌ {A = ℕ} 0 1 = cc in absurd (omega arith)
drop_within [] (suc k) x ys e = let z : ◌≡◌ {A = ℕ} 0 1 = cc in absurd (omega arith)
drop_within (y ∷ xs) zero x ys e = omega arith
drop_within (y ∷ xs) (suc k) x ys e = omega (arith, drop_within xs k x ys e)

-- past the end nothing is left
pub drop_past : {X : Type 0} (xs : List X) (k m : ℕ) → drop k xs ≡ [] → k ≤ m → drop m xs ≡ []
drop_past xs k m e h = drop_all m xs (omega (arith, drop_end xs k e))

pub drop_front : {X : Type 0} (l after xs : List X) (d : ℕ) → l ++ after ≡ drop d xs → after ≡ drop (d + length l) xs
drop_front [] after xs d e = e ∙ ap (λ k. drop k xs) (let z : d ≡ d + 0 = omega arith in z)
drop_front (x ∷ l) after xs d e =
    let h : l ++ after ≡ drop (suc d) xs = sym (drop_next xs d x (l ++ after) (sym e)) in
    drop_front l after xs (suc d) h ∙ ap (λ k. drop k xs) (let z : suc d + length l ≡ d + suc (length l) = omega arith in z)

-- ---- the items of a group, as a source

abbrev st : {A Q : Type 0} → Option A → Option Q → Bool → Option ℕ → ℕ → Standing A Q
st v q b g k = record { current_value = v; current_key = q; next_group = b; grouper = g; given = k }

abbrev Steps_on : {A Q : Type 0} → (A → Result Q Fault) → (Q → Q → Bool) → ℕ → Taking A Q → List (Step A) → Type 0
Steps_on key same n t ss = (t.answer ≡ first ss) × (group_ahead key same t.standing n t.left ≡ rest ss)

module _ {A Q : Type 0} (key : A → Result Q Fault) (same : Q → Q → Bool) (n : ℕ) where
  on : (v : Option A) (q : Option Q) (b : Bool) (g : Option ℕ) (k : ℕ) (left : List (Step A)) → is_number g n ≡ true → group_ahead key same (st v q b g k) n left ≡ of_run key same v q left
  on v q b g k left t = cond-true _ _ _ t

  takes_on : (v : Option A) (q : Option Q) (b : Bool) (g : Option ℕ) (k : ℕ) (left : List (Step A)) → is_number g n ≡ true → Steps_on key same n (takes key same (st v q b g k) v q left) (of_run key same v q left)
  takes_on (Some a) None b g k left t = (refl, on None None b g k left t)
  takes_on (Some a) (Some q) b g k left t = (refl, on None (Some q) b g k left t)
  takes_on None None b g k left t = (refl, on None None b g k left t)
  takes_on None (Some q) b g k [] t = (refl, on None (Some q) b g k [] t)
  takes_on None (Some q) b g k (Err f ∷ ss) t = (refl, on None (Some q) b g k ss t)
  takes_on None (Some q) b g k (Ok a ∷ ss) t = by (key a)
    where
      by : (r : Result Q Fault) → Steps_on key same n (takes_keyed same (st None (Some q) b g k) q a ss r) (goes_by same q a (goes key same q ss) r)
      by (Err f) = (refl, on None (Some q) b g k ss t)
      by (Ok p) = tried (same p q)
        where
          tried : (x : Bool) → Steps_on key same n (cond x (record { answer = Ok (Item a); standing = st None (Some q) b g k; left = ss }) (record { answer = Ok End; standing = st (Some a) (Some p) true None k; left = ss })) (cond x (Ok a ∷ goes key same q ss) [])
          tried true = (refl, on None (Some q) b g k ss t)
          tried false = (refl, refl)

  item_steps : (v : Option A) (q : Option Q) (b : Bool) (g : Option ℕ) (k : ℕ) (left : List (Step A)) → Steps_on key same n (item_call key same (st v q b g k) n left) (group_ahead key same (st v q b g k) n left)
  item_steps v q b g k left =
      ⊎_elim
      (λ (t : is_number g n ≡ true). subst (λ z. Steps_on key same n z (group_ahead key same (st v q b g k) n left)) (sym (cond-true _ _ _ t)) (subst (Steps_on key same n (takes key same (st v q b g k) v q left)) (sym (on v q b g k left t)) (takes_on v q b g k left t)))
      (λ (f : is_number g n ≡ false). subst (λ z. Steps_on key same n z (group_ahead key same (st v q b g k) n left)) (sym (cond-false _ _ _ f))
      (subst (λ z. (◌≡◌ (Ok End) (first z)) × (group_ahead key same (st v q b g k) n left ≡ rest z)) (sym (cond-false _ _ _ f)) (refl, cond-false _ _ _ f)))
      (cases_Bool (is_number g n))

pub item_gives : {A Q : Type 0} (key : A → Result Q Fault) (same : Q → Q → Bool) (s : Standing A Q) (n : ℕ) (left : List (Step A)) → (item_call key same s n left).answer ≡ first (group_ahead key same s n left)
item_gives key same s n left = (item_steps key same n s.current_value s.current_key s.next_group s.grouper s.given left).0

pub item_leaves : {A Q : Type 0} (key : A → Result Q Fault) (same : Q → Q → Bool) (s : Standing A Q) (n : ℕ) (left : List (Step A)) → group_ahead key same (item_call key same s n left).standing n (item_call key same s n left).left ≡ rest (group_ahead key same s n left)
item_leaves key same s n left = (item_steps key same n s.current_value s.current_key s.next_group s.grouper s.given left).1

-- ---- one call

-- the items due: the one that waits, and those of the run that are still ahead
abbrev waits : {A : Type 0} → Option A → List A → List A
waits None ys = ys
waits (Some a) ys = a ∷ ys

-- inside the run of place i, whose number is current
pub record In {A Q : Type 0} (key : A → Result Q Fault) (same : Q → Q → Bool) (xs : List A) (rs : List (Run A Q)) (p : Progress) (q : Q) (w : Option A) (n : ℕ) (ss : List (Step A)) : Type 0 where
  pub i : ℕ
  pub r : Run A Q
  pub l : List A
  pub after : List A
  pub d : ℕ
  pub asked : p.asked ≡ i + 1
  pub number : n ≡ i + 1
  pub last : p.latest ≡ Some (i + 1)
  pub here : slice_get rs i ≡ Some r
  pub ahead : ss ≡ map Ok (l ++ after)
  pub at : l ++ after ≡ drop d xs
  pub reach : d + length l ≡ place (suc i) rs
  pub equal : AllEqual key same q l
  pub stops : Stops key same q after
  pub runs : Runs key same after (drop (suc i) rs)
  pub due : waits w l ≡ drop p.since (members r)

-- behind the run of place i: the first item of the next one waits
pub record Behind {A Q : Type 0} (key : A → Result Q Fault) (same : Q → Q → Bool) (xs : List A) (rs : List (Run A Q)) (p : Progress) (q : Q) (a : A) (n : ℕ) (ss : List (Step A)) : Type 0 where
  pub i : ℕ
  pub r : Run A Q
  pub after : List A
  pub d : ℕ
  pub asked : p.asked ≡ i + 1
  pub number : n ≡ i + 1
  pub last : p.latest ≡ Some (i + 1)
  pub here : slice_get rs i ≡ Some r
  pub ahead : ss ≡ map Ok after
  pub at : a ∷ after ≡ drop d xs
  pub reach : d ≡ place (suc i) rs
  pub its : key a ≡ Ok q
  pub runs : Runs key same (a ∷ after) (drop (suc i) rs)
  pub due : [] ≡ drop p.since (members r)

-- before the first run
pub record Before {A Q : Type 0} (key : A → Result Q Fault) (same : Q → Q → Bool) (xs : List A) (rs : List (Run A Q)) (p : Progress) (n : ℕ) (ss : List (Step A)) : Type 0 where
  pub after : List A
  pub d : ℕ
  pub ahead : ss ≡ map Ok after
  pub at : after ≡ drop d xs
  pub reach : p.asked < length rs → d ≡ place p.asked rs
  pub runs : Runs key same after (drop p.asked rs)
  pub number : p.asked < length rs → n ≡ p.asked
  pub last : p.latest ≡ None

abbrev pub At : {A Q : Type 0} → (A → Result Q Fault) → (Q → Q → Bool) → List A → List (Run A Q) → Progress → Option A → Option Q → Bool → Option ℕ → ℕ → List (Step A) → Type 0
At key same xs rs p v None b g n ss = (g ≡ None) × Before key same xs rs p n ss
At {A} key same xs rs p v (Some q) true g n ss = (g ≡ None) × (a : A) × (v ≡ Some a) × Behind key same xs rs p q a n ss
At key same xs rs p v (Some q) false None n ss = (ss ≡ []) × (length rs ≤ p.asked) × (p.latest ≡ None)
At key same xs rs p v (Some q) false (Some k) n ss = (k ≡ n) × In key same xs rs p q v n ss

abbrev pub Stands : {A Q : Type 0} → (A → Result Q Fault) → (Q → Q → Bool) → List A → List (Run A Q) → Progress → Standing A Q → List (Step A) → Type 0
Stands key same xs rs p s ss = (p.given ≡ s.given) × At key same xs rs p s.current_value s.current_key s.next_group s.grouper s.given ss

-- one call over the equations of the calls
abbrev NextGroup : {A Q : Type 0} → (A → Result Q Fault) → (Q → Q → Bool) → List A → List (Run A Q) → Progress → Type 0 → Opening A Q → Type 0
NextGroup {A} {Q} key same xs rs p Rests o = Stands key same xs rs (after_group p o.answer) o.standing o.left × GroupLaw xs rs p o.answer o.left Rests

abbrev NextItem : {A Q : Type 0} → (A → Result Q Fault) → (Q → Q → Bool) → List A → List (Run A Q) → Progress → ℕ → Type 0 → Taking A Q → Type 0
NextItem {A} {Q} key same xs rs p n Rests o = Stands key same xs rs (after_item p o.answer) o.standing o.left × ItemLaw xs rs p n o.answer o.left Rests

module _ {A Q : Type 0} (key : A → Result Q Fault) (same : Q → Q → Bool) (xs : List A) (rs : List (Run A Q)) (Rests : Type 0) where
  -- the run of place p.asked begins
  began : (p : Progress) (n d : ℕ) → p.given ≡ n → n < most_groups → n ≡ p.asked → d ≡ place p.asked rs
      → (r : Run A Q) (todo : List (Run A Q)) → drop p.asked rs ≡ r ∷ todo → (after : List A) → r.first ∷ (r.more ++ after) ≡ drop d xs → IsRun key same r after → Runs key same after todo
      → NextGroup key same xs rs p Rests (record { answer = Ok (Item (r.key, n + 1)); standing = begun (Some r.first) r.key (n + 1); left = map Ok (r.more ++ after) })
  began p n d en ln eg ed r todo de after at is rn =
      let here : slice_get rs p.asked ≡ Some r = nth_drop rs p.asked r todo de in
      let then' : drop (suc p.asked) rs ≡ todo = drop_next rs p.asked r todo de in
      let moved : r.more ++ after ≡ drop (suc d) xs = sym (drop_next xs d r.first (r.more ++ after) (sym at)) in
      let spot : suc d ≡ place p.asked rs + 1 = omega arith in
      let within = drop_within rs p.asked r todo de in (
        (
          omega arith,
          (
            refl,
            record {
              i = p.asked;
              r = r;
              l = r.more;
              after = after;
              d = suc d;
              asked = refl;
              number = omega arith;
              last = ap (λ k. Some (k + 1)) eg;
              here = here;
              ahead = refl;
              at = moved;
              reach = let h = place_next rs p.asked r here in let z : suc d + length r.more ≡ place p.asked rs + suc (length r.more) = omega arith in z ∙ sym h;
              equal = is.equal;
              stops = is.longest;
              runs = subst (Runs key same after) (sym then') rn;
              due = refl;
            },
          ),
        ),
        record {
          many = λ h. absurd (omega arith);
          run = λ _ t e. let z : r ≡ t = cc in (ap (λ k. Ok (Item (r.key, k + 1))) eg ∙ ap (λ x. Ok (Item (x.key, p.asked + 1))) z, ap (map Ok) (moved ∙ ap (λ k. drop k xs) spot));
          over = λ _ h. absurd (omega arith);
        },
      )

  -- the next run is looked for where the old one stops
  on_todo : (p : Progress) (s : Standing A Q) → p.given ≡ s.given → s.given < most_groups → (p.asked < length rs → s.given ≡ p.asked) → (length rs ≤ p.asked → Stands key same xs rs (no_number p) (stale s) [])
      → (d : ℕ) → (p.asked < length rs → d ≡ place p.asked rs) → (after : List A) → after ≡ drop d xs → (todo : List (Run A Q)) → drop p.asked rs ≡ todo → Runs key same after todo
      → NextGroup key same xs rs p Rests (opens_run s (started key (map Ok after)))
  on_todo p s en ln number stay d ed after at [] de e =
      let over : length rs ≤ p.asked = drop_end rs p.asked de in
      subst (λ ys. NextGroup key same xs rs p Rests (opens_run s (started key (map Ok ys)))) (sym e) (
        stay over,
        record { many = λ h. absurd (omega arith); run = λ _ r q. let o = slice_get_past rs p.asked over in let z : ◌≡◌ {A = ℕ} 0 1 = cc in absurd (omega arith); over = λ _ _. (refl, refl) },
      )
  on_todo p s en ln number stay d ed after at (r ∷ todo) de (later, e, is, rn) =
      let within : p.asked < length rs = drop_within rs p.asked r todo de in
      subst (λ ys. NextGroup key same xs rs p Rests (opens_run s (started key (map Ok ys)))) (sym e)
      (subst (λ k. NextGroup key same xs rs p Rests (opens_at s (answer (with_key r.first k)) (map Ok (r.more ++ later)))) (sym is.first_key)
      (began p s.given d en ln (number within) (ed within) r todo de later (sym e ∙ at) is rn))

  -- what skips leaves of a run
  skip_left : (q : Q) (l after : List A) → AllEqual key same q l → Stops key same q after → skipped key same q (map Ok (l ++ after)) ≡ started key (map Ok after)
  skip_left q [] [] al sp = refl
  skip_left q [] (x ∷ after) al sp =
      ap (sought same q x (map Ok after) (skipped key same q (map Ok after))) sp.is ∙ cond-false _ _ _ sp.unequal ∙ ap (λ k. record { answer = answer (with_key x k); left = map Ok after }) (sym sp.is)
  skip_left q (x ∷ l) after al sp =
      ap (sought same q x (map Ok (l ++ after)) (skipped key same q (map Ok (l ++ after)))) al.0.is ∙ cond-true _ _ _ al.0.equal ∙ skip_left q l after al.1 sp

  on_behind : (p : Progress) (n : ℕ) (q : Q) (a : A) (ss : List (Step A)) → p.given ≡ n → n < most_groups → n ≡ p.asked → (d : ℕ) → d ≡ place p.asked rs → key a ≡ Ok q → (after : List A) → ss ≡ map Ok after → a ∷ after ≡ drop d xs
      → (todo : List (Run A Q)) → drop p.asked rs ≡ todo → Runs key same (a ∷ after) todo
      → NextGroup key same xs rs p Rests (record { answer = Ok (Item (q, n + 1)); standing = begun (Some a) q (n + 1); left = ss })
  on_behind p n q a ss en ln eg d ed its after es at [] de e = let z : ◌≡◌ {A = ℕ} 0 1 = cc in absurd (omega arith)
  on_behind p n q a ss en ln eg d ed its after es at (r ∷ todo) de (later, e, is, rn) =
      let fk = is.first_key in
      let ea : r.first ≡ a = cc in
      let eq : r.key ≡ q = cc in
      let em : after ≡ r.more ++ later = cc in
      let el : map Ok (r.more ++ later) ≡ ss = ap (map Ok) (sym em) ∙ sym es in
      subst (λ x. NextGroup key same xs rs p Rests (record { answer = Ok (Item (q, n + 1)); standing = begun (Some x) q (n + 1); left = ss })) ea
      (subst (λ x. NextGroup key same xs rs p Rests (record { answer = Ok (Item (x, n + 1)); standing = begun (Some r.first) x (n + 1); left = ss })) eq
      (subst (λ x. NextGroup key same xs rs p Rests (record { answer = Ok (Item (r.key, n + 1)); standing = begun (Some r.first) r.key (n + 1); left = x })) el
      (began p n d en ln eg ed r todo de later (sym e ∙ at) is rn)))

  on_open : (p : Progress) (v : Option A) (q : Option Q) (b : Bool) (g : Option ℕ) (n : ℕ) (ss : List (Step A)) → p.given ≡ n → n < most_groups → At key same xs rs p v q b g n ss
      → NextGroup key same xs rs p Rests (opens key same (st v q b g n) q b ss)
  on_open p v None b g n ss en ln h =
      let i = h.1 in
      subst (λ ys. NextGroup key same xs rs p Rests (opens_run (st v None b g n) (started key ys))) (sym i.ahead)
      (on_todo p (st v None b g n) en ln i.number
      (λ o. (omega arith, (refl, record { after = []; d = length xs; ahead = refl; at = sym (drop_all (length xs) xs (omega arith)); reach = λ l. absurd (omega arith); runs = subst (Runs key same []) (sym (drop_all (p.asked + 1) rs (omega arith))) refl; number = λ l. absurd (omega arith); last = refl })))
      i.d i.reach i.after i.at _ refl i.runs)
  on_open p v (Some q) true g n ss en ln h =
      let a = h.1 in
      let i = h.3 in
      subst (λ w. NextGroup key same xs rs p Rests (record { answer = Ok (Item (q, n + 1)); standing = begun w q (n + 1); left = ss })) (sym h.2)
      (on_behind p n q a ss en ln (i.number ∙ sym i.asked) i.d (i.reach ∙ ap (λ k. place k rs) (sym (i.asked ∙ add-one i.i))) i.its i.after i.ahead i.at _ refl (subst (λ k. Runs key same (a ∷ i.after) (drop k rs)) (sym (i.asked ∙ add-one i.i)) i.runs))
  on_open p v (Some q) false None n ss en ln h =
      subst (λ ys. NextGroup key same xs rs p Rests (opens_run (st v (Some q) false None n) (skipped key same q ys))) (sym h.0) (
        (omega arith, (refl, omega (arith, h.1), refl)),
        record { many = λ m. absurd (omega arith); run = λ _ r e. let o = slice_get_past rs p.asked h.1 in let z : ◌≡◌ {A = ℕ} 0 1 = cc in absurd (omega arith); over = λ _ _. (refl, refl) },
      )
  on_open p v (Some q) false (Some k) n ss en ln h =
      let i = h.1 in
      let ek : suc i.i ≡ p.asked = sym (i.asked ∙ add-one i.i) in
      let sk : skipped key same q ss ≡ started key (map Ok i.after) = ap (skipped key same q) i.ahead ∙ skip_left q i.l i.after i.equal i.stops in
      subst (λ f. NextGroup key same xs rs p Rests (opens_run (st v (Some q) false (Some k) n) f)) (sym sk)
      (on_todo p (st v (Some q) false (Some k) n) en ln (λ _. i.number ∙ sym i.asked) (λ o. (omega arith, (refl, omega arith, refl)))
      (i.d + length i.l) (λ _. i.reach ∙ ap (λ j. place j rs) ek) i.after (drop_front i.l i.after xs i.d i.at) _ refl (subst (λ j. Runs key same i.after (drop j rs)) ek i.runs))

  pub on_group : (p : Progress) (s : Standing A Q) (ss : List (Step A)) → Stands key same xs rs p s ss → (most_groups ≤ s.given → Rests) → NextGroup key same xs rs p Rests (group_call key same s ss)
  on_group p s ss i rests =
      cond_both (ltb s.given most_groups) _ _ (NextGroup key same xs rs p Rests)
      (λ l. on_open p s.current_value s.current_key s.next_group s.grouper s.given ss i.0 (ltb-true _ _ l) i.1)
      (λ l. let le : most_groups ≤ s.given = ltb-false _ _ l in (
        i,
        record { many = λ _. (TooManyGroups, refl, refl, rests le); run = λ h. absurd (omega (arith, i.0)); over = λ h. absurd (omega (arith, i.0)) },
      ))

  -- the law where the number is the latest one
  item_law : (p : Progress) (n i : ℕ) (r : Run A Q) (told : Result (Answer A) Fault) (left : List (Step A)) → n ≡ i + 1 → p.latest ≡ Some (i + 1) → slice_get rs i ≡ Some r → GivesNext xs rs i p.since (slice_get (members r) p.since) told left → ItemLaw xs rs p n told left Rests
  item_law p n i r told left en el er g = record {
    current = λ _. record { i = i; numbered = en; run = r; is = er; gives = g };
    other = λ h. absurd (h (el ∙ ap Some (sym en)));
  }

  -- a number that is not current
  on_idle : (p : Progress) (v : Option A) (q : Option Q) (b : Bool) (g : Option ℕ) (k n : ℕ) (ss : List (Step A)) → At key same xs rs p v q b g k ss → is_number g n ≡ false → Rests → ItemLaw xs rs p n (Ok End) ss Rests
  on_idle p v None b g k n ss h f rests = record { current = λ e. let o = h.1.last in let z : ◌≡◌ {A = ℕ} 0 1 = cc in absurd (omega arith); other = λ _. (refl, rests) }
  on_idle p v (Some q) true g k n ss h f rests =
      let i = h.3 in
      let a = h.1 in
      let none : slice_get (members i.r) p.since ≡ None = slice_get_past (members i.r) p.since (drop_end (members i.r) p.since (sym i.due)) in
      let moved : i.after ≡ drop (place (suc i.i) rs + 1) xs = sym (drop_next xs i.d a i.after (sym i.at)) ∙ ap (λ j. drop j xs) (let z : suc i.d ≡ place (suc i.i) rs + 1 = omega (arith, i.reach) in z) in
      record {
        current = λ e. record { i = i.i; numbered = (let l = i.last in let z : n ≡ i.i + 1 = cc in z); run = i.r; is = i.here; gives = subst (λ o. GivesNext xs rs i.i p.since o (Ok End) ss) (sym none) (refl, i.ahead ∙ ap (map Ok) moved) };
        other = λ _. (refl, rests);
      }
  on_idle p v (Some q) false None k n ss h f rests = record { current = λ e. let o = h.2 in let z : ◌≡◌ {A = ℕ} 0 1 = cc in absurd (omega arith); other = λ _. (refl, rests) }
  on_idle p v (Some q) false (Some j) k n ss h f rests =
      let i = h.1 in record {
        current = λ e. let l = i.last in let z : n ≡ i.i + 1 = cc in absurd (eqb-false _ _ f (let y : j ≡ n = omega (arith, h.0, i.number) in y));
        other = λ _. (refl, rests);
      }

  -- the next item of the current run is drawn, or the next run is met
  on_draw : (p : Progress) (q : Q) (k n : ℕ) (ss : List (Step A)) → p.given ≡ k → n ≡ k → (i : In key same xs rs p q None k ss)
      → (l after : List A) → ss ≡ map Ok (l ++ after) → l ++ after ≡ drop i.d xs → i.d + length l ≡ place (suc i.i) rs → AllEqual key same q l → Stops key same q after → Runs key same after (drop (suc i.i) rs) → l ≡ drop p.since (members i.r)
      → NextItem key same xs rs p n Rests (takes_next key same (st None (Some q) false (Some k) k) q ss)
  on_draw p q k n ss en ek i [] [] es at re al sp rn du =
      let none : slice_get (members i.r) p.since ≡ None = slice_get_past (members i.r) p.since (drop_end (members i.r) p.since (sym du)) in
      subst (λ ys. NextItem key same xs rs p n Rests (takes_next key same (st None (Some q) false (Some k) k) q ys)) (sym es) (
        subst (λ ys. Stands key same xs rs p (st None (Some q) false (Some k) k) ys) es (en, (refl, i)),
        item_law p n i.i i.r (Ok End) [] (omega (arith, i.number)) i.last i.here (subst (λ o. GivesNext xs rs i.i p.since o (Ok End) []) (sym none) (refl, ap (map Ok) (sym (drop_past xs i.d (place (suc i.i) rs + 1) (sym at) (omega arith))))),
      )
  on_draw p q k n ss en ek i [] (x ∷ after) es at re al sp rn du =
      let none : slice_get (members i.r) p.since ≡ None = slice_get_past (members i.r) p.since (drop_end (members i.r) p.since (sym du)) in
      let moved : after ≡ drop (place (suc i.i) rs + 1) xs = sym (drop_next xs i.d x after (sym at)) ∙ ap (λ j. drop j xs) (let z : suc i.d ≡ place (suc i.i) rs + 1 = omega arith in z) in
      subst (λ ys. NextItem key same xs rs p n Rests (takes_next key same (st None (Some q) false (Some k) k) q ys)) (sym es)
      (subst (λ t. NextItem key same xs rs p n Rests t) (sym (ap (takes_keyed same (st None (Some q) false (Some k) k) q x (map Ok after)) sp.is ∙ cond-false _ _ _ sp.unequal)) (
        (en, (refl, x, refl, record { i = i.i; r = i.r; after = after; d = i.d; asked = i.asked; number = i.number; last = i.last; here = i.here; ahead = refl; at = at; reach = (let z : i.d ≡ i.d + 0 = omega arith in z ∙ re); its = sp.is; runs = rn; due = du })),
        item_law p n i.i i.r (Ok End) (map Ok after) (omega (arith, i.number)) i.last i.here (subst (λ o. GivesNext xs rs i.i p.since o (Ok End) (map Ok after)) (sym none) (refl, ap (map Ok) moved)),
      ))
  on_draw p q k n ss en ek i (x ∷ l) after es at re al sp rn du =
      let some : slice_get (members i.r) p.since ≡ Some x = nth_drop (members i.r) p.since x l (sym du) in
      let within : p.since < length (members i.r) = drop_within (members i.r) p.since x l (sym du) in
      let long : suc (length l) ≡ length (members i.r) - p.since = ap length du ∙ length-drop p.since (members i.r) in
      let next : place (suc i.i) rs ≡ place i.i rs + length (members i.r) = place_next rs i.i i.r i.here in
      let spot : suc i.d ≡ place i.i rs + p.since + 1 = omega arith in
      let step : l ++ after ≡ drop (suc i.d) xs = sym (drop_next xs i.d x (l ++ after) (sym at)) in
      subst (λ ys. NextItem key same xs rs p n Rests (takes_next key same (st None (Some q) false (Some k) k) q ys)) (sym es)
      (subst (λ t. NextItem key same xs rs p n Rests t) (sym (ap (takes_keyed same (st None (Some q) false (Some k) k) q x (map Ok (l ++ after))) al.0.is ∙ cond-true _ _ _ al.0.equal)) (
        (
          en,
          (
            refl,
            record {
              i = i.i;
              r = i.r;
              l = l;
              after = after;
              d = suc i.d;
              asked = i.asked;
              number = i.number;
              last = i.last;
              here = i.here;
              ahead = refl;
              at = step;
              reach = (let z : suc i.d + length l ≡ i.d + suc (length l) = omega arith in z ∙ re);
              equal = al.1;
              stops = sp;
              runs = rn;
              due = sym (drop_next (members i.r) p.since x l (sym du)) ∙ ap (λ j. drop j (members i.r)) (sym (add-one p.since));
            },
          ),
        ),
        item_law p n i.i i.r (Ok (Item x)) (map Ok (l ++ after)) (omega (arith, i.number)) i.last i.here (subst (λ o. GivesNext xs rs i.i p.since o (Ok (Item x)) (map Ok (l ++ after))) (sym some) (refl, ap (map Ok) (step ∙ ap (λ j. drop j xs) spot))),
      ))

  on_take : (p : Progress) (v : Option A) (q : Option Q) (b : Bool) (g : Option ℕ) (k n : ℕ) (ss : List (Step A)) → p.given ≡ k → At key same xs rs p v q b g k ss → is_number g n ≡ true → NextItem key same xs rs p n Rests (takes key same (st v q b g k) v q ss)
  on_take p v q b None k n ss en h t = let z : ◌≡◌ {A = Bool} false true = t in absurd (both_ways false refl t)
  on_take p v None b (Some j) k n ss en h t = let e = h.0 in let z : ◌≡◌ {A = ℕ} 0 1 = cc in absurd (omega arith)
  on_take p v (Some q) true (Some j) k n ss en h t = let e = h.0 in let z : ◌≡◌ {A = ℕ} 0 1 = cc in absurd (omega arith)
  on_take p None (Some q) false (Some j) k n ss en h t =
      let jk : j ≡ k = h.0 in
      let i = h.1 in
      let nk : n ≡ k = sym (eqb-true _ _ t) ∙ jk in
      subst (λ x. NextItem key same xs rs p n Rests (takes_next key same (st None (Some q) false (Some x) k) q ss)) (sym jk)
      (on_draw p q k n ss en nk i i.l i.after i.ahead i.at i.reach i.equal i.stops i.runs i.due)
  on_take p (Some a) (Some q) false (Some j) k n ss en h t =
      let i = h.1 in
      let some : slice_get (members i.r) p.since ≡ Some a = nth_drop (members i.r) p.since a i.l (sym i.due) in
      let within : p.since < length (members i.r) = drop_within (members i.r) p.since a i.l (sym i.due) in
      let long : suc (length i.l) ≡ length (members i.r) - p.since = ap length i.due ∙ length-drop p.since (members i.r) in
      let next : place (suc i.i) rs ≡ place i.i rs + length (members i.r) = place_next rs i.i i.r i.here in
      let re = i.reach in
      let spot : i.d ≡ place i.i rs + p.since + 1 = omega arith in
      let jn : j ≡ n = eqb-true _ _ t in (
        (
          en,
          (
            h.0,
            record {
              i = i.i;
              r = i.r;
              l = i.l;
              after = i.after;
              d = i.d;
              asked = i.asked;
              number = i.number;
              last = i.last;
              here = i.here;
              ahead = i.ahead;
              at = i.at;
              reach = i.reach;
              equal = i.equal;
              stops = i.stops;
              runs = i.runs;
              due = sym (drop_next (members i.r) p.since a i.l (sym i.due)) ∙ ap (λ j. drop j (members i.r)) (sym (add-one p.since));
            },
          ),
        ),
        item_law p n i.i i.r (Ok (Item a)) ss (omega (arith, i.number, h.0)) i.last i.here (subst (λ o. GivesNext xs rs i.i p.since o (Ok (Item a)) ss) (sym some) (refl, i.ahead ∙ ap (map Ok) (i.at ∙ ap (λ j. drop j xs) spot))),
      )

  pub on_item : (p : Progress) (s : Standing A Q) (ss : List (Step A)) → Stands key same xs rs p s ss → (n : ℕ) → (is_number s.grouper n ≡ false → Rests) → NextItem key same xs rs p n Rests (item_call key same s n ss)
  on_item p s ss i n rests =
      cond_both (is_number s.grouper n) _ _ (NextItem key same xs rs p n Rests)
      (λ t. on_take p s.current_value s.current_key s.next_group s.grouper s.given n ss i.0 i.1 t)
      (λ f. (i, on_idle p s.current_value s.current_key s.next_group s.grouper s.given n ss i.1 f (rests f)))

-- the items of a group as a source
module _ {A Q : Type 0} (key : A → Result Q Fault) (same : Q → Q → Bool) (xs : List A) (rs : List (Run A Q)) where
  goes_run : (q : Q) (l after : List A) → AllEqual key same q l → Stops key same q after → goes key same q (map Ok (l ++ after)) ≡ map Ok l
  goes_run q [] [] al sp = refl
  goes_run q [] (x ∷ after) al sp = ap (goes_by same q x (goes key same q (map Ok after))) sp.is ∙ cond-false _ _ _ sp.unequal
  goes_run q (x ∷ l) after al sp =
      ap (goes_by same q x (goes key same q (map Ok (l ++ after)))) al.0.is ∙ cond-true _ _ _ al.0.equal ∙ ap (λ ss. Ok x ∷ ss) (goes_run q l after al.1 sp)

  of_waits : (w : Option A) (q : Q) (l after : List A) → AllEqual key same q l → Stops key same q after → of_run key same w (Some q) (map Ok (l ++ after)) ≡ map Ok (waits w l)
  of_waits None q l after al sp = goes_run q l after al sp
  of_waits (Some a) q l after al sp = ap (λ ss. Ok a ∷ ss) (goes_run q l after al sp)

  nothing : (v : Option A) (q : Option Q) (b : Bool) (g : Option ℕ) (k n : ℕ) (ss : List (Step A)) → is_number g n ≡ false → group_ahead key same (st v q b g k) n ss ≡ []
  nothing v q b g k n ss f = cond-false _ _ _ f

  on_items_at : (p : Progress) (v : Option A) (q : Option Q) (b : Bool) (g : Option ℕ) (k n : ℕ) (ss : List (Step A)) → At key same xs rs p v q b g k ss → ItemsLaw rs p n (group_ahead key same (st v q b g k) n ss)
  on_items_at p v None b g k n ss h = record {
    current = λ e. let o = h.1.last in let z : ◌≡◌ {A = ℕ} 0 1 = cc in absurd (omega arith);
    other = λ _. nothing v None b g k n ss (ap (λ z. is_number z n) h.0);
  }
  on_items_at p v (Some q) true g k n ss h =
      let i = h.3 in
      let none : group_ahead key same (st v (Some q) true g k) n ss ≡ [] = nothing v (Some q) true g k n ss (ap (λ z. is_number z n) h.0) in
      record {
        current = λ e. record { i = i.i; numbered = (let l = i.last in let z : n ≡ i.i + 1 = cc in z); run = i.r; is = i.here; rest = none ∙ ap (map Ok) i.due };
        other = λ _. none;
      }
  on_items_at p v (Some q) false None k n ss h = record { current = λ e. let o = h.2 in let z : ◌≡◌ {A = ℕ} 0 1 = cc in absurd (omega arith); other = λ _. refl }
  on_items_at p v (Some q) false (Some j) k n ss h =
      let i = h.1 in record {
        current = λ e.
            let l = i.last in
            let z : n ≡ i.i + 1 = cc in
            record {
              i = i.i;
              numbered = z;
              run = i.r;
              is = i.here;
              rest = cond-true _ _ _ (eq-eqb j n (omega (arith, h.0, i.number))) ∙ ap (of_run key same v (Some q)) i.ahead ∙ of_waits v q i.l i.after i.equal i.stops ∙ ap (map Ok) i.due;
            };
        other = λ d. nothing v (Some q) false (Some j) k n ss
            (⊎_elim (λ (t : eqb j n ≡ true). absurd (d (i.last ∙ ap Some (let y : i.i + 1 ≡ n = omega (arith, h.0, i.number, eqb-true j n t) in y)))) (λ (f : eqb j n ≡ false). f) (cases_Bool (eqb j n)));
      }

  pub on_items : (p : Progress) (s : Standing A Q) (ss : List (Step A)) → Stands key same xs rs p s ss → (n : ℕ) → ItemsLaw rs p n (group_ahead key same s n ss)
  on_items p s ss i n = on_items_at p s.current_value s.current_key s.next_group s.grouper s.given n ss i.1

-- ---- the calls of a history

-- what one call told and left, after a history that came to p
abbrev WellCalled : {A Q : Type 0} → (A → Result Q Fault) → (Q → Q → Bool) → List A → List (Run A Q) → Progress → Ask → Option (Told A Q) → Grouping A Q → Type 0 → Type 0
WellCalled key same xs rs p c told g Rests = Stands key same xs rs (after_told p told) g.standing g.ahead × AskLaw xs rs p c told g.ahead Rests

on_call : {A Q : Type 0} (same : Q → Q → Bool) (xs : List A) (rs : List (Run A Q)) (Rests : Type 0) (p : Progress) (c : Ask) (g : Grouping A Q) → Stands g.key same xs rs p g.standing g.ahead → (Idle c g.standing → Rests)
    → WellCalled g.key same xs rs p c (Some (called same c g).told) (called same c g).left Rests
on_call same xs rs Rests p GroupCall g i rests = let h = on_group g.key same xs rs Rests p g.standing g.ahead i rests in (h.0, ((group_call g.key same g.standing g.ahead).answer, refl, h.1))
on_call same xs rs Rests p (ItemCall n) g i rests = let h = on_item g.key same xs rs Rests p g.standing g.ahead i n rests in (h.0, ((item_call g.key same g.standing n g.ahead).answer, refl, h.1))

called_key : {A Q : Type 0} (same : Q → Q → Bool) (c : Ask) (g : Grouping A Q) → (called same c g).left.key ≡ g.key
called_key same GroupCall g = refl
called_key same (ItemCall n) g = refl

-- a run that is looked for is not refused
run_not_refused : {A Q : Type 0} (s : Standing A Q) (r : Result (Answer (A × Q)) Fault) (left : List (Step A)) → not_refused {A = A} (Some (Opened (opens_at s r left).answer)) ≡ true
run_not_refused s (Ok (Item x)) left = refl
run_not_refused s (Ok End) left = refl
run_not_refused s (Err f) left = refl

opens_not_refused : {A Q : Type 0} (key : A → Result Q Fault) (same : Q → Q → Bool) (s : Standing A Q) (q : Option Q) (b : Bool) (ss : List (Step A)) → not_refused {A = A} (Some (Opened (opens key same s q b ss).answer)) ≡ true
opens_not_refused key same s None b ss = run_not_refused s (started key ss).answer (started key ss).left
opens_not_refused key same s (Some q) false ss = run_not_refused s (skipped key same q ss).answer (skipped key same q ss).left
opens_not_refused key same s (Some q) true ss = refl

-- a refused call found every group given
refused_idle : {A Q : Type 0} (same : Q → Q → Bool) (c : Ask) (g : Grouping A Q) → not_refused (Some (called same c g).told) ≡ false → Idle c g.standing
refused_idle same (ItemCall n) g e = absurd (both_ways true e refl)
refused_idle {A} {Q} same GroupCall g e =
    ⊎_elim
    (λ (l : ltb g.standing.given most_groups ≡ true).
    let o = opens_not_refused g.key same g.standing g.standing.current_key g.standing.next_group g.ahead in
    absurd (both_ways true (sym o ∙ ap (λ (z : Opening A Q). not_refused {A = A} (Some (Opened z.answer))) (sym (cond-true _ _ _ l)) ∙ e) refl))
    (λ (l : ltb g.standing.given most_groups ≡ false). ltb-false _ _ l)
    (cases_Bool (ltb g.standing.given most_groups))

module _ {X A Q : Type 0} (same : Q → Q → Bool) (shown : X → Grouping A Q) where
  one_call : (k : A → Result Q Fault) (xs : List A) (rs : List (Run A Q)) (p : Progress) (s t : X) (b a : Memory A Q) → (shown s).key ≡ k → Stands k same xs rs p (shown s).standing (shown s).ahead → Transition same shown s b a t
      → ((shown t).key ≡ k) × WellCalled k same xs rs p b.ask a.told (shown t) (t ≡ s)
  one_call k xs rs p s t b a ek i l =
      let h = on_call same xs rs (t ≡ s) p b.ask (shown s) (subst (λ z. Stands z same xs rs p (shown s).standing (shown s).ahead) (sym ek) i) l.rests in (
        ap (λ g. g.key) l.shows ∙ called_key same b.ask (shown s) ∙ ek,
        subst (λ z. WellCalled z same xs rs p b.ask a.told (shown t) (t ≡ s)) ek
            (subst (λ z. WellCalled (shown s).key same xs rs p b.ask z (shown t) (t ≡ s)) (sym l.told)
            (subst (λ z. WellCalled (shown s).key same xs rs p b.ask (Some (called same b.ask (shown s)).told) z (t ≡ s)) (sym l.shows) h)),
      )

  module _ (xs : List A) (s : X) (rs : List (Run A Q)) where
    abbrev ComesTo : Progress → X → Type 0
    ComesTo p t = ((shown t).key ≡ (shown s).key) × Stands (shown s).key same xs rs p (shown t).standing (shown t).ahead

    comes_to : (t : X) (befores afters : List (Memory A Q)) → ComesTo nothing_yet s → Trace (Transition same shown) s befores afters t → ComesTo (progress befores afters) t
    comes_to t befores afters i l =
        trace_gathers (Transition same shown) (λ (p : Progress) (b a : Memory A Q). after_told p a.told) ComesTo
        (λ p u v b a h c. let o = one_call (shown s).key xs rs p u v b a h.0 h.1 c in (o.0, o.1.0)) nothing_yet s t befores afters i l

    moment : (t : X) (befores afters : List (Memory A Q)) → ComesTo nothing_yet s → Trace (Transition same shown) s befores afters t
        → (j : ℕ) (before after : Memory A Q) → slice_get befores j ≡ Some before → slice_get afters j ≡ Some after → Moment same shown xs rs s befores afters j before after t
    moment t befores afters i l j before after eb ea =
        let at = trace_at (Transition same shown) s t befores afters l j before after eb ea in
        let h = comes_to at.found (take j befores) (take j afters) i at.earlier in
        record {
          found = at.found;
          left = at.left;
          earlier = at.earlier;
          call = at.call;
          later = at.later;
          law = (one_call (shown s).key xs rs (progress (take j befores) (take j afters)) at.found at.left before after h.0 h.1 at.call).1.1;
        }

    items_last : (t : X) (befores afters : List (Memory A Q)) → ComesTo nothing_yet s → Trace (Transition same shown) s befores afters t → (n : ℕ) → ItemsLaw rs (progress befores afters) n (items_of same (shown t) n)
    items_last t befores afters i l n =
        let h = comes_to t befores afters i l in
        subst (λ z. ItemsLaw rs (progress befores afters) n (group_ahead z same (shown t).standing n (shown t).ahead)) (sym h.0)
        (on_items (shown s).key same xs rs (progress befores afters) (shown t).standing (shown t).ahead h.1 n)

-- the law of every history since the making
module _ {X A Q : Type 0} (same : Q → Q → Bool) (shown : X → Grouping A Q) (symmetric : (p q : Q) → same p q ≡ true → same q p ≡ true) (transitive : (p q r : Q) → same p q ≡ true → same q r ≡ true → same p r ≡ true) where
  lawful : (s t : X) (befores afters : List (Memory A Q)) → Trace (Transition same shown) s befores afters t → (shown s).standing ≡ unbegun → (xs : List A) → (shown s).ahead ≡ map Ok xs → HasKeys (shown s).key xs
      → HistoryLaw same shown xs s befores afters t
  lawful s t befores afters l new xs ex h =
      let d = one_division (shown s).key same symmetric transitive xs h in
      let i : ComesTo same shown xs s d.runs nothing_yet s =
      (refl, subst (λ z. Stands (shown s).key same xs d.runs nothing_yet z (shown s).ahead) (sym new) (refl, (refl, record { after = xs; d = 0; ahead = ex; at = refl; reach = λ _. refl; runs = d.divided; number = λ _. refl; last = refl }))) in
      record {
        division = d;
        lawful = moment same shown xs s d.runs t befores afters i l;
        items = items_last same shown xs s d.runs t befores afters i l;
      }

  pub every_history : EveryHistory same shown
  every_history s t befores afters l = record {
    each_made = trace_lengths (Transition same shown) s t befores afters l;
    unfelt = trace_without (Transition same shown) was_answered
        (λ u v b a e r. r.rests (refused_idle same b.ask (shown u) (ap not_refused (sym r.told) ∙ e))) s t befores afters l;
    law = lawful s t befores afters l;
  }

  -- a making, and the history of calls since
  pub life : (key : A → Result Q Fault) (ahead : List (Step A)) (befores afters : List (Memory A Q)) (s t : X) → shown s ≡ record { key = key; standing = unbegun; ahead = ahead } → Trace (Transition same shown) s befores afters t
      → Life same shown key ahead befores afters t
  life key ahead befores afters s t new l =
      let h = every_history s t befores afters l in
      record {
        made = s;
        new = new;
        led = l;
        each_made = h.each_made;
        unfelt = h.unfelt;
        law = λ xs ex k. h.law (ap (λ g. g.standing) new) xs (ap (λ g. g.ahead) new ∙ ex) (subst (λ z. HasKeys z xs) (sym (ap (λ g. g.key) new)) k);
      }
