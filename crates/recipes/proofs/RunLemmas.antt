-- The first items of the runs, met one after another by group calls.
use Rattle.std.proofs.Common.{◌≡◌, ℕ, ◌+◌, ◌<◌, ◌≤◌, Bool, true, false, cond, List, [], ◌∷◌, ◌++◌, map, length, Some, None, Option, Ok, Err, Result, refl, sym, ap, ◌∙◌, subst, nat_lt, ⊎_elim, arith}
use Rattle.std.proofs.lemmas.Bool.{cond-true, cond-false, cases_Bool, eq-eqb}
use Rattle.steps.specs.declared.answer.Answer.{Answer}
use Rattle.steps.specs.declared.answer.Answer.TheVariants.{Item, End}
use Rattle.steps.specs.declared.call_error.CallError.{CallError}
use Rattle.steps.specs.declared.call_error.CallError.TheVariants.{Broken, Refused}
use Rattle.steps.specs.declared.fault.Fault.{Fault}
use Rattle.steps.specs.Steps.{Step, first}
use Rattle.laws.specs.Items.{faults}
use Rattle.laws.specs.Runs.{Run, Runs, AllEqual, Stops}
use Rattle.laws.specs.GroupBy.{Standing, Found, Opening, Taking, most_groups, with_key, keyed, started, sought, skipped, next_run, opens_at, opens_run, opens, begun, group_call, taken, takes_keyed, takes, is_number, item_call, number_told, number_earned}
use Rattle.groups.specs.declared.groupby.GroupBy.{GroupBy}
use Rattle.groups.specs.GroupBy.{standing, below, keying, opening, taking}
use Rattle.recipes.proofs.ListLemmas.{listed_more, OfError, OnFault-weaker}
use Rattle.recipes.specs.Lists.{number_of, OverItems, FirstOf, FirstOfEachRun}
use Rattle.recipes.specs.RuleError.{rule_error_of}

no_fault : {A : Type 0} {f : Fault} {ss : List (Step A)} (ys : List A) → Err f ∷ ss ≡ map Ok ys → ⊥
no_fault [] e = cc
no_fault (y ∷ ys) e = cc

no_item : {A : Type 0} {y : A} (ys : List A) → ◌≡◌ {A = List (Step A)} [] (map Ok (y ∷ ys)) → ⊥
no_item ys e = cc

same_item : {A : Type 0} {a b : A} → ◌≡◌ {A = Result (Answer A) Fault} (Ok (Item a)) (Ok (Item b)) → a ≡ b
same_item e = cc

no_end : {A : Type 0} {a : A} → ◌≡◌ {A = Result (Answer A) Fault} (Ok (Item a)) (Ok End) → ⊥
no_end e = cc

no_break : {A : Type 0} {a : A} {f : Fault} → ◌≡◌ {A = Result (Answer A) Fault} (Ok (Item a)) (Err f) → ⊥
no_break e = cc

-- an item call with the number of a group whose first item waits
first_given : {A Q : Type 0} (key : A → Result Q Fault) (same : Q → Q → Bool) (a : A) (q : Q) (n : ℕ) (left : List (Step A)) →
    item_call key same (begun (Some a) q n) n left ≡ record { answer = Ok (Item a); standing = taken (begun (Some a) q n); left = left }
first_given key same a q n left = cond-true _ _ _ (eq-eqb n n refl)

-- an item call gives no group
keyed_given : {A Q : Type 0} (same : Q → Q → Bool) (s : Standing A Q) (q : Q) (a : A) (ss : List (Step A)) (r : Result Q Fault) → (takes_keyed same s q a ss r).standing.given ≡ s.given
keyed_given same s q a ss (Err f) = refl
keyed_given same s q a ss (Ok p) = ⊎_elim
    (λ t. ap (λ (x : Taking _ _). x.standing.given) (cond-true _ _ _ t))
    (λ n. ap (λ (x : Taking _ _). x.standing.given) (cond-false _ _ _ n))
    (cases_Bool (same p q))

takes_given : {A Q : Type 0} (key : A → Result Q Fault) (same : Q → Q → Bool) (s : Standing A Q) (w : Option A) (k : Option Q) (ss : List (Step A)) → (takes key same s w k ss).standing.given ≡ s.given
takes_given key same s (Some a) k ss = refl
takes_given key same s None None ss = refl
takes_given key same s None (Some q) [] = refl
takes_given key same s None (Some q) (Err f ∷ ss) = refl
takes_given key same s None (Some q) (Ok a ∷ ss) = keyed_given same s q a ss (key a)

pub none_more : {A Q : Type 0} (key : A → Result Q Fault) (same : Q → Q → Bool) (s : Standing A Q) (n : ℕ) (ss : List (Step A)) → (item_call key same s n ss).standing.given ≡ s.given
none_more key same s n ss = ⊎_elim
    (λ t. ap (λ (x : Taking _ _). x.standing.given) (cond-true _ _ _ t) ∙ takes_given key same s s.current_value s.current_key ss)
    (λ f. ap (λ (x : Taking _ _). x.standing.given) (cond-false _ _ _ f))
    (cases_Bool (is_number s.grouper n))

-- the number of a refusal that comes up from a group call
told_number : (B : Type 0) (e : CallError) → number_of (rule_error_of e) ≡ number_told {B = B} (Err e)
told_number B (Broken f) = refl
told_number B (Refused n) = refl

pub none_refused : {B : Type 0} {r : Result B CallError} {e : CallError} (given : ℕ) → r ≡ Err e → number_told r ≡ number_earned given → given < most_groups → number_of (rule_error_of e) ≡ None
none_refused {B} {r} {e} given w n l = let z : nat_lt given most_groups ≡ true = grind arith in told_number B e ∙ sym (ap number_told w) ∙ n ∙ cond-true _ _ _ z

module _ {A Q : Type 0} (key : A → Result Q Fault) (same : Q → Q → Bool) where
  abbrev head_on : Option Q → A → (Q → List (Step A)) → Result Q Fault → List (Step A)
  head_on k a later (Err f) = Err f ∷ []
  head_on None a later (Ok q) = Ok a ∷ later q
  head_on (Some old) a later (Ok q) = cond (same q old) (later old) (Ok a ∷ later q)

  -- the first items of the runs ahead, behind a run with this key if there was one, and the faults
  abbrev pub heads : Option Q → List (Step A) → List (Step A)
  heads k [] = []
  heads k (Err f ∷ ss) = Err f ∷ heads k ss
  heads k (Ok a ∷ ss) = head_on k a (λ q. heads (Some q) ss) (key a)

  -- what the next run is, where one is found, with no fault in front of it; that there is none, where the end is met; else the first fault
  abbrev HeadFound : Option Q → List (Step A) → Result (Answer (A × Q)) Fault → List (Step A) → Type 0
  HeadFound k ss (Ok (Item x)) left = (heads k ss ≡ Ok x.0 ∷ heads (Some x.1) left) × (length left < length ss) × (faults (keyed key ss) ≡ faults (keyed key left))
  HeadFound k ss (Ok End) left = heads k ss ≡ []
  HeadFound k ss (Err f) left = FirstOf (faults (keyed key ss)) f

  abbrev Sought : Option Q → List (Step A) → Found A Q → Type 0
  Sought k ss f = HeadFound k ss f.answer f.left

  its_key : (a : A) (ss : List (Step A)) (r : Result Q Fault) → key a ≡ r → faults (keyed key (Ok a ∷ ss)) ≡ faults (with_key a r ∷ keyed key ss)
  its_key a ss r e = ap (λ u. faults (with_key a u ∷ keyed key ss)) e

  started_by : (a : A) (ss : List (Step A)) (r : Result Q Fault) → key a ≡ r → Sought None (Ok a ∷ ss) (record { answer = first (with_key a r ∷ keyed key ss); left = ss })
  started_by a ss (Ok q) e = (ap (head_on None a (λ p. heads (Some p) ss)) e, omega arith, its_key a ss (Ok q) e)
  started_by a ss (Err f) e = (faults (keyed key ss), its_key a ss (Err f) e)

  started_run : (ss : List (Step A)) → Sought None ss (started key ss)
  started_run [] = refl
  started_run (Err f ∷ ss) = (faults (keyed key ss), refl)
  started_run (Ok a ∷ ss) = started_by a ss (key a) refl

  -- an item that is skipped changes nothing of what is found
  passed : (k : Option Q) (ss more : List (Step A)) → heads k more ≡ heads k ss → length ss < length more → faults (keyed key more) ≡ faults (keyed key ss) → (r : Result (Answer (A × Q)) Fault) (left : List (Step A)) → HeadFound k ss r left → HeadFound k more r left
  passed k ss more e l q (Ok (Item x)) left h = (e ∙ h.0, omega (arith, l, h.1), q ∙ h.2)
  passed k ss more e l q (Ok End) left h = e ∙ h
  passed k ss more e l q (Err f) left h = (h.0, q ∙ h.1)

  sought_on : (old : Q) (a : A) (ss : List (Step A)) (f : Found A Q) → Sought (Some old) ss f → (r : Result Q Fault) → key a ≡ r → Sought (Some old) (Ok a ∷ ss) (sought same old a ss f r)
  sought_on old a ss f h (Err g) e = (faults (keyed key ss), its_key a ss (Err g) e)
  sought_on old a ss f h (Ok q) e =
      let all : heads (Some old) (Ok a ∷ ss) ≡ cond (same q old) (heads (Some old) ss) (Ok a ∷ heads (Some q) ss) = ap (head_on (Some old) a (λ p. heads (Some p) ss)) e in
      ⊎_elim
      (λ (t : same q old ≡ true). subst (Sought (Some old) (Ok a ∷ ss)) (sym (cond-true _ _ _ t)) (passed (Some old) ss (Ok a ∷ ss) (all ∙ cond-true _ _ _ t) (omega arith) (its_key a ss (Ok q) e) f.answer f.left h))
      (λ (n : same q old ≡ false). subst (Sought (Some old) (Ok a ∷ ss)) (sym (cond-false _ _ _ n)) (all ∙ cond-false _ _ _ n, omega arith, its_key a ss (Ok q) e))
      (cases_Bool (same q old))

  skipped_run : (old : Q) (ss : List (Step A)) → Sought (Some old) ss (skipped key same old ss)
  skipped_run old [] = refl
  skipped_run old (Err f ∷ ss) = (faults (keyed key ss), refl)
  skipped_run old (Ok a ∷ ss) = sought_on old a ss (skipped key same old ss) (skipped_run old ss) (key a) refl

  next_found : (k : Option Q) (ss : List (Step A)) → Sought k ss (next_run key same k ss)
  next_found None ss = started_run ss
  next_found (Some old) ss = skipped_run old ss

  -- ---- a group call where no item waits, and the item call behind it

  opens_next : (s : Standing A Q) (k : Option Q) (ss : List (Step A)) → opens key same s k false ss ≡ opens_run s (next_run key same k ss)
  opens_next s None ss = refl
  opens_next s (Some old) ss = refl

  -- what the call found: a run, whose first item waits, or the end, or the first fault
  abbrev HeadGiven : Option Q → List (Step A) → Result (Answer (Q × ℕ)) CallError → Standing A Q → List (Step A) → Type 0
  HeadGiven k ss (Ok (Item x)) t left = (a : A) × (heads k ss ≡ Ok a ∷ heads t.current_key left) × (length left < length ss) × (faults (keyed key ss) ≡ faults (keyed key left)) × (t ≡ begun (Some a) x.0 x.1)
  HeadGiven k ss (Ok End) t left = heads k ss ≡ []
  HeadGiven k ss (Err (Broken f)) t left = FirstOf (faults (keyed key ss)) f
  HeadGiven k ss (Err (Refused n)) t left = Unit {0}

  given_at : (s : Standing A Q) (k : Option Q) (ss : List (Step A)) (r : Result (Answer (A × Q)) Fault) (left : List (Step A)) → HeadFound k ss r left →
      HeadGiven k ss (opens_at s r left).answer (opens_at s r left).standing (opens_at s r left).left
  given_at s k ss (Ok (Item x)) left h = (x.0, h.0, h.1, h.2, refl)
  given_at s k ss (Ok End) left h = h
  given_at s k ss (Err f) left h = h

  abbrev Given : Option Q → List (Step A) → Opening A Q → Type 0
  Given k ss o = HeadGiven k ss o.answer o.standing o.left

  pub head_given : (s : Standing A Q) (ss : List (Step A)) → s.next_group ≡ false → Given s.current_key ss (group_call key same s ss)
  head_given s ss e =
      ⊎_elim
      (λ (t : nat_lt s.given most_groups ≡ true). subst (Given s.current_key ss) (sym (cond-true _ _ _ t ∙ ap (λ b. opens key same s s.current_key b ss) e ∙ opens_next s s.current_key ss))
      (given_at s s.current_key ss (next_run key same s.current_key ss).answer (next_run key same s.current_key ss).left (next_found s.current_key ss)))
      (λ (n : nat_lt s.given most_groups ≡ false). subst (Given s.current_key ss) (sym (cond-false _ _ _ n)) tt)
      (cases_Bool (nat_lt s.given most_groups))

  -- the first item of a run that a group call found, as the item call behind it gives it, and where the groupby stands then
  pub record RunMet (k : Option Q) (ss : List (Step A)) (answer : Result (Answer A) Fault) (u : Standing A Q) (left : List (Step A)) : Type 0 where
    pub first : A
    pub answers : answer ≡ Ok (Item first)
    pub met : heads k ss ≡ Ok first ∷ heads u.current_key left
    pub shorter : length left < length ss
    pub faultless : faults (keyed key ss) ≡ faults (keyed key left)
    pub none_waits : u.next_group ≡ false

  met_at : (k : Option Q) (ss mid left : List (Step A)) (t u : Standing A Q) (a : A) (q : Q) (n : ℕ) (answer : Result (Answer A) Fault) (taking : Taking A Q) →
      heads k ss ≡ Ok a ∷ heads t.current_key mid → length mid < length ss → faults (keyed key ss) ≡ faults (keyed key mid) → t ≡ begun (Some a) q n →
      taking ≡ record { answer = Ok (Item a); standing = taken (begun (Some a) q n); left = mid } →
      answer ≡ taking.answer → u ≡ taking.standing → left ≡ taking.left → RunMet k ss answer u left
  met_at k ss mid left t u a q n answer taking p l c b i ia iu il =
      let w : u ≡ taken (begun (Some a) q n) = iu ∙ ap (λ (x : Taking A Q). x.standing) i in
      let v : left ≡ mid = il ∙ ap (λ (x : Taking A Q). x.left) i in
      record {
        first = a;
        answers = ia ∙ ap (λ (x : Taking A Q). x.answer) i;
        met = p ∙ ap (λ (x : Standing A Q). Ok a ∷ heads x.current_key mid) b ∙ sym (ap (λ (x : Standing A Q). Ok a ∷ heads x.current_key mid) w)
            ∙ sym (ap (λ us. Ok a ∷ heads u.current_key us) v);
        shorter = subst (λ us. length us < length ss) (sym v) l;
        faultless = c ∙ sym (ap (λ us. faults (keyed key us)) v);
        none_waits = ap (λ (x : Standing A Q). x.next_group) w;
      }

  pub run_met : (s : Standing A Q) (ss : List (Step A)) (other : A → Result Q Fault) {r : Result (Answer (Q × ℕ)) CallError} {t : Standing A Q} {mid : List (Step A)} {q : Q} {n : ℕ}
      {answer : Result (Answer A) Fault} {u : Standing A Q} {left : List (Step A)} → s.next_group ≡ false →
      r ≡ (group_call key same s ss).answer → t ≡ (group_call key same s ss).standing → mid ≡ (group_call key same s ss).left → r ≡ Ok (Item (q, n)) →
      answer ≡ (item_call other same t n mid).answer → u ≡ (item_call other same t n mid).standing → left ≡ (item_call other same t n mid).left →
      RunMet s.current_key ss answer u left
  run_met s ss other {r} {t} {mid} {q} {n} {answer} {u} {left} e ga gt gl w ia iu il =
      let o : Opening A Q = group_call key same s ss in
      let h0 : HeadGiven s.current_key ss (Ok (Item (q, n))) o.standing o.left = subst (λ x. HeadGiven s.current_key ss x o.standing o.left) (sym ga ∙ w) (head_given s ss e) in
      let h1 : HeadGiven s.current_key ss (Ok (Item (q, n))) t o.left = subst (λ x. HeadGiven s.current_key ss (Ok (Item (q, n))) x o.left) (sym gt) h0 in
      let h : HeadGiven s.current_key ss (Ok (Item (q, n))) t mid = subst (λ x. HeadGiven s.current_key ss (Ok (Item (q, n))) t x) (sym gl) h1 in
      met_at s.current_key ss mid left t u h.0 q n answer (item_call other same t n mid) h.1 h.2 h.3 h.4 (ap (λ x. item_call other same x n mid) h.4 ∙ first_given other same h.0 q n mid) ia iu il

  pub one_waits : {k : Option Q} {ss left : List (Step A)} {answer : Result (Answer A) Fault} {u : Standing A Q} → RunMet k ss answer u left → answer ≡ Ok End → ⊥
  one_waits m e = no_end (sym m.answers ∙ e)

  -- the first items so far, with this one, and those of the runs still ahead
  pub met_more : {k : Option Q} {all ss left : List (Step A)} {answer : Result (Answer A) Fault} {u : Standing A Q} (xs ys : List A) (a : A) → RunMet k ss answer u left →
      answer ≡ Ok (Item a) → ys ≡ xs ++ a ∷ [] → all ≡ map Ok xs ++ heads k ss → all ≡ map Ok ys ++ heads u.current_key left
  met_more {k} {all} {ss} {left} {answer} {u} xs ys a m e n h =
      let w : Ok (Item m.first) ≡ Ok (Item a) = sym m.answers ∙ e in
      h ∙ ap (λ us. map Ok xs ++ us) (m.met ∙ ap (λ x. Ok x ∷ heads u.current_key left) (same_item w)) ∙ listed_more xs a (heads u.current_key left)
      ∙ ap (λ us. map Ok us ++ heads u.current_key left) (sym n)

  pub none_broken : {k : Option Q} {ss left : List (Step A)} {answer : Result (Answer A) Fault} {u : Standing A Q} {f : Fault} → RunMet k ss answer u left → answer ≡ Err f → ⊥
  none_broken m e = no_break (sym m.answers ∙ e)

  -- the error of a rule that is made of the call's
  told_fault : (k : Option Q) (ss : List (Step A)) (t : Standing A Q) (left : List (Step A)) (e : CallError) → HeadGiven k ss (Err e) t left →
      OfError (rule_error_of e) (FirstOf (faults (keyed key ss)))
  told_fault k ss t left (Broken f) h = h
  told_fault k ss t left (Refused n) h = tt

  pub fault_met : (s : Standing A Q) (ss : List (Step A)) (all : List Fault) {r : Result (Answer (Q × ℕ)) CallError} {e : CallError} → s.next_group ≡ false → r ≡ (group_call key same s ss).answer →
      r ≡ Err e → all ≡ faults (keyed key ss) → OfError (rule_error_of e) (FirstOf all)
  fault_met s ss all {r} {e} n ga w m =
      let o : Opening A Q = group_call key same s ss in
      OnFault-weaker {X = Unit {0}} (Err (rule_error_of e)) _ _ (λ f h. (h.0, m ∙ h.1)) (told_fault s.current_key ss o.standing o.left e (subst (λ x. HeadGiven s.current_key ss x o.standing o.left) (sym ga ∙ w) (head_given s ss n)))

  -- ---- how many groups were given

  given_at_most : (s : Standing A Q) (r : Result (Answer (A × Q)) Fault) (left : List (Step A)) → (opens_at s r left).standing.given ≤ s.given + 1
  given_at_most s (Ok (Item x)) left = omega arith
  given_at_most s (Ok End) left = omega arith
  given_at_most s (Err f) left = omega arith

  opens_at_most : (s : Standing A Q) (k : Option Q) (b : Bool) (ss : List (Step A)) → (opens key same s k b ss).standing.given ≤ s.given + 1
  opens_at_most s None b ss = given_at_most s (next_run key same None ss).answer (next_run key same None ss).left
  opens_at_most s (Some q) false ss = given_at_most s (next_run key same (Some q) ss).answer (next_run key same (Some q) ss).left
  opens_at_most s (Some q) true ss = omega arith

  pub one_more : (s : Standing A Q) (ss : List (Step A)) → (group_call key same s ss).standing.given ≤ s.given + 1
  one_more s ss = ⊎_elim
      (λ (t : nat_lt s.given most_groups ≡ true). subst (λ (o : Opening A Q). o.standing.given ≤ s.given + 1) (sym (cond-true _ _ _ t)) (opens_at_most s s.current_key s.next_group ss))
      (λ (n : nat_lt s.given most_groups ≡ false). subst (λ (o : Opening A Q). o.standing.given ≤ s.given + 1) (sym (cond-false _ _ _ n)) (omega arith))
      (cases_Bool (nat_lt s.given most_groups))

  -- no run is ahead where the call gives none
  pub none_met : (s : Standing A Q) (ss : List (Step A)) {r : Result (Answer (Q × ℕ)) CallError} → s.next_group ≡ false → r ≡ (group_call key same s ss).answer →
      r ≡ Ok End → heads s.current_key ss ≡ []
  none_met s ss e ga w =
      let o : Opening A Q = group_call key same s ss in
      subst (λ x. HeadGiven s.current_key ss x o.standing o.left) (sym ga ∙ w) (head_given s ss e)

  -- ---- the items that were met are the first of each run

  pub record After (old : Q) (ss : List (Step A)) (ys : List A) : Type 0 where
    pub more : List A
    pub after : List A
    pub all : ss ≡ map Ok (more ++ after)
    pub equal : AllEqual key same old more
    pub stops : Stops key same old after
    pub runs : List (Run A Q)
    pub divided : Runs key same after runs
    pub firsts : ys ≡ map (λ r. r.first) runs

  after_none : (old : Q) (ys : List A) → ◌≡◌ {A = List (Step A)} [] (map Ok ys) → After old [] ys
  after_none old [] e = record { more = []; after = []; all = refl; equal = tt; stops = tt; runs = []; divided = refl; firsts = refl }
  after_none old (y ∷ ys) e = absurd (no_item ys e)

  after_same : (old q : Q) (a : A) (ss : List (Step A)) (ys : List A) → key a ≡ Ok q → same q old ≡ true → After old ss ys → After old (Ok a ∷ ss) ys
  after_same old q a ss ys e s h = record {
    more = a ∷ h.more;
    after = h.after;
    all = ap (λ us. Ok a ∷ us) h.all;
    equal = (record { its = q; is = e; equal = s }, h.equal);
    stops = h.stops;
    runs = h.runs;
    divided = h.divided;
    firsts = h.firsts;
  }

  abbrev headed : A → Q → List A → Run A Q
  headed a q more = record { key = q; first = a; more = more }

  divided_on : (q : Q) (a : A) (ss : List (Step A)) (ys : List A) → key a ≡ Ok q → (h : After q ss ys) → Runs key same (a ∷ (h.more ++ h.after)) (headed a q h.more ∷ h.runs)
  divided_on q a ss ys e h = (h.after, refl, record { first_key = e; equal = h.equal; longest = h.stops }, h.divided)

  after_other : (old q : Q) (a : A) (ss : List (Step A)) (ys zs : List A) → key a ≡ Ok q → same q old ≡ false → ys ≡ a ∷ zs → After q ss zs → After old (Ok a ∷ ss) ys
  after_other old q a ss ys zs e n y h = record {
    more = [];
    after = a ∷ (h.more ++ h.after);
    all = ap (λ us. Ok a ∷ us) h.all;
    equal = tt;
    stops = record { its = q; is = e; unequal = n };
    runs = headed a q h.more ∷ h.runs;
    divided = divided_on q a ss zs e h;
    firsts = y ∙ ap (λ us. a ∷ us) h.firsts;
  }

  -- a list whose first is this item
  begins : (a : A) (ss : List (Step A)) (ys : List A) → Ok a ∷ ss ≡ map Ok ys → (zs : List A) × (ys ≡ a ∷ zs) × (ss ≡ map Ok zs)
  begins a ss [] e = cc
  begins a ss (y ∷ ys) e = (ys, cc, cc)

  after_on : (old : Q) (a : A) (ss : List (Step A)) (ys : List A) → ((q : Q) (zs : List A) → heads (Some q) ss ≡ map Ok zs → After q ss zs) → (r : Result Q Fault) → key a ≡ r
      → heads (Some old) (Ok a ∷ ss) ≡ map Ok ys → After old (Ok a ∷ ss) ys
  after_on old a ss ys behind (Err f) k e = absurd (no_fault ys (sym (ap (head_on (Some old) a (λ p. heads (Some p) ss)) k) ∙ e))
  after_on old a ss ys behind (Ok q) k e =
      let w : cond (same q old) (heads (Some old) ss) (Ok a ∷ heads (Some q) ss) ≡ map Ok ys = sym (ap (head_on (Some old) a (λ p. heads (Some p) ss)) k) ∙ e in
      ⊎_elim
      (λ (t : same q old ≡ true). after_same old q a ss ys k t (behind old ys (sym (cond-true _ _ _ t) ∙ w)))
      (λ (n : same q old ≡ false). let b = begins a (heads (Some q) ss) ys (sym (cond-false _ _ _ n) ∙ w) in after_other old q a ss ys b.0 k n b.1 (behind q b.0 b.2))
      (cases_Bool (same q old))

  after_all : (old : Q) (ss : List (Step A)) (ys : List A) → heads (Some old) ss ≡ map Ok ys → After old ss ys
  after_all old [] ys e = after_none old ys e
  after_all old (Err f ∷ ss) ys e = absurd (no_fault ys e)
  after_all old (Ok a ∷ ss) ys e = after_on old a ss ys (λ q zs h. after_all q ss zs h) (key a) refl e

  pub first_of_each_run : (ss : List (Step A)) (ys : List A) → heads None ss ≡ map Ok ys → OverItems ss (λ xs. FirstOfEachRun key same xs ys)
  first_of_each_run [] [] e = ([], refl, ([], refl, refl))
  first_of_each_run [] (y ∷ ys) e = absurd (no_item ys e)
  first_of_each_run (Err f ∷ ss) ys e = absurd (no_fault ys e)
  first_of_each_run (Ok a ∷ ss) ys e = first_on (key a) refl
    where
      first_on : (r : Result Q Fault) → key a ≡ r → OverItems (Ok a ∷ ss) (λ xs. FirstOfEachRun key same xs ys)
      first_on (Err f) k = absurd (no_fault ys (sym (ap (head_on None a (λ p. heads (Some p) ss)) k) ∙ e))
      first_on (Ok q) k =
          let b = begins a (heads (Some q) ss) ys (sym (ap (head_on None a (λ p. heads (Some p) ss)) k) ∙ e) in
          let h = after_all q ss b.0 b.2 in
          (a ∷ (h.more ++ h.after), ap (λ us. Ok a ∷ us) h.all, (headed a q h.more ∷ h.runs, divided_on q a ss b.0 k h, b.1 ∙ ap (λ us. a ∷ us) h.firsts))

-- The two calls of one turn, by what their contracts say of the groupby before them, between them and behind them, where its key kind is
-- that of the groupby as it was made.
module _ {S K A Q : Type 0} (key : K → A → Result Q Fault) (ahead : S → List (Step A)) (same : Q → Q → Bool) where
  pub turn_met : (made before between after : GroupBy S K A Q) {r : Result (Answer (Q × ℕ)) CallError} {q : Q} {n : ℕ} {answer : Result (Answer A) Fault} →
      (standing before).next_group ≡ false → keying before ≡ keying made →
      r ≡ (opening key ahead same before).answer → standing between ≡ (opening key ahead same before).standing → ahead (below between) ≡ (opening key ahead same before).left → r ≡ Ok (Item (q, n)) →
      answer ≡ (taking key ahead same between n).answer → standing after ≡ (taking key ahead same between n).standing → ahead (below after) ≡ (taking key ahead same between n).left →
      RunMet (key (keying made)) same (standing before).current_key (ahead (below before)) answer (standing after) (ahead (below after))
  turn_met made before between after {r} {q} {n} {answer} e m ga gt gl w ia iu il =
      let s = standing before in
      let ss = ahead (below before) in
      run_met (key (keying made)) same s ss (key (keying between)) e
      (ga ∙ ap (λ k. (group_call (key k) same s ss).answer) m) (gt ∙ ap (λ k. (group_call (key k) same s ss).standing) m) (gl ∙ ap (λ k. (group_call (key k) same s ss).left) m) w ia iu il
